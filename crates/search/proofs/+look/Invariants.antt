use mathlib.Core.Path.{◌≡◌}
use mathlib.Core.List.{[]}
use Prim.Native.Nat.{◌≤◌}
use lib.ListN.{length}
use Rattle.theory.specs.Search.{pairs_from}
use Rattle.search.specs.Rule.{there_at, try_at, search_at}
use Rattle.search.specs.Steps.{after}
use Rattle.search.proofs.RuleLaws.{from}
use Rattle.search.proofs.+look.Given as goal

-- the cells left at the stand
abbrev pub decreases-look : goal.decreases-look
decreases-look l = l.from.left

abbrev pub invariant-loop-r : goal.invariant-loop-r
invariant-loop-r l = (l.tries ≤ l.allowance) × (l.room ≡ l.initial.room)
    × (from (there_at l.n) (try_at l.n) l.allowance (search_at l.n l.allowance (pairs_from l.n (after l.n l.at.i l.at.j).0 (after l.n l.at.i l.at.j).1)) (l.at.i, l.at.j) l.g l.r l.tries
    ≡ search_at l.n l.allowance (pairs_from l.n l.at.i l.at.j) l.g l.at.tries)
    × (l.list ≡ []) × (length l.work ≡ 1024)
