use mathlib.Core.Path.{◌≡◌}
use lib.ListN.{length, drop}
use Rattle.words.specs.Words.{words, joined}
use Rattle.words.specs.Steps.{union_with}
use Rattle.words.proofs.union_of.Given as goal

abbrev pub invariant-loop-w : goal.invariant-loop-w
invariant-loop-w l = union_with words 0 (joined l.f) ≡ union_with words l.u (drop (length l.yielded) (joined l.f))
