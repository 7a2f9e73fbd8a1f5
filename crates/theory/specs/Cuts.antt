-- A take of quick closing, cut by cut: the first cut at k has the number 2 * k, the second 2 * k + 1. Inner functions cite this; the public statements do not.
use Rattle.std.specs.Prelude.{List, cond, ℕ, zero, suc, ◌-◌, ◌*◌, ◌/◌, ◌%◌, eqb}
use Rattle.theory.specs.Calculus.{Calculus}
use Rattle.theory.specs.Quick.{Out, going, and_then, cut}

-- cut c in the take of (i, j) is that of one event to another, by way of a third
abbrev pub from_of : ℕ → ℕ → ℕ
from_of i c = cond (eqb (c % 2) 0) i (c / 2)

abbrev pub via_of : ℕ → ℕ → ℕ → ℕ
via_of i j c = cond (eqb (c % 2) 0) j i

abbrev pub to_of : ℕ → ℕ → ℕ
to_of j c = cond (eqb (c % 2) 0) (c / 2) j

-- cut c, and none where its k is i or j
unfoldable pub cut_at : Calculus → ℕ → ℕ → ℕ → ℕ → List ℕ → List ℕ → Out
cut_at A n i j c g q = cond (eqb (c / 2) i) (going g q) (cond (eqb (c / 2) j) (going g q) (cut A n (from_of i c) (via_of i j c) (to_of j c) g q))

-- f more cuts, from c on
unfoldable pub cuts : Calculus → ℕ → ℕ → ℕ → ℕ → ℕ → List ℕ → List ℕ → Out
cuts A n i j zero c g q = going g q
cuts A n i j (suc f) c g q = and_then (cut_at A n i j c g q) (cuts A n i j f (suc c))

-- the cuts left, with c of n * 2 made
abbrev pub cuts_from : Calculus → ℕ → ℕ → ℕ → ℕ → List ℕ → List ℕ → Out
cuts_from A n i j c g q = cuts A n i j (n * 2 - c) c g q
