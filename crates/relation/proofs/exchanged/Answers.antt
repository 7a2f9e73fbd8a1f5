-- One test over the typed list holds each of its numbers to the rule.
use mathlib.Core.List.{List, [], ◌∷◌}
use Prim.Native.Nat.{ℕ}
use lib.Dec.{eqb, eqb→eq}
use lib.ListN.{get_or}
use Rattle.relation.specs.Meaning.{exchanged}
use Rattle.relation.proofs.Tested.{all-at}
use Rattle.relation.proofs.exchanged.Goals as goal

typed : List ℕ
typed = 1 ∷ 0 ∷ 3 ∷ 2 ∷ 5 ∷ 4 ∷ 7 ∷ 6 ∷ 9 ∷ 8 ∷ 11 ∷ 10 ∷ 12 ∷ []

pub returns : goal.returns
unfolding typed exchanged
returns c = eqb→eq (get_or typed c.args.r 0) (exchanged c.args.r) (all-at 13 (λ r. eqb (get_or typed r 0) (exchanged r)) tt c.args.r c.requires)
