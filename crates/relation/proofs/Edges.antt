-- Both sides of the limit on sets, computed from the definitions: the refusals' numbers, 0 for none.
use mathlib.Core.Path.{◌≡◌, refl}
use mathlib.Core.List.{List, [], ◌∷◌}
use Prim.Native.Nat.{ℕ}
use Rattle.refusal.specs.Answered.{refusal_in}
use Rattle.relation.specs.Answers.{converse_said, compose_said}

unfoldable pub edges : List ℕ
edges =
    refusal_in (converse_said 8191) ∷ refusal_in (converse_said 8192)
    ∷ refusal_in (compose_said 8191 8191) ∷ refusal_in (compose_said 8191 8192) ∷ refusal_in (compose_said 8192 8191) ∷ []

pub edges_shown : edges ≡ 0 ∷ 3 ∷ 0 ∷ 3 ∷ 3 ∷ []
unfolding edges
edges_shown = refl
