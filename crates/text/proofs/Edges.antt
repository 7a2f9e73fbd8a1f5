-- Both sides of the limits on a name, computed from the definition: 9 where it breaks the form, 0 where not.
use mathlib.Core.Path.{◌≡◌, refl}
use mathlib.Core.Bool.{cond}
use mathlib.Core.List.{List, [], ◌∷◌}
use Prim.Native.Nat.{ℕ}
use lib.ListN.{replicate}
use Rattle.text.specs.Names.{is_name}

-- a name of so many letters a
abbrev name_fault : ℕ → ℕ
name_fault k = cond (is_name (replicate k 97)) 0 9

unfoldable pub edges : List ℕ
edges = name_fault 0 ∷ name_fault 1 ∷ name_fault 16 ∷ name_fault 17 ∷ []

pub edges_shown : edges ≡ 9 ∷ 0 ∷ 0 ∷ 9 ∷ []
unfolding is_name edges
edges_shown = refl
