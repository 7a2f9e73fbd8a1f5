-- Rules 2.1: what each means between two placed events, over all whole numbers.
use Rattle.std.specs.Prelude.{◌≡◌, cond, List, [], ◌∷◌, ℕ, ◌+◌, ◌-◌, ◌%◌, eqb, get_or, ℤ, ◌<ℤ◌}
use Prim.Native.String.{String}

-- a placed event: its start is before its end
pub record Event : Type 0 where
  pub start : ℤ
  pub end : ℤ
  pub lasts : start <ℤ end

abbrev pub Before : Event → Event → Type 0
Before X Y = X.end <ℤ Y.start

abbrev pub MeetsEvent : Event → Event → Type 0
MeetsEvent X Y = X.end ≡ Y.start

abbrev pub Overlaps : Event → Event → Type 0
Overlaps X Y = (X.start <ℤ Y.start) × (Y.start <ℤ X.end) × (X.end <ℤ Y.end)

abbrev pub Starts : Event → Event → Type 0
Starts X Y = (X.start ≡ Y.start) × (X.end <ℤ Y.end)

abbrev pub During : Event → Event → Type 0
During X Y = (Y.start <ℤ X.start) × (X.end <ℤ Y.end)

abbrev pub Finishes : Event → Event → Type 0
Finishes X Y = (Y.start <ℤ X.start) × (X.end ≡ Y.end)

abbrev pub Equals : Event → Event → Type 0
Equals X Y = (X.start ≡ Y.start) × (X.end ≡ Y.end)

-- a relation with X and Y exchanged
abbrev pub Back : (Event → Event → Type 0) → Event → Event → Type 0
Back R X Y = R Y X

-- a relation has a name, and a meaning of X to Y
pub record Relation : Type 1 where
  pub name : String
  pub means : Event → Event → Type 0

abbrev pub named : String → (Event → Event → Type 0) → Relation
named name means = record { name = name; means = means }

-- by number, from 0
abbrev pub relations : List Relation
relations =
    named "b" Before ∷ named "bi" (Back Before) ∷ named "m" MeetsEvent ∷ named "mi" (Back MeetsEvent)
    ∷ named "o" Overlaps ∷ named "oi" (Back Overlaps) ∷ named "s" Starts ∷ named "si" (Back Starts)
    ∷ named "d" During ∷ named "di" (Back During) ∷ named "f" Finishes ∷ named "fi" (Back Finishes) ∷ named "eq" Equals ∷ []

-- no other number is a relation
abbrev pub never : Relation
never = named "" (λ X Y. ⊥)

abbrev pub relation : ℕ → Relation
relation r = get_or relations r never

-- relation r holds of X to Y
abbrev pub Holds : ℕ → Event → Event → Type 0
Holds r = (relation r).means

-- the number of relation r with X and Y exchanged: neighbours change places, and eq is kept
unfoldable pub exchanged : ℕ → ℕ
exchanged r = cond (eqb r 12) 12 (cond (eqb (r % 2) 0) (r + 1) (r - 1))
