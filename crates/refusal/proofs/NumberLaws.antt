-- No refusal has the number 0, and no two have the same.
use mathlib.Core.Path.{◌≡◌, refl, sym, ap, ◌∙◌}
use mathlib.Core.List.{List, [], ◌∷◌}
use Prim.Native.Nat.{ℕ, ◌<◌}
use lib.Dec.{lit<}
use lib.ListN.{get_or}
use Rattle.refusal.specs.Numbers.{number_of}
use Rattle.refusal.specs.declared.Refusal.{Refusal}
use Rattle.refusal.specs.declared.Refusal.TheVariants.{TooManyEvents, WrongLength, SetTooLarge, DiagonalNotEq, MirrorNotConverse, PlacingLength, StartNotBeforeEnd, SheetTooLong, LineForm, NameTwice, NoSuchEvent, AboutItself}

pub number_pos : (r : Refusal) → 0 < number_of r
number_pos TooManyEvents = lit< tt
number_pos WrongLength = lit< tt
number_pos SetTooLarge = lit< tt
number_pos DiagonalNotEq = lit< tt
number_pos MirrorNotConverse = lit< tt
number_pos PlacingLength = lit< tt
number_pos StartNotBeforeEnd = lit< tt
number_pos SheetTooLong = lit< tt
number_pos LineForm = lit< tt
number_pos NameTwice = lit< tt
number_pos NoSuchEvent = lit< tt
number_pos AboutItself = lit< tt

-- the refusals by their numbers; number 0 is none of them, and any will do
abbrev by_number : List Refusal
by_number =
    TooManyEvents ∷ TooManyEvents ∷ WrongLength ∷ SetTooLarge ∷ DiagonalNotEq ∷ MirrorNotConverse ∷ PlacingLength ∷ StartNotBeforeEnd
    ∷ SheetTooLong ∷ LineForm ∷ NameTwice ∷ NoSuchEvent ∷ AboutItself ∷ []

back : (r : Refusal) → get_or by_number (number_of r) TooManyEvents ≡ r
back TooManyEvents = refl
back WrongLength = refl
back SetTooLarge = refl
back DiagonalNotEq = refl
back MirrorNotConverse = refl
back PlacingLength = refl
back StartNotBeforeEnd = refl
back SheetTooLong = refl
back LineForm = refl
back NameTwice = refl
back NoSuchEvent = refl
back AboutItself = refl

pub number_unique : (r s : Refusal) → number_of r ≡ number_of s → r ≡ s
number_unique r s e = sym (back r) ∙ ap (λ (k : ℕ). get_or by_number k TooManyEvents) e ∙ back s
