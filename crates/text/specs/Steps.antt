-- What the functions on text say of their steps. A reader of what a sheet means need not read this.
use Rattle.std.specs.Prelude.{◌≡◌, false, cond, List, [], ◌∷◌, ℕ, ◌+◌, ◌-◌, ◌≤◌, ◌<◌, ltb, leb, eqb, length, take, drop, Option, Some, None, Result, Ok, Err}
use Rattle.text.specs.Text.{split, value, is_number}
use Rattle.text.specs.declared.NoNumber.{NoNumber}
use Rattle.text.specs.declared.NoNumber.TheVariants.{Above, Not}

-- the parts after a part that ends at e: none where e is the text's end
unfoldable pub after : ℕ → List ℕ → ℕ → List (List ℕ)
after c s e = cond (ltb e (length s)) (split c (drop (e + 1) s)) []

-- The part that starts at a ends at e: it is the first of the parts from a on, and the others come after e.
pub record PartEnd (c : ℕ) (s : List ℕ) (a e : ℕ) : Type 0 where
  pub low : a ≤ e
  pub high : e ≤ length s
  pub parts : split c (drop a s) ≡ take (e - a) (drop a s) ∷ after c s e

-- just two parts, of which the first ends at k; or more, or one
abbrev pub TwoParts : ℕ → List ℕ → Option ℕ → Type 0
TwoParts c s (Some k) = (k < length s) × (split c s ≡ take k s ∷ drop (k + 1) s ∷ [])
TwoParts c s None = eqb (length (split c s)) 2 ≡ false

-- a decimal number of at most so much, a larger one, or none
abbrev pub number_up_to : ℕ → List ℕ → Result ℕ NoNumber
number_up_to most s = cond (is_number s) (cond (leb (value s) most) (Ok (value s)) (Err Above)) (Err Not)
