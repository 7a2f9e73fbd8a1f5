-- The places of names, for a caller that keeps them as numbers: two for each event, where its name begins in the sheet, and how long
-- it is.
use Rattle.std.specs.Prelude.{◌≡◌, cond, List, [], ◌∷◌, ◌++◌, ℕ, zero, suc, ◌+◌, ◌*◌, ◌≤◌, ◌<◌, ltb, length, take, drop, get_or}
use Rattle.std.specs.Borrow.{Bor}

abbrev pub start_at : List ℕ → ℕ → ℕ
start_at places i = get_or places (2 * i) 0

abbrev pub length_at : List ℕ → ℕ → ℕ
length_at places i = get_or places (2 * i + 1) 0

-- the name of event i
abbrev pub name_at : List ℕ → List ℕ → ℕ → List ℕ
name_at s places i = take (length_at places i) (drop (start_at places i) s)

-- the first k names
unfoldable pub names_at : List ℕ → List ℕ → ℕ → List (List ℕ)
names_at s places zero = []
names_at s places (suc k) = names_at s places k ++ name_at s places k ∷ []

-- each of them lies in the sheet
abbrev pub Within : List ℕ → List ℕ → ℕ → Type 0
Within s places k = (i : ℕ) → i < k → start_at places i + length_at places i ≤ length s

-- the places of n names
pub record Keeps (s places : List ℕ) (n : ℕ) : Type 0 where
  pub room : 2 * n ≤ length places
  pub within : Within s places n

-- the name of event i of n, as the places say, or the empty part at the sheet's beginning
pub record PlacedPart (s : Bor (List ℕ)) (places : List ℕ) (n i : ℕ) (part : Bor (List ℕ)) : Type 0 where
  pub bytes : part.now ≡ get_or (names_at s.now places n) i []
  pub memory : part.ref_ptr.0 ≡ s.ref_ptr.0
  pub start : part.ref_ptr.1 ≡ cond (ltb i n) (start_at places i) 0 + s.ref_ptr.1
