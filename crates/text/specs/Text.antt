-- Rules 6.1: bytes as text, the parts between a byte, decimal numbers without leading zeros.
use Rattle.std.specs.Prelude.{Bool, not, ◌&&◌, List, [], ◌∷◌, ℕ, ◌+◌, ◌*◌, ◌-◌, ltb, leb, eqb, ◌==◌, length, get_or}
use Rattle.std.specs.List.{list_all, slice_split}
use Rattle.std.specs.Str.{bytes_eq}
use Prim.Native.Char.{code}
use Prim.Native.String.{String, [] as none, ◌∷◌ as letter}

-- the bytes of a text of plain letters, as a specification writes it
abbrev pub bytes : String → List ℕ
bytes none = []
bytes (letter c s) = code c ∷ bytes s

-- The parts of a text between its bytes c: one more than there are c. A text that ends in c has an empty last part.
abbrev pub split : ℕ → List ℕ → List (List ℕ)
split c = slice_split (λ x. x == c)

-- the two texts are the same bytes
abbrev pub same : List ℕ → List ℕ → Bool
same = bytes_eq

-- every byte passes the test
abbrev pub all : (ℕ → Bool) → List ℕ → Bool
all = list_all

-- 0 to 9
abbrev pub digit : ℕ → Bool
digit x = leb 48 x && leb x 57

-- the number that v followed by the digits reads as
abbrev pub value_from : ℕ → List ℕ → ℕ
value_from v [] = v
value_from v (x ∷ xs) = value_from (v * 10 + (x - 48)) xs

abbrev pub value : List ℕ → ℕ
value xs = value_from 0 xs

-- a 0 in front of further bytes
abbrev pub leading_zero : List ℕ → Bool
leading_zero xs = ltb 1 (length xs) && eqb (get_or xs 0 0) 48

-- a decimal number without leading zeros
unfoldable pub is_number : List ℕ → Bool
is_number xs = ltb 0 (length xs) && not (leading_zero xs) && all digit xs
