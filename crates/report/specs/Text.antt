-- Rules 8: fields parted by one space, lines ended by LF, decimal numbers without leading zeros.
use Rattle.std.specs.Prelude.{true, false, List, [], ◌∷◌, ◌++◌, ℕ, zero, suc, ◌+◌, ◌/◌, ◌%◌, ltb}
use Rattle.sheet.specs.Sheet.{lf, space}

-- the digits of k, of which there are at most so many
unfoldable pub digits : ℕ → ℕ → List ℕ
digits zero k = []
digits (suc most) k = elim (ltb k 10) [ true ↦ (48 + k) ∷ [] | false ↦ digits most (k / 10) ++ (48 + k % 10) ∷ [] ]

-- k in decimal, which never has more than k + 1 digits. proofs/DecimalLaws.antt shows that it reads as k and has no leading zero.
unfoldable pub decimal : ℕ → List ℕ
decimal k = digits (suc k) k

-- the fields of a line, and LF
abbrev pub line : List (List ℕ) → List ℕ
line [] = lf ∷ []
line (f ∷ []) = f ++ lf ∷ []
line (f ∷ g ∷ fs) = f ++ space ∷ line (g ∷ fs)
