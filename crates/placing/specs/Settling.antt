-- How the placing without gaps of a scenario is worked out and checked: what the rule of the search cites. proofs/SettleLaws.antt shows what it means.
use Rattle.std.specs.Prelude.{◌≡◌, Bool, cond, not, ◌&&◌, List, [], ◌∷◌, ℕ, zero, suc, ◌+◌, ◌*◌, ◌/◌, ◌%◌, eqb, get_or, ℤ, pos}
use Rattle.std.specs.Int.Bits.{bit_and}
use Rattle.std.specs.Int.Signed.{lt_z}
use Rattle.relation.specs.Comparing.{rel_by}
use Rattle.relation.specs.Sets.{member, one_if, some}
use Rattle.grid.specs.Cells.{cell}
use Rattle.placing.specs.Checking.{some_late}

-- ---- ends: number 2 * i is the start of event i, and 2 * i + 1 its end

-- the relations under which the start (0) or end (1) of X is before the start or end of Y
unfoldable pub earlier : ℕ → ℕ → ℕ
earlier e f = get_or (get_or ((2581 ∷ 8181 ∷ []) ∷ (1 ∷ 341 ∷ []) ∷ []) e []) f 0

-- end p is before end q, by the cell of their events
unfoldable pub end_before : ℕ → List ℕ → ℕ → ℕ → Bool
end_before n g p q = not (eqb (bit_and (cell n g (p / 2) (q / 2)) (earlier (p % 2) (q % 2))) 0)

-- how many numbers below k pass a test
unfoldable pub count : ℕ → (ℕ → Bool) → ℕ
count zero t = 0
count (suc k) t = one_if (t k) + count k t

-- how many ends are before end p
unfoldable pub ends_before : ℕ → List ℕ → ℕ → ℕ
ends_before n g p = count (2 * n) (λ q. end_before n g q p)

-- v is a value of f, at some place below m
abbrev pub is_value : (ℕ → ℕ) → ℕ → ℕ → Bool
is_value f m v = some m (λ p. eqb (f p) v)

-- how many numbers below v are such values
unfoldable pub values_below : (ℕ → ℕ) → ℕ → ℕ → ℕ
values_below f m v = count v (is_value f m)

-- an end's number is how many different values are below its own
unfoldable pub end_number : ℕ → List ℕ → ℕ → ℕ
end_number n g p = values_below (ends_before n g) (2 * n) (ends_before n g p)

abbrev pub gapless_end : ℕ → List ℕ → ℕ → ℤ
gapless_end n g p = pos (end_number n g p)

-- ---- the placing

-- f 0, f 1, .. of so many numbers
unfoldable pub list_of : ℕ → (ℕ → ℤ) → List ℤ
list_of zero f = []
list_of (suc k) f = f 0 ∷ list_of k (λ p. f (suc p))

unfoldable pub placing_of : ℕ → List ℕ → List ℤ
placing_of n g = list_of (2 * n) (gapless_end n g)

-- ---- its check

-- the relation of event i to event j, where v gives the ends
abbrev pub relation_at : (ℕ → ℤ) → ℕ → ℕ → ℕ
relation_at v i j = rel_by lt_z (v (2 * i)) (v (2 * i + 1)) (v (2 * j)) (v (2 * j + 1))

-- a cell has not the relation of its events
abbrev pub missed : ℕ → List ℕ → (ℕ → ℤ) → ℕ → ℕ → Bool
missed n g v i j = not (member (relation_at v i j) (cell n g i j))

abbrev pub row_missed : ℕ → List ℕ → (ℕ → ℤ) → ℕ → Bool
row_missed n g v i = some n (missed n g v i)

abbrev pub some_missed : ℕ → List ℕ → (ℕ → ℤ) → Bool
some_missed n g v = some n (row_missed n g v)

-- the placing worked out is one, and meets every cell
unfoldable pub settles : ℕ → List ℕ → Bool
settles n g = not (some_late n (gapless_end n g)) && not (some_missed n g (gapless_end n g))

-- the answer, and the room afterwards: the placing, or as found
pub record Settled (n : ℕ) (g : List ℕ) (room after : List ℤ) (r : Bool) : Type 0 where
  pub answer : r ≡ settles n g
  pub room_after : after ≡ cond (settles n g) (placing_of n g) room
