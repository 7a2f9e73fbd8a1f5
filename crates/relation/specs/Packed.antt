-- Four sets in one number, with sixteen digits for each. Inner functions cite this; the public statements do not.
use Rattle.std.specs.Prelude.{cond, ◌≡◌, ℕ, ◌+◌, ◌*◌, ◌/◌, ◌%◌, ◌^◌, ◌<◌}
use Rattle.std.specs.Int.Bits.{bit_or}
use Rattle.relation.specs.Sets.{member}
use Rattle.relation.specs.Composition.{entry, compose_row}

-- set l of the four
abbrev pub part : ℕ → ℕ → ℕ
part l x = x / 2 ^ (16 * l) % 2 ^ 13

-- the union of those of four numbers that n marks
abbrev pub picked_of : ℕ → ℕ → ℕ → ℕ → ℕ → ℕ
picked_of n p q v w = bit_or (bit_or (bit_or (cond (member 0 n) p 0) (cond (member 1 n) q 0)) (cond (member 2 n) v 0)) (cond (member 3 n) w 0)

-- relations r to r + 3 with relation s
abbrev pub FourAt : ℕ → ℕ → ℕ → Type 0
FourAt r s x = (l : ℕ) → l < 4 → part l x ≡ entry (r + l) s

-- relations r to r + 3 with those of relations s to s + 3 that n marks
abbrev pub PickedAt : ℕ → ℕ → ℕ → ℕ → Type 0
PickedAt r s n x = (l : ℕ) → l < 4 → part l x ≡ picked_of n (entry (r + l) s) (entry (r + l) (s + 1)) (entry (r + l) (s + 2)) (entry (r + l) (s + 3))

-- relations r to r + 3 with b
abbrev pub RowsFrom : ℕ → ℕ → ℕ → Type 0
RowsFrom r b x = (l : ℕ) → l < 4 → part l x ≡ compose_row (r + l) b

-- all relations in each of the four sets that n marks
abbrev pub Marked : ℕ → ℕ → Type 0
Marked n x = (l : ℕ) → l < 4 → part l x ≡ cond (member l n) 8191 0

-- the rows are those of the set
pub record RowsOf (set x y z : ℕ) : Type 0 where
  pub low : RowsFrom 0 set x
  pub middle : RowsFrom 4 set y
  pub high : RowsFrom 8 set z
