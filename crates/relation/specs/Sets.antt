-- Rules 2.2: sets of relations as numbers. Relation r has the mark 2 ^ r.
use Rattle.std.specs.Prelude.{Bool, true, false, ◌&&◌, ℕ, zero, suc, ◌+◌, ◌*◌, ◌/◌, ◌%◌, ◌^◌, ◌<◌, T, eqb}

-- the set a has the mark of relation r
unfoldable pub member : ℕ → ℕ → Bool
member r a = eqb (a / 2 ^ r % 2) 1

-- 1 where a test is passed, and else 0
abbrev pub one_if : Bool → ℕ
one_if true = 1
one_if false = 0

-- the set of the relations below k that pass a test
unfoldable pub set_below : ℕ → (ℕ → Bool) → ℕ
set_below zero p = 0
set_below (suc k) p = one_if (p 0) + 2 * set_below k (λ r. p (suc r))

-- the set of the relations that pass a test
unfoldable pub set_of : (ℕ → Bool) → ℕ
unfolding set_below
set_of p = set_below 13 p

-- some number below k passes a test
unfoldable pub some : ℕ → (ℕ → Bool) → Bool
some zero p = false
some (suc k) p = elim (p k) [ true ↦ true | false ↦ some k p ]

-- the union of the sets f r over the members r of a
unfoldable pub union_over : (ℕ → ℕ) → ℕ → ℕ
unfolding some
union_over f a = set_of (λ t. some 13 (λ r. member r a && member t (f r)))

-- every member of a is a member of b
pub record Inside (a b : ℕ) : Type 0 where
  pub each : (r : ℕ) → r < 13 → T (member r a) → T (member r b)
