-- How a ring of 1,024 places and 1,024 marks hold a waiting list. The list itself is what contracts see.
use Rattle.std.specs.Prelude.{◌≡◌, Bool, false, List, [], ◌∷◌, ℕ, zero, suc, ◌+◌, ◌-◌, ◌%◌, ◌≤◌, ◌<◌, get_or, count_by}
use Rattle.relation.specs.Sets.{one_if}
use Rattle.theory.specs.Line.{occurs}

-- the l pairs in the ring from place h on
unfoldable pub queue_of : List ℕ → ℕ → ℕ → List ℕ
queue_of ring h zero = []
queue_of ring h (suc l) = get_or ring (h % 1024) 0 ∷ queue_of ring (suc h) l

-- the place of the first of l pairs, of which the last stands before place end
abbrev pub first_of : ℕ → ℕ → ℕ
first_of end l = (end + 1024 - l) % 1024

-- the l pairs in the ring before place end
abbrev pub line_of : List ℕ → ℕ → ℕ → List ℕ
line_of ring end l = queue_of ring (first_of end l) l

-- the ring holds a list of pairs, l long and before place end, and a pair that is marked waits once, another one not at all
pub record Waiting (ring : List ℕ) (waits : List Bool) (end l : ℕ) : Type 0 where
  pub end-small : end < 1024
  pub len-small : l ≤ 1024
  pub marked : (p : ℕ) → p < 1024 → one_if (get_or waits p false) ≡ occurs p (line_of ring end l)
  pub counted : count_by (λ b. b) waits ≡ l
  pub small : (p : ℕ) → 0 < occurs p (line_of ring end l) → p < 1024
