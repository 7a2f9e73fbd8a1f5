-- The relation between two events, worked out by comparing their ends. proofs/Relations.antt shows that it is the one that holds.
use Rattle.std.specs.Prelude.{Bool, true, false, ℕ}
use Rattle.std.specs.Int.Signed.{lt_z}
use Rattle.relation.specs.Meaning.{Event}

-- how two numbers compare, from the tests of "less" both ways
pub data Order : Type 0 where
  less : Order
  same : Order
  more : Order

abbrev pub order : Bool → Bool → Order
order true b = less
order false true = more
order false false = same

-- X's end to Y's start, Y's end to X's start, start to start, end to end
abbrev pub rel_from : Order → Order → Order → Order → ℕ
rel_from less p q u = 0
rel_from same p q u = 2
rel_from more less q u = 1
rel_from more same q u = 3
rel_from more more less less = 4
rel_from more more less same = 11
rel_from more more less more = 9
rel_from more more same less = 6
rel_from more more same same = 12
rel_from more more same more = 7
rel_from more more more less = 8
rel_from more more more same = 10
rel_from more more more more = 5

-- by any test for "less": X is a to b, and Y is c to d
abbrev pub rel_by : {A : Type 0} → (A → A → Bool) → A → A → A → A → ℕ
rel_by lt a b c d = rel_from (order (lt b c) (lt c b)) (order (lt d a) (lt a d)) (order (lt a c) (lt c a)) (order (lt b d) (lt d b))

unfoldable pub rel_of : Event → Event → ℕ
rel_of X Y = rel_by lt_z X.start X.end Y.start Y.end
