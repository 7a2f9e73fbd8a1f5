-- Rules 2.3 and 2.4: converse and composition. `Composed` is the meaning of the table; proofs/TableLaws.antt shows that they agree.
use Rattle.std.specs.Prelude.{List, [], ◌∷◌, ℕ, ◌^◌, get_or}
use Rattle.relation.specs.Meaning.{Event, Holds, exchanged}
use Rattle.relation.specs.Sets.{union_over}

-- each member exchanged, eq kept
unfoldable pub converse : ℕ → ℕ
unfolding union_over
converse a = union_over (λ r. 2 ^ exchanged r) a

-- some X, Y and Z have X r Y, Y s Z and X t Z
pub record Composed (r s t : ℕ) : Type 0 where
  pub X : Event
  pub Y : Event
  pub Z : Event
  pub first : Holds r X Y
  pub second : Holds s Y Z
  pub whole : Holds t X Z

-- the table of 169 sets: row r, column s
unfoldable pub table : List (List ℕ)
table =
    (1 ∷ 8191 ∷ 1 ∷ 341 ∷ 1 ∷ 341 ∷ 1 ∷ 1 ∷ 341 ∷ 1 ∷ 341 ∷ 1 ∷ 1 ∷ [])
    ∷ (8191 ∷ 2 ∷ 1322 ∷ 2 ∷ 1322 ∷ 2 ∷ 1322 ∷ 2 ∷ 1322 ∷ 2 ∷ 2 ∷ 2 ∷ 2 ∷ [])
    ∷ (1 ∷ 682 ∷ 1 ∷ 7168 ∷ 1 ∷ 336 ∷ 4 ∷ 4 ∷ 336 ∷ 1 ∷ 336 ∷ 1 ∷ 4 ∷ [])
    ∷ (2581 ∷ 2 ∷ 4288 ∷ 2 ∷ 1312 ∷ 2 ∷ 1312 ∷ 2 ∷ 1312 ∷ 2 ∷ 8 ∷ 8 ∷ 8 ∷ [])
    ∷ (1 ∷ 682 ∷ 1 ∷ 672 ∷ 21 ∷ 8176 ∷ 16 ∷ 2576 ∷ 336 ∷ 2581 ∷ 336 ∷ 21 ∷ 16 ∷ [])
    ∷ (2581 ∷ 2 ∷ 2576 ∷ 2 ∷ 8176 ∷ 42 ∷ 1312 ∷ 42 ∷ 1312 ∷ 682 ∷ 32 ∷ 672 ∷ 32 ∷ [])
    ∷ (1 ∷ 2 ∷ 1 ∷ 8 ∷ 21 ∷ 1312 ∷ 64 ∷ 4288 ∷ 256 ∷ 2581 ∷ 256 ∷ 21 ∷ 64 ∷ [])
    ∷ (2581 ∷ 2 ∷ 2576 ∷ 8 ∷ 2576 ∷ 32 ∷ 4288 ∷ 128 ∷ 1312 ∷ 512 ∷ 32 ∷ 512 ∷ 128 ∷ [])
    ∷ (1 ∷ 2 ∷ 1 ∷ 2 ∷ 341 ∷ 1322 ∷ 256 ∷ 1322 ∷ 256 ∷ 8191 ∷ 256 ∷ 341 ∷ 256 ∷ [])
    ∷ (2581 ∷ 682 ∷ 2576 ∷ 672 ∷ 2576 ∷ 672 ∷ 2576 ∷ 512 ∷ 8176 ∷ 512 ∷ 672 ∷ 512 ∷ 512 ∷ [])
    ∷ (1 ∷ 2 ∷ 4 ∷ 2 ∷ 336 ∷ 42 ∷ 256 ∷ 42 ∷ 256 ∷ 682 ∷ 1024 ∷ 7168 ∷ 1024 ∷ [])
    ∷ (1 ∷ 682 ∷ 4 ∷ 672 ∷ 16 ∷ 672 ∷ 16 ∷ 512 ∷ 336 ∷ 512 ∷ 7168 ∷ 2048 ∷ 2048 ∷ [])
    ∷ (1 ∷ 2 ∷ 4 ∷ 8 ∷ 16 ∷ 32 ∷ 64 ∷ 128 ∷ 256 ∷ 512 ∷ 1024 ∷ 2048 ∷ 4096 ∷ [])
    ∷ []

unfoldable pub entry : ℕ → ℕ → ℕ
unfolding table
entry r s = get_or (get_or table r []) s 0

-- relation r with each member of b
unfoldable pub compose_row : ℕ → ℕ → ℕ
unfolding union_over
compose_row r b = union_over (entry r) b

-- the union over all pairs of members
unfoldable pub compose : ℕ → ℕ → ℕ
unfolding union_over
compose a b = union_over (λ r. compose_row r b) a
