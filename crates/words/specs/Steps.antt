-- What the inner functions on words say of their answers. A reader of what a sheet means need not read this.
use Rattle.std.specs.List.{find}
use Rattle.text.specs.Text.{same}
use Rattle.std.specs.Borrow.{Bor}
use Rattle.std.specs.Prelude.{cond, eqb, map, option_map, List, ℕ, Option, Some, None}
use Rattle.words.specs.Words.{Word, are_words, union_from}

-- a table of the code: how each word is written, and its set
abbrev pub Written : Type 0
Written = Bor (List ℕ) × ℕ

abbrev pub written : List Written → List Word
written known = map (λ w. record { name = w.0.now; means = w.1 }) known

-- the set of the first word of a table that is written so, or none
unfoldable pub look_up : List Written → List ℕ → Option ℕ
look_up known w = option_map (λ x. x.1) (find (λ x. same x.0.now w) known)

-- a set that a word means, and 0 where it is no word
abbrev pub known_set : ℕ → Option ℕ
known_set m = cond (eqb m 0) None (Some m)

-- the union of a set and the words' sets, or none where one is not known
abbrev pub union_with : List Word → ℕ → List (List ℕ) → Option ℕ
union_with known u ws = cond (are_words known ws) (Some (union_from known u ws)) None
