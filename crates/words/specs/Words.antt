-- Rules 6.2: the relation words and their sets.
use Rattle.std.specs.Prelude.{Bool, true, cond, not, ◌&&◌, List, [], ◌∷◌, ◌++◌, map, ℕ, suc, ◌^◌, eqb}
use Prim.Native.String.{String}
use Rattle.std.specs.Int.Bits.{bit_or}
use Rattle.text.specs.Text.{bytes, split, same}
use Rattle.relation.specs.Meaning.{Relation, relations}

-- how a word is written, and its set
pub record Word : Type 0 where
  pub name : List ℕ
  pub means : ℕ

-- a word by its letters
abbrev pub word : String → ℕ → Word
word name means = record { name = bytes name; means = means }

-- the set of the known word that is written so, or 0, which no word means
unfoldable pub meaning : List Word → List ℕ → ℕ
meaning [] w = 0
meaning (x ∷ known) w = cond (same x.name w) x.means (meaning known w)

-- the names of a list of relations, each with its mark: the first is relation r
abbrev pub names_from : ℕ → List Relation → List Word
names_from r [] = []
names_from r (x ∷ xs) = word x.name (2 ^ r) ∷ names_from (suc r) xs

-- the thirteen names
abbrev pub names : List Word
names = names_from 0 relations

-- the set of the relations that are named so
abbrev pub set_named : List String → ℕ
set_named [] = 0
set_named (x ∷ xs) = bit_or (meaning names (bytes x)) (set_named xs)

-- four further words
abbrev pub further : List Word
further =
    word "any" (set_named (map (λ r. r.name) relations))
    ∷ word "meanwhile" (set_named ("o" ∷ "oi" ∷ "s" ∷ "si" ∷ "d" ∷ "di" ∷ "f" ∷ "fi" ∷ "eq" ∷ []))
    ∷ word "within" (set_named ("d" ∷ []))
    ∷ word "until" (set_named ("m" ∷ []))
    ∷ []

-- the words of a sheet
unfoldable pub words : List Word
words = names ++ further

-- ---- the words of a field; `known` are the words there are

-- words are joined by commas
abbrev pub comma : ℕ
comma = 44

abbrev pub joined : List ℕ → List (List ℕ)
joined f = split comma f

-- each is a known word
abbrev pub are_words : List Word → List (List ℕ) → Bool
are_words known [] = true
are_words known (w ∷ ws) = not (eqb (meaning known w) 0) && are_words known ws

-- the union of the words' sets, with a set u
abbrev pub union_from : List Word → ℕ → List (List ℕ) → ℕ
union_from known u [] = u
union_from known u (w ∷ ws) = union_from known (bit_or u (meaning known w)) ws

-- the union of the words' sets
abbrev pub union : List Word → List (List ℕ) → ℕ
union known ws = union_from known 0 ws
