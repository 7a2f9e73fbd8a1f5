-- Laws of the words: what the columns of the table hold; one word of a field.
use Prim.Native.Nat.{ℕ, ◌+◌, ◌^◌, ◌≤◌, ◌<◌}
use mathlib.Core.Path.{◌≡◌, refl, sym, ap, ◌∙◌, subst}
use mathlib.Core.Logic.{◌↔◌}
use mathlib.Core.Bool.{Bool, true, false, cond}
use mathlib.Core.List.{List, [], ◌∷◌}
use native.Mathlib.Omega.{arith}
use native.Mathlib.Numerals.{add-one}
use lib.Bits.{bit_or}
use lib.Dec.{T, eqb, eqb→eq}
use lib.ListN.{length, get_or, drop, drop_of_length-le}
use lib.Seq.{drop-cons}
use borrow.Author.Tests.{eq-eqb}
use Rattle.text.specs.Text.{bytes, same}
use Rattle.text.proofs.TextLaws.{both}
use Rattle.relation.specs.Meaning.{Event, relation, Holds}
use Rattle.relation.specs.Sets.{member}
use Rattle.relation.specs.Comparing.{rel_of}
use Rattle.relation.proofs.Tested.{T_of, all, all-at}
use Rattle.relation.proofs.SetLaws.{member-mark}
use Rattle.relation.proofs.Relations.{rel_of_lt, exactly_one}
use Rattle.words.specs.Words.{Word, words, meaning, are_words, union_from}
use Rattle.words.specs.Steps.{Written, written, look_up, known_set, union_with}
use Rattle.std.specs.Prelude.{Option, Some, None, option_map, not}
use Rattle.std.specs.List.{find, list_all}

-- ---- the table

pub seventeen : length words ≡ 17
unfolding words
seventeen = refl

-- every one of the words has a set
have_sets : List Word → Bool
have_sets ws = list_all (λ x. not (eqb x.means 0)) ws

module _ (w : List ℕ) where
  found : (known : List Written) → have_sets (written known) ≡ true → look_up known w ≡ known_set (meaning (written known) w)
  unfolding have_sets meaning look_up
  found [] h = refl
  found (x ∷ known) h =
      let s = both (not (eqb x.1 0)) (have_sets (written known)) h in
      by (same x.0.now w) (eqb x.1 0) s.0 refl (found known s.1)
    where
      by : (t z : Bool) → not z ≡ true → eqb x.1 0 ≡ z → look_up known w ≡ known_set (meaning (written known) w)
          → option_map (λ (y : Written). y.1) (cond t (Some x) (find (λ y. same y.0.now w) known)) ≡ known_set (cond t x.1 (meaning (written known) w))
      by true true n e i = absurd (cc)
      by true false n e i = rw e
      by false z n e i = i

  -- a table of the words finds what they mean
  pub meaning_found : (known : List Written) (r : Option ℕ) → r ≡ look_up known w → written known ≡ words → r ≡ known_set (meaning words w)
  unfolding words have_sets meaning
  meaning_found known r q e =
      let s : have_sets words ≡ true = refl in
      let i : look_up known w ≡ known_set (meaning (written known) w) = found known (ap have_sets e ∙ s) in
      q ∙ i ∙ ap (λ (ws : List Word). known_set (meaning ws w)) e

-- ---- one word of a field

from_some : (n v : ℕ) → Some v ≡ known_set n → (eqb n 0 ≡ false) × (v ≡ n)
from_some n v e = by (eqb n 0) e
  where
    by : (z : Bool) → Some v ≡ cond z None (Some n) → (z ≡ false) × (v ≡ n)
    by true e = absurd (cc)
    by false e = (refl, (cc))

from_none : (n : ℕ) → None ≡ known_set n → eqb n 0 ≡ true
from_none n e = by (eqb n 0) e
  where
    by : (z : Bool) → None ≡ cond z None (Some n) → z ≡ true
    by true e = refl
    by false e = absurd (cc)

-- the words ws are read up to k, and w is the next one
module _ (known : List Word) (u : ℕ) (ws : List (List ℕ)) (k : ℕ) (w : List ℕ) (h : (k < length ws) × (w ≡ get_or ws k w)) (m : Option ℕ) (q : m ≡ known_set (meaning known w)) where
  parted : drop k ws ≡ w ∷ drop (k + 1) ws
  parted = let e : drop k ws ≡ get_or ws k w ∷ drop (k + 1) ws = rw add-one (drop-cons ws k w h.0) in e ∙ ap (λ (x : List ℕ). x ∷ drop (k + 1) ws) (sym h.1)

  pub union_bad : m ≡ None → union_with known u (drop k ws) ≡ None
  union_bad n = rw (parted, from_none (meaning known w) (sym n ∙ q))

  pub union_more : (v : ℕ) → m ≡ Some v → union_with known u (drop k ws) ≡ union_with known (bit_or u v) (drop (k + 1) ws)
  union_more v n = let s = from_some (meaning known w) v (sym n ∙ q) in rw (parted, s.0, s.1)

pub union_done : (known : List Word) (u : ℕ) (ws : List (List ℕ)) (k : ℕ) → k ≡ length ws → union_with known u (drop k ws) ≡ Some u
union_done known u ws k e = let l : length ws ≤ k = omega arith in rw (drop_of_length-le ws l)

-- ---- each name is tied to its relation

name_test : T (all 13 (λ r. eqb (meaning words (bytes (relation r).name)) (2 ^ r)))
unfolding meaning words
name_test = tt

-- the set of relation r's name has the relation between X and Y exactly if relation r holds
pub name-means : (r : ℕ) → r < 13 → (X Y : Event) → T (member (rel_of X Y) (meaning words (bytes (relation r).name))) ↔ Holds r X Y
name-means r h X Y =
    let mark : meaning words (bytes (relation r).name) ≡ 2 ^ r =
    eqb→eq (meaning words (bytes (relation r).name)) (2 ^ r) (all-at 13 (λ r. eqb (meaning words (bytes (relation r).name)) (2 ^ r)) name_test r h) in
    let has : member (rel_of X Y) (meaning words (bytes (relation r).name)) ≡ eqb (rel_of X Y) r =
    ap (member (rel_of X Y)) mark ∙ member-mark r (rel_of X Y) h (rel_of_lt X Y) in (
      λ w. (exactly_one r X Y).1 (eqb→eq (rel_of X Y) r (subst T has w)),
      λ w. subst T (sym has) (T_of (eq-eqb (rel_of X Y) r ((exactly_one r X Y).0 w))),
    )

-- ---- what an answer of union_of says

module _ (known : List Word) (u : ℕ) (ws : List (List ℕ)) where
  pub union-is : (v : ℕ) → union_with known u ws ≡ Some v → (are_words known ws ≡ true) × (union_from known u ws ≡ v)
  union-is v e = by (are_words known ws) e
    where
      by : (t : Bool) → cond t (Some (union_from known u ws)) None ≡ Some v → (t ≡ true) × (union_from known u ws ≡ v)
      by true e = (refl, (cc))
      by false e = let z : ◌≡◌ {A = ℕ} 0 1 = cc in absurd (omega arith)

  pub union_not : union_with known u ws ≡ None → are_words known ws ≡ false
  union_not e = by (are_words known ws) e
    where
      by : (t : Bool) → cond t (Some (union_from known u ws)) None ≡ None → t ≡ false
      by true e = let z : ◌≡◌ {A = ℕ} 0 1 = cc in absurd (omega arith)
      by false e = refl
