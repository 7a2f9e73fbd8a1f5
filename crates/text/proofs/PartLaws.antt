-- Laws of the parts of a text.
use Prim.Native.Nat.{ℕ, zero, suc, ◌+◌, ◌-◌, ◌≤◌, ◌<◌}
use mathlib.Core.Path.{◌≡◌, refl, sym, ap, ◌∙◌}
use mathlib.Core.Bool.{Bool, true, false, cond}
use mathlib.Core.List.{List, [], ◌∷◌}
use native.Mathlib.Omega.{arith}
use native.Mathlib.Decide.{dec_lt}
use native.Mathlib.Numerals.{add-one}
use native.Mathlib.Nat.{sub-zero}
use lib.Dec.{eqb, ltb}
use lib.ListN.{length, take, drop, length-drop}
use lib.Seq.{drop-drop, drop-nil, take_all, take-nil, length-take-le}
use Rattle.std.specs.Prelude.{Option, Some, None, position, ◌==◌}
use Rattle.std.specs.List.{position_or_len, onto_first}
use Rattle.std.proofs.lemmas.List.Recursion.{is_position_or_len}
use borrow.Author.Tests.{lt-ltb, le-ltb, ne_eqb}
use Rattle.text.specs.Text.{split}
use Rattle.text.specs.Steps.{after, PartEnd}

-- ---- counting up to the byte c

-- how many bytes stand before the first c, or all of them
abbrev pub until : ℕ → List ℕ → ℕ
until c [] = zero
until c (x ∷ xs) = cond (eqb x c) zero (suc (until c xs))

until_position : (c : ℕ) (xs : List ℕ) → until c xs ≡ position_or_len (λ x. x == c) xs
until_position c = is_position_or_len (until c) (λ x. x == c) refl (λ x xs. let e : suc (until c xs) ≡ 1 + until c xs = omega arith in ap (cond (eqb x c) 0) e)

pub until_le : (c : ℕ) (xs : List ℕ) → until c xs ≤ length xs
until_le c [] = omega arith
until_le c (x ∷ xs) = by (eqb x c) (until_le c xs)
  where
    by : (t : Bool) → until c xs ≤ length xs → cond t zero (suc (until c xs)) ≤ suc (length xs)
    by true i = omega arith
    by false i = omega arith

-- ---- the first part, and the others

pub take_rest : (s : List ℕ) (a : ℕ) → take (length s - a) (drop a s) ≡ drop a s
take_rest s a = take_all (length s - a) (drop a s) (omega (arith, length-drop a s))

-- the first part is what stands before the first c, and the others are those of what stands after it
split-next : (c : ℕ) (xs : List ℕ) → until c xs < length xs → split c xs ≡ take (until c xs) xs ∷ split c (drop (until c xs + 1) xs)
split-next c [] h = absurd (omega arith)
split-next c (x ∷ xs) h = rw add-one (by (eqb x c) (split-next c xs) h)
  where
    by : (t : Bool) → (until c xs < length xs → split c xs ≡ take (until c xs) xs ∷ split c (drop (until c xs + 1) xs))
        → cond t zero (suc (until c xs)) < suc (length xs)
        → cond t ([] ∷ split c xs) (onto_first x (split c xs)) ≡ take (cond t zero (suc (until c xs))) (x ∷ xs) ∷ split c (drop (suc (cond t zero (suc (until c xs)))) (x ∷ xs))
    by true i h = refl
    by false i h = rw (i (omega arith), add-one)

split_last : (c : ℕ) (xs : List ℕ) → length xs ≤ until c xs → split c xs ≡ take (until c xs) xs ∷ []
split_last c [] h = refl
split_last c (x ∷ xs) h = by (eqb x c) (split_last c xs) h
  where
    by : (t : Bool) → (length xs ≤ until c xs → split c xs ≡ take (until c xs) xs ∷ [])
        → suc (length xs) ≤ cond t zero (suc (until c xs)) → cond t ([] ∷ split c xs) (onto_first x (split c xs)) ≡ take (cond t zero (suc (until c xs))) (x ∷ xs) ∷ []
    by true i h = absurd (omega arith)
    by false i h = rw (i (omega arith))

pub after_next : (c : ℕ) (s : List ℕ) (e : ℕ) → e < length s → after c s e ≡ split c (drop (e + 1) s)
unfolding after
after_next c s e h = rw (lt-ltb _ _ h)

pub after_last : (c : ℕ) (s : List ℕ) (e : ℕ) → length s ≤ e → after c s e ≡ []
unfolding after
after_last c s e h = rw (le-ltb _ _ h)

pub part_end : (c : ℕ) (s : List ℕ) (a e : ℕ) → a ≤ length s → e ≡ a + until c (drop a s) → PartEnd c s a e
part_end c s a e h q =
    let l = until_le c (drop a s) in
    let n = length-drop a s in
    let k : e - a ≡ until c (drop a s) = omega arith in
    let j : e + 1 ≡ a + (until c (drop a s) + 1) = omega arith in
    record {
      low = omega arith;
      high = omega arith;
      parts = elim (dec_lt e (length s)) [
        | yes b ↦ rw (after_next c s e b, k, j, split-next c (drop a s) (omega arith), drop-drop)
        | no b ↦ let g : length s ≤ e = omega arith in rw (after_last c s e g, k, split_last c (drop a s) (omega arith))
      ];
    }

-- the first c of the rest is what `position` answers
module _ (c : ℕ) (s : List ℕ) (a : ℕ) (h : a ≤ length s) (r : Option ℕ) (e : r ≡ position (λ x. x == c) (take (length s - a) (drop a s))) where
  found : r ≡ cond (ltb (until c (drop a s)) (length (drop a s))) (Some (until c (drop a s))) None
  found = rw (until_position c (drop a s), ← take_rest s a) e

  pub part_found : (k : ℕ) → r ≡ Some k → PartEnd c s a (a + k)
  part_found k q = part_end c s a (a + k) h (ap (λ (i : ℕ). a + i) (by (ltb (until c (drop a s)) (length (drop a s))) (sym q ∙ found)))
    where
      by : {u : ℕ} (t : Bool) → Some k ≡ cond t (Some u) None → k ≡ u
      by true e = cc
      by false e = absurd (cc)

  pub part_open : r ≡ None → PartEnd c s a (length s)
  part_open q =
      let le = until_le c (drop a s) in
      let n = length-drop a s in
      elim (dec_lt (until c (drop a s)) (length (drop a s))) [
        | yes l ↦ let f : r ≡ Some (until c (drop a s)) = rw (lt-ltb _ _ l) at found in absurd (cc)
        | no l ↦ part_end c s a (length s) h (omega arith)
      ]

-- the part has the bytes from a up to e
pub part_length : (c : ℕ) (s : List ℕ) (a e : ℕ) → PartEnd c s a e → length (take (e - a) (drop a s)) ≡ e - a
part_length c s a e p = length-take-le (e - a) (drop a s) (omega (arith, length-drop a s, p.low, p.high))

-- there is always a part
pub split-some : (c : ℕ) (xs : List ℕ) → 1 ≤ length (split c xs)
split-some c xs = elim (dec_lt (until c xs) (length xs)) [
  | yes h ↦ rw (split-next c xs h) (omega arith)
  | no h ↦ let g : length xs ≤ until c xs = omega arith in rw (split_last c xs g) (omega arith)
]

onto_first-length : (x : ℕ) (ps : List (List ℕ)) → 1 ≤ length ps → length (onto_first x ps) ≡ length ps
onto_first-length x [] h = absurd (omega arith)
onto_first-length x (p ∷ ps) h = refl

-- there is at most one part more than there are bytes
pub split-few : (c : ℕ) (xs : List ℕ) → length (split c xs) ≤ suc (length xs)
split-few c [] = omega arith
split-few c (x ∷ xs) = by (eqb x c) (split-few c xs)
  where
    by : (b : Bool) → length (split c xs) ≤ suc (length xs) → length (cond b ([] ∷ split c xs) (onto_first x (split c xs))) ≤ suc (suc (length xs))
    by true h = omega arith
    by false h = omega (arith, onto_first-length x (split c xs) (split-some c xs))

-- ---- a part of a part

pub drop-take : (m n : ℕ) (l : List ℕ) → drop m (take n l) ≡ take (n - m) (drop m l)
drop-take zero n l = rw sub-zero
drop-take (suc m) zero l = let z : zero - suc m ≡ 0 = omega arith in rw (z, drop-nil)
drop-take (suc m) (suc n) [] = sym (take-nil (suc n - suc m))
drop-take (suc m) (suc n) (x ∷ l) = let z : suc n - suc m ≡ n - m = omega arith in rw z (drop-take m n l)

-- ---- texts of two parts

module _ (c : ℕ) (s : List ℕ) (k : ℕ) (p : PartEnd c s 0 k) where
  pub one-part : length s ≤ k → eqb (length (split c s)) 2 ≡ false
  one-part h = rw (p.parts, after_last c s k h)

  pub two-parts : (e : ℕ) → k < length s → PartEnd c s (k + 1) e → length s ≤ e → split c s ≡ take k s ∷ drop (k + 1) s ∷ []
  two-parts e h q g =
      let j : e ≡ length s = omega (arith, q.high) in
      rw (p.parts, after_next c s k h, q.parts, after_last c s e g, j, take_rest, sub-zero)

  pub many_parts : (e : ℕ) → k < length s → PartEnd c s (k + 1) e → e < length s → eqb (length (split c s)) 2 ≡ false
  many_parts e h q g =
      rw (p.parts, after_next c s k h, q.parts, after_next c s e g)
      (ne_eqb (suc (suc (length (split c (drop (e + 1) s))))) 2 (λ y. omega (arith, split-some c (drop (e + 1) s))))
