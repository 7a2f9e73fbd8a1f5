-- The cells in order, and how the search goes on from one relation to the next.
use mathlib.Core.Path.{◌≡◌, refl, sym, ap, ap₂, subst, ◌∙◌}
use mathlib.Core.Bool.{Bool, true, false}
use mathlib.Core.Logic.{⊎_elim}
use mathlib.Core.List.{List, [], ◌∷◌, ◌++◌}
use Prim.Native.Nat.{ℕ, zero, suc, ◌+◌, ◌-◌, ◌*◌, ◌/◌, ◌≤◌, ◌<◌}
use native.Mathlib.Nat.{mul-le-mul, eq-or-lt_of_le, le-mul_of_pos_right, zero-lt-suc}
use native.Mathlib.Omega.{arith}
use native.Mathlib.Decide.{dec_lt}
use borrow.Author.Tests.{eq-eqb, ne_eqb, lt-ltb, le-ltb}
use lib.Dec.{T, eqb, eqb→eq}
use lib.IntN.{ℤ}
use lib.ListN.{length}
use Rattle.relation.proofs.Tested.{all, all-at}
use Rattle.theory.specs.Search.{Pair, Tried, emptied, closed, Found, placed, none, gave_up, or_next, turn_of, relations_from, row, rows, pairs_from}
use Rattle.placing.specs.Settling.{settles, Settled}
use Rattle.search.specs.Answers.{looked}
use Rattle.search.specs.Steps.{Settles, AtCell, after}
use Rattle.search.specs.declared.Looked.{Looked}
use Rattle.search.specs.declared.Outcome.TheVariants.{Placed, None}

-- ---- the cells in order

row_more : (i j k m : ℕ) → k ≡ suc m → row i j k ≡ (i, j) ∷ row i (j + 1) m
unfolding row
row_more i j k m e = rw e

rows_split : (i m k : ℕ) → k ≡ m - 1 → rows i m ≡ row i (i + 1) m ++ rows (i + 1) k
unfolding rows row
rows_split i zero k e = let z : k ≡ zero = omega arith in rw z
rows_split i (suc m) k e = let z : k ≡ m = omega arith in rw z

pairs_along : (n i j : ℕ) → j + 1 < n → pairs_from n i j ≡ (i, j) ∷ pairs_from n i (j + 1)
unfolding pairs_from
pairs_along n i j h = rw (row_more i j (n - j) (n - (j + 1)) (omega arith))

pairs-down : (n i j : ℕ) → j + 1 ≡ n → pairs_from n i j ≡ (i, j) ∷ pairs_from n (i + 1) (i + 2)
unfolding pairs_from row
pairs-down n i j h =
    let e : i + 1 + 1 ≡ i + 2 = omega arith in
    rw (row_more i j (n - j) 0 (omega arith), rows_split (i + 1) (n - (i + 2)) (n - (i + 1 + 2)) (omega arith), e)

no_pairs : (n i j : ℕ) → n ≤ j → n ≤ i + 2 → pairs_from n i j ≡ []
unfolding pairs_from row rows
no_pairs n i j h k =
    let a : n - j ≡ zero = omega arith in
    let b : n - (i + 2) ≡ zero = omega arith in
    rw (a, b)

-- (i', j') is the cell after (i, j)
pub record Next (n i j i' j' : ℕ) : Type 0 where
  pub upper : i' < j'
  pub pairs : pairs_from n i j ≡ (i, j) ∷ pairs_from n i' j'
  pub more : 0 < length (pairs_from n i' j') → j' < n

next_along : (n i j : ℕ) → i < j → j + 1 < n → Next n i j i (j + 1)
next_along n i j a b = record { upper = omega arith; pairs = pairs_along n i j b; more = λ m. b }

next_down : (n i j : ℕ) → i < j → j < n → n ≤ j + 1 → Next n i j (i + 1) (i + 2)
next_down n i j a b d =
    record {
      upper = omega arith;
      pairs = pairs-down n i j (omega arith);
      more = λ m.
          ⊎_elim
          (λ e. let z : 0 < 0 = subst (λ (l : List Pair). 0 < length l) (no_pairs n (i + 1) (i + 2) (omega arith) (omega arith)) m in absurd (omega arith))
          (λ l. l) (eq-or-lt_of_le {n = i + 2} {m = n} (omega arith));
    }

pub after_next : (n i j : ℕ) → i < j → j < n → Next n i j (after n i j).0 (after n i j).1
after_next n i j a b = go (dec_lt (j + 1) n)
  where
    go : Dec (j + 1 < n) → Next n i j (after n i j).0 (after n i j).1
    go (yes l) = rw (lt-ltb (j + 1) n l) (next_along n i j a l)
    go (no l) = rw (le-ltb (j + 1) n (omega arith)) (next_down n i j a b (omega arith))

pub at_next : (n i j left i' j' : ℕ) → AtCell n i j left → Next n i j i' j' → AtCell n i' j' (left - 1)
at_next n i j left i' j' a x =
    let l : length (pairs_from n i j) ≡ suc (length (pairs_from n i' j')) = ap length x.pairs in
    let m : length (pairs_from n i' j') ≡ left - 1 = omega (arith, a.count) in
    record { few = a.few; upper = x.upper; count = m; more = λ h. x.more (omega arith) }

-- how many cells there are, by one test for each n
counted_test : T (all 33 (λ n. eqb (length (pairs_from n 0 1)) ((n * n - n) / 2)))
unfolding pairs_from row rows
counted_test = tt

pub at_first : (n : ℕ) → n ≤ 32 → AtCell n 0 1 ((n * n - n) / 2)
at_first n h =
    record {
      few = h;
      upper = omega arith;
      count =
          eqb→eq (length (pairs_from n 0 1)) ((n * n - n) / 2)
          (all-at 33 (λ n. eqb (length (pairs_from n 0 1)) ((n * n - n) / 2)) counted_test n (omega arith));
      more = λ m. more n m;
    }
  where
    more : (k : ℕ) → 0 < (k * k - k) / 2 → 1 < k
    more zero m = absurd (omega arith)
    more (suc zero) m = absurd (omega arith)
    more (suc (suc k)) m = omega arith

pub square : (n : ℕ) → n ≤ 32 → (n ≤ n * n) × (n * n ≤ 1024)
square zero h = (omega arith, omega arith)
square (suc n) h = (le-mul_of_pos_right (suc n) (zero-lt-suc n), mul-le-mul {n₂ = 32} {m₂ = 32} h h)

-- ---- past the last cell

module _ (n t : ℕ) (g : List ℕ) (room end : List ℤ) (b : Bool) (l : Looked) (s : Settled n g room end b) where
  pub settles-placed : b ≡ true → l.outcome ≡ Placed → l.tries ≡ t → Settles n t g room l end
  settles-placed e o q =
      let y : settles n g ≡ true = sym s.answer ∙ e in
      record { answer = ap₂ looked o q ∙ simp y; room_after = s.room_after ∙ simp y; tries = q }

  pub settles-none : b ≡ false → l.outcome ≡ None → l.tries ≡ t → Settles n t g room l end
  settles-none e o q =
      let y : settles n g ≡ false = sym s.answer ∙ e in
      record { answer = ap₂ looked o q ∙ simp y; room_after = s.room_after ∙ simp y; tries = q }

-- ---- the relations of one cell: what is left, from here, is the whole

module _ (there : Pair → ℕ → List ℕ → Bool) (attempt : Pair → ℕ → List ℕ → Tried) (a : ℕ) (rest : List ℕ → ℕ → Found) (p : Pair) (g : List ℕ) where
  -- the relations from r on
  abbrev pub from : ℕ → ℕ → Found
  from r t = relations_from there attempt a rest p g (13 - r) r t

  from-turn : (r t : ℕ) → r < 13 → from r t ≡ turn_of (there p r g) (eqb t a) (attempt p r g) t rest (λ u. from (r + 1) u)
  unfolding relations_from
  from-turn r t h = let e : 13 - r ≡ suc (13 - (r + 1)) = omega arith in rw e

  pub from_end : (r t : ℕ) → 13 ≤ r → from r t ≡ none t
  unfolding relations_from
  from_end r t h = let e : 13 - r ≡ zero = omega arith in rw e

  pub from_past : (r t u : ℕ) → r < 13 → there p r g ≡ false → u ≡ t → from r t ≡ from (r + 1) u
  from_past r t u h e q = from-turn r t h ∙ rw e (ap (from (r + 1)) (sym q))

  pub from_spent : (r t : ℕ) → r < 13 → there p r g ≡ true → t ≡ a → from r t ≡ gave_up t
  from_spent r t h e f = from-turn r t h ∙ rw (e, eq-eqb t a f)

  pub from-emptied : (r t : ℕ) → r < 13 → there p r g ≡ true → (t ≡ a → ⊥) → attempt p r g ≡ emptied → from r t ≡ from (r + 1) (t + 1)
  from-emptied r t h e f k = from-turn r t h ∙ rw (e, ne_eqb t a f, k)

  pub from-closed : (r t : ℕ) (l : List ℕ) → r < 13 → there p r g ≡ true → (t ≡ a → ⊥) → attempt p r g ≡ closed l
      → from r t ≡ or_next (rest l (t + 1)) (λ u. from (r + 1) u)
  from-closed r t l h e f k = from-turn r t h ∙ rw (e, ne_eqb t a f, k)

  -- relations that are not there are passed over
  pub from_absent : (k r t : ℕ) → k + r ≤ 13 → ((x : ℕ) → r ≤ x → x < k + r → there p x g ≡ false) → from r t ≡ from (k + r) t
  from_absent zero r t h f = ap (λ (x : ℕ). from x t) (omega arith)
  from_absent (suc k) r t h f =
      let e : k + (r + 1) ≡ suc k + r = omega arith in
      from_past r t t (omega arith) (f r (omega arith) (omega arith)) refl ∙ from_absent k (r + 1) t (omega arith) (λ x a b. f x (omega arith) (omega arith))
      ∙ ap (λ (x : ℕ). from x t) e

  -- where relation r is there alone, and its try leaves the grid as it is, the search goes on with the next cell
  pub from_alone : (r t : ℕ) → r < 13 → there p r g ≡ true → ((x : ℕ) → x < 13 → (x ≡ r → ⊥) → there p x g ≡ false) → (t ≡ a → ⊥) → attempt p r g ≡ closed g → from 0 t ≡ rest g (t + 1)
  from_alone r t lt is absent fresh tried =
      let e : r + 0 ≡ r = omega arith in
      from_absent r 0 t (omega arith) (λ x h k. absent x (omega arith) (λ q. omega arith)) ∙ ap (λ (x : ℕ). from x t) e ∙ from-closed r t g lt is fresh tried
      ∙ or_none (rest g (t + 1)) (λ u. from (r + 1) u) nothing
    where
      or_none : (o : Found) (next : ℕ → Found) → ((u : ℕ) → next u ≡ none u) → or_next o next ≡ o
      or_none (placed u h) next f = refl
      or_none (none u) next f = f u
      or_none (gave_up u) next f = refl

      nothing : (u : ℕ) → from (r + 1) u ≡ none u
      nothing u =
          let e : 13 - (r + 1) + (r + 1) ≡ 13 = omega arith in
          from_absent (13 - (r + 1)) (r + 1) u (omega arith) (λ x h k. absent x (omega arith) (λ q. omega arith)) ∙ ap (λ (x : ℕ). from x u) e ∙ from_end 13 u (omega arith)
