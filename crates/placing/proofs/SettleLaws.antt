-- What settling means: the placing it works out meets the grid without gaps, a scenario that it does not settle has no placing, and a scenario has no other placing without gaps.
use mathlib.Core.Path.{◌≡◌, refl, sym, ap, ap₂, ◌∙◌, subst}
use mathlib.Core.Bool.{Bool, true, false, not, ◌&&◌}
use mathlib.Core.List.{List}
use Prim.Native.Nat.{ℕ, zero, suc, ◌+◌, ◌*◌, ◌/◌, ◌%◌, ◌^◌, ◌≤◌, ◌<◌}
use native.Mathlib.Nat.{not-suc-le-zero, le_of_suc-le-suc}
use native.Mathlib.Decide.{ℕ_discrete}
use native.Mathlib.Omega.{arith}
use borrow.Author.Tests.{not-true}
use lib.Bits.{bit_and}
use lib.Dec.{T, eqb, ltb, leb→le, le→leb, eqb→eq}
use lib.ListN.{length}
use lib.Seq.{ext_get_or}
use lib.IntN.{ℤ, pos, nat_abs}
use lib.Signed.{lt_z, ◌≤ℤ◌}
use Rattle.relation.specs.Meaning.{Event}
use Rattle.relation.specs.Composition.{converse}
use Rattle.relation.specs.Sets.{member}
use Rattle.relation.proofs.Tested.{T_of, of_T, and_left, and_right}
use Rattle.relation.proofs.Rank.{Weak}
use Rattle.relation.proofs.Order.{whole}
use Rattle.relation.proofs.SetLaws.{member-mark}
use Rattle.grid.specs.Cells.{cell}
use Rattle.grid.specs.Meets.{Meets}
use Rattle.placing.specs.Placing.{at, natural_of, MeetsAt, NoGaps}
use Rattle.placing.specs.Checking.{some_late}
use Rattle.placing.specs.Settling.{earlier, end_before, count, ends_before, end_number, gapless_end, list_of, placing_of, some_missed, settles, Settled}
use Rattle.placing.proofs.CountLaws.{count_same, count-keeps, count_le}
use Rattle.placing.proofs.GaplessLaws.{values_le, values_keep, values_onto, gapless_only}
use Rattle.placing.proofs.EarlierLaws.{end_of, earlier-is, mark-cut}
use Rattle.placing.proofs.PlacingLaws.{Gives, gives_list, Alike, alike_equal, late_alike, missed_alike, never-late, never-missed, list_meets}

-- a scenario as a grid: each cell holds exactly one relation
pub record Decided (n : ℕ) (g : List ℕ) : Type 0 where
  pub single : (i j : ℕ) → i < n → j < n → (r : ℕ) × (r < 13) × (cell n g i j ≡ 2 ^ r)
  pub diagonal : (i : ℕ) → i < n → cell n g i i ≡ 4096
  pub mirrored : (i j : ℕ) → i < n → j < n → cell n g j i ≡ converse (cell n g i j)

-- ---- the list of the numbers

list_of-length : (k : ℕ) (f : ℕ → ℤ) → length (list_of k f) ≡ k
unfolding list_of
list_of-length zero f = refl
list_of-length (suc k) f = ap suc (list_of-length k (λ p. f (suc p)))

list_of-at : (k : ℕ) (f : ℕ → ℤ) (p : ℕ) → p < k → at (list_of k f) p ≡ f p
unfolding list_of
list_of-at zero f p h = absurd (not-suc-le-zero h)
list_of-at (suc k) f zero h = refl
list_of-at (suc k) f (suc p) h = list_of-at k (λ q. f (suc q)) p (le_of_suc-le-suc h)

-- a list is that of its entries
pub is-list_of : (k : ℕ) (f : ℕ → ℤ) (xs : List ℤ) → length xs ≡ k → ((p : ℕ) → p < k → at xs p ≡ f p) → xs ≡ list_of k f
is-list_of k f xs l e =
    ext_get_or (pos 0) xs (list_of k f) (l ∙ sym (list_of-length k f))
    (λ p h. let m : p < k = omega (arith, l) in e p m ∙ sym (list_of-at k f p m))

pub placing-length : (n : ℕ) (g : List ℕ) → length (placing_of n g) ≡ 2 * n
unfolding placing_of
placing-length n g = list_of-length (2 * n) (gapless_end n g)

pub placing-at : (n : ℕ) (g : List ℕ) (p : ℕ) → p < 2 * n → at (placing_of n g) p ≡ pos (end_number n g p)
unfolding placing_of
placing-at n g p h = list_of-at (2 * n) (gapless_end n g) p h

-- no number is above that of the ends
pub placing-few : (n : ℕ) (g : List ℕ) (p : ℕ) → p < 2 * n → natural_of (at (placing_of n g) p) ≤ 2 * n
unfolding end_number ends_before
placing-few n g p h =
    let e : natural_of (at (placing_of n g) p) ≡ end_number n g p = ap natural_of (placing-at n g p h) in
    omega (arith, e, values_le (ends_before n g) (2 * n) (ends_before n g p), count_le (λ q. end_before n g q p) (2 * n))

-- the statement determines the answer and the room
pub settled_unique : (n : ℕ) (g : List ℕ) (room a b : List ℤ) (r s : Bool) → Settled n g room a r → Settled n g room b s → (r ≡ s) × (a ≡ b)
settled_unique n g room a b r s h k = (h.answer ∙ sym k.answer, h.room_after ∙ sym k.room_after)

-- ---- what is settled meets the grid, without gaps

le_pos : (k m : ℕ) → pos k ≤ℤ pos m → k ≤ m
le_pos k m h = leb→le k m h.le

pos_le : (k m : ℕ) → k ≤ m → pos k ≤ℤ pos m
pos_le k m h = record { le = le→leb k m h }

module _ (n : ℕ) (g : List ℕ) where
  -- the numbers leave no gap, whatever the grid
  number_onto : (p w : ℕ) → w ≤ end_number n g p → p < 2 * n → (q : ℕ) × (q < 2 * n) × (end_number n g q ≡ w)
  unfolding end_number
  number_onto p w h l = go (ℕ_discrete w (end_number n g p))
    where
      go : Dec (w ≡ end_number n g p) → (q : ℕ) × (q < 2 * n) × (end_number n g q ≡ w)
      go (yes e) = (p, l, sym e)
      go (no ne) = values_onto (ends_before n g) (2 * n) (ends_before n g p) w (omega arith)

  pub placing_gapless : NoGaps (placing_of n g)
  placing_gapless =
      record {
        counts = λ p h. (end_number n g p, placing-at n g p (inside p h));
        down = λ p k h l.
            let q =
            number_onto p k (le_pos k (end_number n g p) (subst (λ (z : ℤ). pos k ≤ℤ z) (placing-at n g p (inside p h)) l)) (inside p h) in
            (q.0, omega (arith, q.1, placing-length n g), placing-at n g q.0 q.1 ∙ ap pos q.2);
      }
    where
      inside : (p : ℕ) → p < length (placing_of n g) → p < 2 * n
      inside p h = omega (arith, placing-length n g)

  -- the two tests, of the numbers and of the list
  alike_list : Alike n (gapless_end n g) (at (placing_of n g))
  alike_list = alike_equal n (gapless_end n g) (at (placing_of n g)) (λ p h. sym (placing-at n g p h))

  settles_both : settles n g ≡ true
      → (some_late n (gapless_end n g) ≡ false) × (some_missed n g (gapless_end n g) ≡ false)
  unfolding settles
  settles_both e =
      let late = some_late n (gapless_end n g) in
      let missed = some_missed n g (gapless_end n g) in (
        not-true late (of_T (not late) (and_left (not late) (not missed) (T_of e))),
        not-true missed (of_T (not missed) (and_right (not late) (not missed) (T_of e))),
      )

  pub settled-meets : settles n g ≡ true → MeetsAt n g (placing_of n g)
  settled-meets e =
      let b = settles_both e in
      list_meets n g (placing_of n g)
      (sym (late_alike n (gapless_end n g) (at (placing_of n g)) alike_list) ∙ b.0)
      (sym (missed_alike n (gapless_end n g) (at (placing_of n g)) alike_list g) ∙ b.1)

-- ---- the ends of a placing

-- end p of a placing
abbrev pub end_at : (ℕ → Event) → ℕ → ℤ
end_at P p = end_of (p % 2) (P (p / 2))

gives_ends : (n : ℕ) (P : ℕ → Event) → Gives n (end_at P) P
gives_ends n P =
    record {
      starts = λ i h.
          let e : 2 * i % 2 ≡ 0 = omega arith in
          let f : 2 * i / 2 ≡ i = omega arith in
          sym (ap₂ (λ (x y : ℕ). end_of x (P y)) e f);
      ends = λ i h.
          let e : (2 * i + 1) % 2 ≡ 1 = omega arith in
          let f : (2 * i + 1) / 2 ≡ i = omega arith in
          sym (ap₂ (λ (x y : ℕ). end_of x (P y)) e f);
    }

-- the numbers that give a placing are its ends
gives_at : (n : ℕ) (v : ℕ → ℤ) (P : ℕ → Event) → Gives n v P → (p : ℕ) → p < 2 * n → v p ≡ end_at P p
gives_at n v P w p h = go (p % 2) refl
  where
    go : (s : ℕ) → p % 2 ≡ s → v p ≡ end_of s (P (p / 2))
    go zero e =
        let q : p ≡ 2 * (p / 2) = omega arith in
        ap v q ∙ sym (w.starts (p / 2) (omega arith))
    go (suc s) e =
        let q : p ≡ 2 * (p / 2) + 1 = omega arith in
        ap v q ∙ sym (w.ends (p / 2) (omega arith))

-- ---- a placing of a scenario: its cells say which ends are before which

module _ (n : ℕ) (g : List ℕ) (S : Decided n g) (P : ℕ → Event) (M : Meets n g P) where
  before-is : (p q : ℕ) → p < 2 * n → q < 2 * n → end_before n g p q ≡ lt_z (end_at P p) (end_at P q)
  unfolding end_before
  before-is p q hp hq =
      let hi : p / 2 < n = omega arith in
      let hj : q / 2 < n = omega arith in
      let m = M.each (p / 2) (q / 2) hi hj in
      let s = S.single (p / 2) (q / 2) hi hj in
      let e : m.0 ≡ s.0 = eqb→eq m.0 s.0 (subst T (ap (member m.0) s.2 ∙ member-mark s.0 m.0 s.1 m.1) m.2) in
      ap (λ (a : ℕ). not (eqb (bit_and a (earlier (p % 2) (q % 2))) 0)) (s.2 ∙ ap (λ (k : ℕ). 2 ^ k) (sym e))
      ∙ mark-cut m.0 (earlier (p % 2) (q % 2)) m.1
      ∙ earlier-is (p % 2) (q % 2) (omega arith) (omega arith) m.0 (P (p / 2)) (P (q / 2)) m.3

  abbrev ends_lt : ℕ → ℕ → Bool
  ends_lt p q = lt_z (end_at P p) (end_at P q)

  ends_weak : Weak ends_lt
  ends_weak =
      record {
        asym = λ x y. whole.asym (end_at P x) (end_at P y);
        trans = λ x y z. whole.trans (end_at P x) (end_at P y) (end_at P z);
        split = λ x y z. whole.split (end_at P x) (end_at P y) (end_at P z);
      }

  ends_before-is : (p : ℕ) → p < 2 * n → count (2 * n) (λ z. ends_lt z p) ≡ ends_before n g p
  unfolding ends_before
  ends_before-is p h = count_same (2 * n) (λ z. ends_lt z p) (λ z. end_before n g z p) (λ z l. sym (before-is z p l h))

  -- so the numbers compare as the ends of the placing do
  number_alike : Alike n (gapless_end n g) (end_at P)
  unfolding end_number
  number_alike p q hp hq =
      sym (values_keep (ends_before n g) (2 * n) p q hp hq)
      ∙ ap₂ (λ (x y : ℕ). ltb x y) (sym (ends_before-is p hp)) (sym (ends_before-is q hq))
      ∙ sym (count-keeps ends_lt ends_weak (2 * n) p q hp hq)

  -- and the grid is settled
  placed-settles : settles n g ≡ true
  unfolding settles
  placed-settles =
      ap₂ (λ (x y : Bool). not x && not y)
      (late_alike n (gapless_end n g) (end_at P) number_alike ∙ never-late n (end_at P) P (gives_ends n P))
      (missed_alike n (gapless_end n g) (end_at P) number_alike g
      ∙ never-missed n g (end_at P) P (gives_ends n P) M)

-- a scenario that is not settled has no placing
pub unsettled_none : (n : ℕ) (g : List ℕ) → Decided n g → settles n g ≡ false → (P : ℕ → Event) → Meets n g P → ⊥
unsettled_none n g S e P M = subst T (sym (placed-settles n g S P M) ∙ e) tt

-- ---- the only placing without gaps

module _ (n : ℕ) (g : List ℕ) (S : Decided n g) (xs : List ℤ) (l : length xs ≡ 2 * n) (G : NoGaps xs) (M : MeetsAt n g xs) where
  number : ℕ → ℕ
  number p = nat_abs (at xs p)

  number_is : (p : ℕ) → p < 2 * n → at xs p ≡ pos (number p)
  unfolding number
  number_is p h = let k = G.counts p (omega (arith, l)) in k.1 ∙ ap (λ (z : ℤ). pos (nat_abs z)) (sym k.1)

  -- its comparisons are read off the grid
  number_before : (p q : ℕ) → p < 2 * n → q < 2 * n → ltb (number p) (number q) ≡ end_before n g p q
  number_before p q hp hq =
      let w = gives_list n xs M.placing M.places in
      ap₂ (λ (x y : ℤ). lt_z x y) (sym (number_is p hp) ∙ gives_at n (at xs) M.placing w p hp) (sym (number_is q hq) ∙ gives_at n (at xs) M.placing w q hq)
      ∙ sym (before-is n g S M.placing M.meets p q hp hq)

  number_down : (p w : ℕ) → p < 2 * n → w < number p → (q : ℕ) × (q < 2 * n) × (number q ≡ w)
  unfolding number
  number_down p w h k =
      let q =
      G.down p w (omega (arith, l)) (subst (λ (z : ℤ). pos w ≤ℤ z) (sym (number_is p h)) (pos_le w (number p) (omega arith))) in
      (q.0, omega (arith, q.1, l), ap nat_abs q.2)

-- two placings without gaps of one scenario are equal
pub gapless_unique : (n : ℕ) (g : List ℕ) → Decided n g → (xs ys : List ℤ) → length xs ≡ 2 * n → length ys ≡ 2 * n
    → NoGaps xs → NoGaps ys → MeetsAt n g xs → MeetsAt n g ys → xs ≡ ys
gapless_unique n g S xs ys lx ly Gx Gy Mx My =
    ext_get_or (pos 0) xs ys (lx ∙ sym ly)
    (λ p h. let hp : p < 2 * n = omega (arith, lx) in
    number_is n g S xs lx Gx Mx p hp ∙ ap pos (equal p hp) ∙ sym (number_is n g S ys ly Gy My p hp))
  where
    f : ℕ → ℕ
    f = number n g S xs lx Gx Mx

    h : ℕ → ℕ
    h = number n g S ys ly Gy My

    equal : (p : ℕ) → p < 2 * n → f p ≡ h p
    equal =
        gapless_only (2 * n) f h
        (λ p q hp hq. number_before n g S xs lx Gx Mx p q hp hq ∙ sym (number_before n g S ys ly Gy My p q hp hq))
        (number_down n g S xs lx Gx Mx) (number_down n g S ys ly Gy My)

-- and it is the one worked out
pub gapless_is : (n : ℕ) (g : List ℕ) → Decided n g → (xs : List ℤ) → length xs ≡ 2 * n → NoGaps xs → MeetsAt n g xs → xs ≡ placing_of n g
gapless_is n g S xs l G M =
    gapless_unique n g S xs (placing_of n g) l (placing-length n g) G (placing_gapless n g) M
    (settled-meets n g (placed-settles n g S M.placing M.meets))
