-- Four sets in one number: what joins, cuts and picks them, and how they come to a composition.
use mathlib.Core.Path.{◌≡◌, refl, sym, ap, ap₂, ◌∙◌}
use mathlib.Core.Bool.{Bool, true, false, ◌||◌, cond}
use Prim.Native.Nat.{ℕ, zero, suc, ◌+◌, ◌*◌, ◌/◌, ◌%◌, ◌^◌, ◌≤◌, ◌<◌}
use native.Mathlib.Omega.{arith}
use native.Mathlib.Nat.{zero-div, mod-eq_of_lt}
use lib.Dec.{eqb, eqb→eq, lit<}
use lib.Bits.{bit_and, bit_or, or_lt, or_zero_l, or_comm, and_zero_r, and_le_r, and_mask, or_shr, or_mod, and_shr, and_mod}
use Rattle.relation.specs.Sets.{member, union_over}
use Rattle.relation.specs.Composition.{entry, compose_row, compose}
use Rattle.relation.specs.Packed.{part, picked_of, FourAt, PickedAt, RowsFrom, Marked}
use Rattle.relation.proofs.Tested.{T_of, or_assoc, all, all-at}
use Rattle.relation.proofs.SetLaws.{member_or, member-high, same}
use Rattle.relation.proofs.UnionLaws.{below_first, below_next, union_lt, union-small, union-mark}
use Rattle.relation.proofs.Laws.{entry-small, row_lt, compose-eq-left}

-- ---- each of the four sets by itself

part_lt : (l x : ℕ) → part l x < 8192
part_lt l x = omega arith

part_or : (l x y : ℕ) → part l (bit_or x y) ≡ bit_or (part l x) (part l y)
part_or l x y = ap (λ (z : ℕ). z % 2 ^ 13) (or_shr x y (16 * l)) ∙ or_mod (x / 2 ^ (16 * l)) (y / 2 ^ (16 * l)) 13

part_and : (l x y : ℕ) → part l (bit_and x y) ≡ bit_and (part l x) (part l y)
part_and l x y = ap (λ (z : ℕ). z % 2 ^ 13) (and_shr x y (16 * l)) ∙ and_mod (x / 2 ^ (16 * l)) (y / 2 ^ (16 * l)) 13

part_pick : (l : ℕ) (b : Bool) (x : ℕ) → part l (cond b x 0) ≡ cond b (part l x) 0
part_pick l true x = refl
part_pick l false x = ap (λ (z : ℕ). z % 2 ^ 13) (zero-div (2 ^ (16 * l)))

part-picked : (l n p q v w : ℕ) → part l (picked_of n p q v w) ≡ picked_of n (part l p) (part l q) (part l v) (part l w)
part-picked l n p q v w =
    part_or l _ _ ∙ ap₂ bit_or (part_or l _ _ ∙ ap₂ bit_or (part_or l _ _ ∙ ap₂ bit_or (part_pick l (member 0 n) p) (part_pick l (member 1 n) q)) (part_pick l (member 2 n) v)) (part_pick l (member 3 n) w)

-- ---- joining

-- three sets, grouped the other way
regrouped : (a b c : ℕ) → a < 8192 → b < 8192 → c < 8192 → bit_or (bit_or a b) c ≡ bit_or a (bit_or b c)
regrouped a b c ha hb hc =
    same (bit_or (bit_or a b) c) (bit_or a (bit_or b c)) (or_lt 13 (bit_or a b) c (or_lt 13 a b ha hb) hc) (or_lt 13 a (bit_or b c) ha (or_lt 13 b c hb hc)) (λ t h.
    member_or t (bit_or a b) c ∙ ap (λ (x : Bool). x || member t c) (member_or t a b) ∙ sym (or_assoc (member t a) (member t b) (member t c))
    ∙ sym (member_or t a (bit_or b c) ∙ ap (λ (x : Bool). member t a || x) (member_or t b c)))

-- the same four sets, one pair with the other
exchange : (a b c d : ℕ) → a < 8192 → b < 8192 → c < 8192 → d < 8192 → bit_or (bit_or a b) (bit_or c d) ≡ bit_or (bit_or a c) (bit_or b d)
exchange a b c d ha hb hc hd =
    regrouped a b (bit_or c d) ha hb (or_lt 13 c d hc hd)
    ∙ ap (bit_or a) (sym (regrouped b c d hb hc hd) ∙ ap (λ (x : ℕ). bit_or x d) (or_comm b c) ∙ regrouped c b d hc hb hd)
    ∙ sym (regrouped a c (bit_or b d) ha hc (or_lt 13 b d hb hd))

-- the union of the four sets
abbrev pub folded : ℕ → ℕ
folded x = bit_or (bit_or (bit_or (part 0 x) (part 1 x)) (part 2 x)) (part 3 x)

pub folded_or : (x y : ℕ) → folded (bit_or x y) ≡ bit_or (folded x) (folded y)
folded_or x y =
    ap₂ bit_or (ap₂ bit_or (ap₂ bit_or (part_or 0 x y) (part_or 1 x y) ∙ exchange _ _ _ _ (part_lt 0 x) (part_lt 0 y) (part_lt 1 x) (part_lt 1 y)) (part_or 2 x y)
    ∙ exchange _ _ _ _ (or_lt 13 _ _ (part_lt 0 x) (part_lt 1 x)) (or_lt 13 _ _ (part_lt 0 y) (part_lt 1 y)) (part_lt 2 x) (part_lt 2 y)) (part_or 3 x y)
    ∙ exchange _ _ _ _ (or_lt 13 _ _ (or_lt 13 _ _ (part_lt 0 x) (part_lt 1 x)) (part_lt 2 x)) (or_lt 13 _ _ (or_lt 13 _ _ (part_lt 0 y) (part_lt 1 y)) (part_lt 2 y)) (part_lt 3 x) (part_lt 3 y)

-- shifted and cut to thirteen digits
pub folds : (x : ℕ) → bit_or (bit_or (bit_or x (x / 2 ^ 16)) (x / 2 ^ 32)) (x / 2 ^ 48) % 2 ^ 13 ≡ folded x
folds x =
    let e : x % 2 ^ 13 ≡ part 0 x = omega arith in
    or_mod (bit_or (bit_or x (x / 2 ^ 16)) (x / 2 ^ 32)) (x / 2 ^ 48) 13
    ∙ ap (λ (y : ℕ). bit_or y (part 3 x)) (or_mod (bit_or x (x / 2 ^ 16)) (x / 2 ^ 32) 13 ∙ ap (λ (y : ℕ). bit_or y (part 2 x)) (or_mod x (x / 2 ^ 16) 13 ∙ ap (λ (y : ℕ). bit_or y (part 1 x)) e))

-- ---- twelve relations, four by four

-- what is joined one by one to u is joined as a whole
four_joined : (u p q v w : ℕ) → u < 8192 → p < 8192 → q < 8192 → v < 8192 → w < 8192
    → bit_or (bit_or (bit_or (bit_or u p) q) v) w ≡ bit_or u (bit_or (bit_or (bit_or p q) v) w)
four_joined u p q v w hu hp hq hv hw =
    let two = or_lt 13 p q hp hq in
    ap (λ (x : ℕ). bit_or (bit_or x v) w) (regrouped u p q hu hp hq) ∙ ap (λ (x : ℕ). bit_or x w) (regrouped u (bit_or p q) v hu two hv)
    ∙ regrouped u (bit_or (bit_or p q) v) w hu (or_lt 13 (bit_or p q) v two hv) hw

-- the relations from 4 on are the members of a / 16
from_four : (i a : ℕ) → member (suc (suc (suc (suc i)))) a ≡ member i (a / 16)
from_four i a =
    let e : a / 2 / 2 / 2 / 2 ≡ a / 16 = omega arith in
    member-high (suc (suc (suc i))) a ∙ member-high (suc (suc i)) (a / 2) ∙ member-high (suc i) (a / 2 / 2) ∙ member-high i (a / 2 / 2 / 2) ∙ ap (member i) e

from_eight : (i a : ℕ) → member (suc (suc (suc (suc (suc (suc (suc (suc i)))))))) a ≡ member i (a / 256)
from_eight i a = let e : a / 16 / 16 ≡ a / 256 = omega arith in from_four (suc (suc (suc (suc i)))) a ∙ from_four i (a / 16) ∙ ap (member i) e

pick_lt : (b : Bool) (x : ℕ) → x < 8192 → cond b x 0 < 8192
pick_lt true x h = h
pick_lt false x h = lit< tt

module _ (f : ℕ → ℕ) (small : (r : ℕ) → r < 13 → f r < 8192) (a : ℕ) where
  abbrev one : ℕ → ℕ
  one r = cond (member r a) (f r) 0

  one_lt : (r : ℕ) → r < 13 → one r < 8192
  one_lt r h = pick_lt (member r a) (f r) (small r h)

  abbrev below : ℕ → ℕ
  below r = union_over f (a % 2 ^ r)

  step : (r : ℕ) → r < 13 → below (r + 1) ≡ bit_or (below r) (one r)
  step r h = sym (below_next f a r h (small r h))

  four_more : (r : ℕ) → r + 3 < 13 → below (r + 1 + 1 + 1 + 1) ≡ bit_or (below r) (bit_or (bit_or (bit_or (one r) (one (r + 1))) (one (r + 1 + 1))) (one (r + 1 + 1 + 1)))
  four_more r h =
      step (r + 1 + 1 + 1) (omega arith)
      ∙ ap (λ (x : ℕ). bit_or x (one (r + 1 + 1 + 1))) (step (r + 1 + 1) (omega arith) ∙ ap (λ (x : ℕ). bit_or x (one (r + 1 + 1))) (step (r + 1) (omega arith) ∙ ap (λ (x : ℕ). bit_or x (one (r + 1))) (step r (omega arith))))
      ∙ four_joined (below r) (one r) (one (r + 1)) (one (r + 1 + 1)) (one (r + 1 + 1 + 1)) (union_lt f (a % 2 ^ r)) (one_lt r (omega arith)) (one_lt (r + 1) (omega arith)) (one_lt (r + 1 + 1) (omega arith)) (one_lt (r + 1 + 1 + 1) (omega arith))

  first_four : below 4 ≡ picked_of a (f 0) (f 1) (f 2) (f 3)
  first_four = four_more 0 (lit< tt) ∙ ap (λ (u : ℕ). bit_or u (picked_of a (f 0) (f 1) (f 2) (f 3))) (sym (below_first f a)) ∙ or_zero_l (picked_of a (f 0) (f 1) (f 2) (f 3))

  second_four : below 8 ≡ bit_or (below 4) (picked_of (a / 16) (f 4) (f 5) (f 6) (f 7))
  second_four = rw (← from_four 0 a, ← from_four 1 a, ← from_four 2 a, ← from_four 3 a) (four_more 4 (lit< tt))

  third_four : below 12 ≡ bit_or (below 8) (picked_of (a / 256) (f 8) (f 9) (f 10) (f 11))
  third_four = rw (← from_eight 0 a, ← from_eight 1 a, ← from_eight 2 a, ← from_eight 3 a) (four_more 8 (lit< tt))

  pub twelve : union_over f (a % 4096) ≡ bit_or (bit_or (picked_of a (f 0) (f 1) (f 2) (f 3)) (picked_of (a / 16) (f 4) (f 5) (f 6) (f 7))) (picked_of (a / 256) (f 8) (f 9) (f 10) (f 11))
  twelve = third_four ∙ ap (λ (u : ℕ). bit_or u (picked_of (a / 256) (f 8) (f 9) (f 10) (f 11))) (second_four ∙ ap (λ (u : ℕ). bit_or u (picked_of (a / 16) (f 4) (f 5) (f 6) (f 7))) first_four)

-- ---- rows, and what a set picks of them

-- four of the relations picked, of which each number has its entries
pub picked_four : (r s n p q v w : ℕ) → FourAt r s p → FourAt r (s + 1) q → FourAt r (s + 2) v → FourAt r (s + 3) w → PickedAt r s n (picked_of n p q v w)
picked_four r s n p q v w k₀ k₁ k₂ k₃ l h = part-picked l n p q v w ∙ rw (k₀ l h, k₁ l h, k₂ l h, k₃ l h) refl

module _ (r b x y z d : ℕ) (low : PickedAt r 0 b x) (middle : PickedAt r 4 (b / 16) y) (high : PickedAt r 8 (b / 256) z) (last : FourAt r 12 d) where
  -- but for its eq
  rows_apart : (l : ℕ) → l < 4 → part l (bit_or (bit_or x y) z) ≡ union_over (entry (r + l)) (b % 4096)
  rows_apart l h =
      part_or l (bit_or x y) z ∙ ap₂ bit_or (part_or l x y ∙ ap₂ bit_or (low l h) (middle l h)) (high l h)
      ∙ sym (twelve (entry (r + l)) (entry-small (r + l)) b)

  pub rows_are : RowsFrom r b (bit_or (bit_or (bit_or x y) z) (cond (member 12 b) d 0))
  unfolding compose_row
  rows_are l h =
      part_or l (bit_or (bit_or x y) z) (cond (member 12 b) d 0)
      ∙ ap₂ bit_or (rows_apart l h) (part_pick l (member 12 b) d ∙ ap (λ (x : ℕ). cond (member 12 b) x 0) (last l h))
      ∙ below_next (entry (r + l)) b 12 (lit< tt) (entry-small (r + l) 12 (lit< tt)) ∙ union-small (entry (r + l)) b

cut_pick : (b : Bool) (x : ℕ) → x < 8192 → bit_and x (cond b 8191 0) ≡ cond b x 0
cut_pick true x h = and_mask x 13 ∙ mod-eq_of_lt h
cut_pick false x h = and_zero_r x

-- the rows that n marks, joined
folded_cut : (r n b x m : ℕ) → RowsFrom r b x → Marked n m
    → folded (bit_and x m) ≡ picked_of n (compose_row (r + 0) b) (compose_row (r + 1) b) (compose_row (r + 2) b) (compose_row (r + 3) b)
folded_cut r n b x m rows marks = ap₂ bit_or (ap₂ bit_or (ap₂ bit_or (at 0 (lit< tt)) (at 1 (lit< tt))) (at 2 (lit< tt))) (at 3 (lit< tt))
  where
    at : (l : ℕ) → l < 4 → part l (bit_and x m) ≡ cond (member l n) (compose_row (r + l) b) 0
    at l h = part_and l x m ∙ ap₂ bit_and (rows l h) (marks l h) ∙ cut_pick (member l n) (compose_row (r + l) b) (row_lt (r + l) b)

module _ (a b x y z p q s : ℕ) (h₀ : RowsFrom 0 b x) (h₁ : RowsFrom 4 b y) (h₂ : RowsFrom 8 b z) (m₀ : Marked a p) (m₁ : Marked (a / 16) q) (m₂ : Marked (a / 256) s) where
  -- without the eq of a
  pub composed_apart : folded (bit_or (bit_or (bit_and x p) (bit_and y q)) (bit_and z s)) ≡ union_over (λ r. compose_row r b) (a % 4096)
  composed_apart =
      folded_or (bit_or (bit_and x p) (bit_and y q)) (bit_and z s)
      ∙ ap₂ bit_or (folded_or (bit_and x p) (bit_and y q) ∙ ap₂ bit_or (folded_cut 0 a b x p h₀ m₀) (folded_cut 4 (a / 16) b y q h₁ m₁)) (folded_cut 8 (a / 256) b z s h₂ m₂)
      ∙ sym (twelve (λ r. compose_row r b) (λ r h. row_lt r b) a)

-- and with it
pub with_eq : (a b : ℕ) → bit_or (union_over (λ r. compose_row r b) (a % 4096)) (cond (member 12 a) (b % 8192) 0) ≡ compose a b
unfolding compose compose_row
with_eq a b =
    ap (λ (x : ℕ). bit_or (union_over (λ r. compose_row r b) (a % 4096)) (cond (member 12 a) x 0)) eq-row
    ∙ below_next (λ r. compose_row r b) a 12 (lit< tt) (row_lt 12 b) ∙ union-small (λ r. compose_row r b) a
  where
    eq-row : b % 8192 ≡ compose_row 12 b
    eq-row =
        sym (compose-eq-left (b % 8192) (omega arith)) ∙ union-mark (λ r. compose_row r (b % 8192)) 12 (lit< tt) (row_lt 12 (b % 8192))
        ∙ union-small (entry 12) b

-- ---- the numbers that the functions make

-- four numbers side by side
four_parts : (p q v w : ℕ) → p < 8192 → q < 8192 → v < 8192 → w < 8192 → (f : ℕ → ℕ) → p ≡ f 0 → q ≡ f 1 → v ≡ f 2 → w ≡ f 3
    → (l : ℕ) → l < 4 → part l (p + q * 65536 + v * 4294967296 + w * 281474976710656) ≡ f l
four_parts p q v w hp hq hv hw f e₀ e₁ e₂ e₃ zero h = let e : (p + q * 65536 + v * 4294967296 + w * 281474976710656) / 1 % 8192 ≡ p = omega arith in e ∙ e₀
four_parts p q v w hp hq hv hw f e₀ e₁ e₂ e₃ (suc zero) h = let e : (p + q * 65536 + v * 4294967296 + w * 281474976710656) / 65536 % 8192 ≡ q = omega arith in e ∙ e₁
four_parts p q v w hp hq hv hw f e₀ e₁ e₂ e₃ (suc (suc zero)) h = let e : (p + q * 65536 + v * 4294967296 + w * 281474976710656) / 4294967296 % 8192 ≡ v = omega arith in e ∙ e₂
four_parts p q v w hp hq hv hw f e₀ e₁ e₂ e₃ (suc (suc (suc zero))) h = let e : (p + q * 65536 + v * 4294967296 + w * 281474976710656) / 281474976710656 % 8192 ≡ w = omega arith in e ∙ e₃
four_parts p q v w hp hq hv hw f e₀ e₁ e₂ e₃ (suc (suc (suc (suc l)))) h = absurd (omega arith)

pub four_entries : (r s p q v w : ℕ) → s < 13 → p ≡ entry r s → q ≡ entry (r + 1) s → v ≡ entry (r + 2) s → w ≡ entry (r + 3) s
    → FourAt r s (p + q * 65536 + v * 4294967296 + w * 281474976710656)
four_entries r s p q v w h e₀ e₁ e₂ e₃ =
    let z : r ≡ r + 0 = omega arith in
    four_parts p q v w (rw e₀ (entry-small r s h)) (rw e₁ (entry-small (r + 1) s h)) (rw e₂ (entry-small (r + 2) s h)) (rw e₃ (entry-small (r + 3) s h)) (λ l. entry (r + l) s) (e₀ ∙ ap (λ (k : ℕ). entry k s) z) e₁ e₂ e₃

-- what n marks is told by its last four digits
digit_0 : (n : ℕ) → n % 16 / 1 % 2 ≡ n / 1 % 2
digit_0 n = omega arith

digit_1 : (n : ℕ) → n % 16 / 2 % 2 ≡ n / 2 % 2
digit_1 n = omega arith

digit_2 : (n : ℕ) → n % 16 / 4 % 2 ≡ n / 4 % 2
digit_2 n = omega arith

digit_3 : (n : ℕ) → n % 16 / 8 % 2 ≡ n / 8 % 2
digit_3 n = omega arith

pub picked_by : (n d p q v w : ℕ) → n % 16 ≡ d → picked_of d p q v w ≡ picked_of n p q v w
unfolding member
picked_by n d p q v w e = rw (← e, digit_0 n, digit_1 n, digit_2 n, digit_3 n) refl

-- one by one past the numbers that it is not
pub past : (k x : ℕ) → k ≤ x → (x ≡ k → ⊥) → suc k ≤ x
past k x h ne = omega (arith, ne)

pub the_last : (x : ℕ) → 15 ≤ x % 16 → x % 16 ≡ 15
the_last x h = omega arith

-- what is none of the fifteen before it is the last of the sixteen
pub none_left : (x : ℕ) → (x % 16 ≡ 0 → ⊥) → (x % 16 ≡ 1 → ⊥) → (x % 16 ≡ 2 → ⊥) → (x % 16 ≡ 3 → ⊥) → (x % 16 ≡ 4 → ⊥) → (x % 16 ≡ 5 → ⊥) → (x % 16 ≡ 6 → ⊥) → (x % 16 ≡ 7 → ⊥) → (x % 16 ≡ 8 → ⊥) → (x % 16 ≡ 9 → ⊥) → (x % 16 ≡ 10 → ⊥) → (x % 16 ≡ 11 → ⊥) → (x % 16 ≡ 12 → ⊥) → (x % 16 ≡ 13 → ⊥) → (x % 16 ≡ 14 → ⊥) → x % 16 ≡ 15
none_left x n0 n1 n2 n3 n4 n5 n6 n7 n8 n9 n10 n11 n12 n13 n14 = the_last x (past 14 _ (past 13 _ (past 12 _ (past 11 _ (past 10 _ (past 9 _ (past 8 _ (past 7 _ (past 6 _ (past 5 _ (past 4 _ (past 3 _ (past 2 _ (past 1 _ (past 0 _ (omega arith) n0) n1) n2) n3) n4) n5) n6) n7) n8) n9) n10) n11) n12) n13) n14)

-- all relations, in each set that n marks
abbrev spread : ℕ → ℕ
spread d = bit_and (d * 35185445863425) 281479271743489 * 8191

spread_test : all 16 (λ d. all 4 (λ l. eqb (part l (spread d)) (cond (member l d) 8191 0))) ≡ true
unfolding member
spread_test = refl

last_four : (l n : ℕ) → l < 4 → member l (n % 16) ≡ member l n
unfolding member
last_four zero n h = ap (λ (x : ℕ). eqb x 1) (digit_0 n)
last_four (suc zero) n h = ap (λ (x : ℕ). eqb x 1) (digit_1 n)
last_four (suc (suc zero)) n h = ap (λ (x : ℕ). eqb x 1) (digit_2 n)
last_four (suc (suc (suc zero))) n h = ap (λ (x : ℕ). eqb x 1) (digit_3 n)
last_four (suc (suc (suc (suc l)))) n h = absurd (omega arith)

pub marked-parts : (n : ℕ) → Marked n (spread (n % 16))
marked-parts n l h =
    let at = all-at 16 (λ d. all 4 (λ l. eqb (part l (spread d)) (cond (member l d) 8191 0))) (T_of spread_test) (n % 16) (omega arith) in
    eqb→eq _ _ (all-at 4 (λ l. eqb (part l (spread (n % 16))) (cond (member l (n % 16)) 8191 0)) at l h) ∙ ap (λ (b : Bool). cond b 8191 0) (last_four l n h)

pub spread_lt : (d : ℕ) → spread d < 2305843009213693952
spread_lt d = omega (arith, and_le_r (d * 35185445863425) 281479271743489)
