-- Orders of whole numbers: comparing two.
use mathlib.Core.Path.{◌≡◌, refl, sym, ap, ap₂, subst}
use mathlib.Core.Bool.{Bool, true, false}
use native.Mathlib.Nat.{le_antisymm, lt_irrefl, lt_trans}
use lib.Dec.{T, ltb→lt, lt→ltb}
use lib.IntN.{ℤ, pos, negsuc}
use lib.Signed.{lt_z, ◌<ℤ◌}
use borrow.Author.Tests.{ltb-false}
use Rattle.relation.specs.Comparing.{Order, less, same, more, order}
use Rattle.relation.proofs.Tested.{T_of, of_T, false_of}
use Rattle.relation.proofs.Rank.{Weak}

-- ---- laws of the tests

pub lt_z_asym : (x y : ℤ) → T (lt_z x y) → T (lt_z y x) → ⊥
lt_z_asym (pos a) (pos b) h k = lt_irrefl a (lt_trans (ltb→lt a b h) (ltb→lt b a k))
lt_z_asym (pos a) (negsuc b) h k = h
lt_z_asym (negsuc a) (pos b) h k = k
lt_z_asym (negsuc a) (negsuc b) h k = lt_irrefl a (lt_trans (ltb→lt a b k) (ltb→lt b a h))

pub lt_z_trans : (x y z : ℤ) → T (lt_z x y) → T (lt_z y z) → T (lt_z x z)
lt_z_trans (pos a) (pos b) (pos c) h k = lt→ltb a c (lt_trans (ltb→lt a b h) (ltb→lt b c k))
lt_z_trans (pos a) (pos b) (negsuc c) h k = k
lt_z_trans (pos a) (negsuc b) z h k = absurd h
lt_z_trans (negsuc a) (pos b) (pos c) h k = tt
lt_z_trans (negsuc a) (pos b) (negsuc c) h k = absurd k
lt_z_trans (negsuc a) (negsuc b) (pos c) h k = tt
lt_z_trans (negsuc a) (negsuc b) (negsuc c) h k = lt→ltb c a (lt_trans (ltb→lt c b k) (ltb→lt b a h))

pub lt_z_same : (x y : ℤ) → lt_z x y ≡ false → lt_z y x ≡ false → x ≡ y
lt_z_same (pos a) (pos b) h k = ap pos (le_antisymm (ltb-false b a k) (ltb-false a b h))
lt_z_same (pos a) (negsuc b) h k = absurd (subst T k tt)
lt_z_same (negsuc a) (pos b) h k = absurd (subst T h tt)
lt_z_same (negsuc a) (negsuc b) h k = ap negsuc (le_antisymm (ltb-false b a h) (ltb-false a b k))

pub <ℤ_trans : {x y z : ℤ} → x <ℤ y → y <ℤ z → x <ℤ z
<ℤ_trans {x} {y} {z} h k = record { lt = lt_z_trans x y z h.lt k.lt }

-- ---- comparing two

abbrev pub Means : Order → ℤ → ℤ → Type 0
Means less x y = x <ℤ y
Means same x y = x ≡ y
Means more x y = y <ℤ x

abbrev pub cmp : ℤ → ℤ → Order
cmp x y = order (lt_z x y) (lt_z y x)

pub cmp_means : (x y : ℤ) → Means (cmp x y) x y
cmp_means x y = go (lt_z x y) (lt_z y x) refl refl
  where
    go : (p q : Bool) → lt_z x y ≡ p → lt_z y x ≡ q → Means (order p q) x y
    go true q e f = record { lt = T_of e }
    go false true e f = record { lt = T_of f }
    go false false e f = lt_z_same x y e f

-- a comparison that holds is the one found
pub cmp_is : (o : Order) (x y : ℤ) → Means o x y → cmp x y ≡ o
cmp_is less x y h = ap (λ (p : Bool). order p (lt_z y x)) (of_T (lt_z x y) h.lt)
cmp_is same x y h =
    subst (λ (z : ℤ). cmp x z ≡ same) h (ap₂ (λ (p q : Bool). order p q) (irr x) (irr x))
  where
    irr : (z : ℤ) → lt_z z z ≡ false
    irr z = false_of (lt_z z z) (λ t. lt_z_asym z z t t)
cmp_is more x y h = ap₂ (λ (p q : Bool). order p q) (false_of (lt_z x y) (λ t. lt_z_asym x y t h.lt)) (of_T (lt_z y x) h.lt)

-- ---- the order of whole numbers, as what a rank needs

pub lt_z_split : (x y z : ℤ) → T (lt_z x z) → lt_z y z ≡ false → T (lt_z x y)
lt_z_split x y z h k = go (lt_z z y) refl
  where
    go : (p : Bool) → lt_z z y ≡ p → T (lt_z x y)
    go true e = lt_z_trans x z y h (T_of e)
    go false e = subst (λ (w : ℤ). T (lt_z x w)) (sym (lt_z_same y z k e)) h

pub whole : Weak lt_z
whole = record { asym = lt_z_asym; trans = lt_z_trans; split = lt_z_split }
