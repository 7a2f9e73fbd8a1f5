-- Signed numbers of 32 bits: what is read back from the bits is the number.
use mathlib.Core.Bool.{Bool, true, false, cond}
use mathlib.Core.Path.{◌≡◌, refl, ap, ap₂, ◌∙◌}
use Rattle.std.proofs.Common.{int_cmp, Ordering, Less, Equal, Greater}
use Prim.Native.Nat.{◌^◌, ◌<◌}
use lib.IntN.{ℤ}
use lib.Signed.{mag, lt_z}
use mir.Syntax.{w32}
use mir.Val.{to_z, of_z, hbits}
use mir.Facts.{to_z-of_z}
use Rattle.relation.specs.Comparing.{order}
use Rattle.placing.specs.Steps.{order_of}
use Rattle.relation.proofs.Order.{cmp}

-- a number handed to a test or a call
abbrev pub back : ℤ → ℤ
back x = to_z w32 (of_z w32 x)

abbrev pub Small : ℤ → Type 0
Small x = mag x < 2 ^ hbits w32

pub back_is : (x : ℤ) → Small x → back x ≡ x
back_is x h = to_z-of_z {w = w32} (record { sfits = h })

module _ (x y : ℤ) (hx : Small x) (hy : Small y) where
  pub cmp_back : cmp (back x) (back y) ≡ cmp x y
  cmp_back = ap₂ (λ (p q : ℤ). cmp p q) {x = back x} {y = x} {u = back y} {v = y} (back_is x hx) (back_is y hy)

-- what a comparison told, of the numbers themselves
module _ (x y : ℤ) (o : Ordering) (hx : Small x) (hy : Small y) where
  pub told : o ≡ int_cmp (back x) (back y) → order_of o ≡ cmp x y
  told e = ap order_of e ∙ go (lt_z (back x) (back y)) (lt_z (back y) (back x)) ∙ cmp_back x y hx hy
    where
      go : (a b : Bool) → order_of (cond a Less (cond b Greater Equal)) ≡ order a b
      go true b = refl
      go false true = refl
      go false false = refl
