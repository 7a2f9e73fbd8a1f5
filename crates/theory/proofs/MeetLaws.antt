-- The cut of two sets, and how many members a set has.
use mathlib.Core.Path.{◌≡◌, refl, ap, sym, ◌∙◌}
use Prim.Native.Nat.{ℕ, ◌+◌, ◌/◌, ◌%◌, ◌≤◌, ◌<◌, min}
use native.Mathlib.Omega.{arith}
use native.Mathlib.Decide.{ℕ_discrete}
use lib.Bits.{bit_and, and_zero_r, and_shr, and_mask}
use lib.Count.{ones, ones_step, ones-le}
use lib.Arith.{bin_ind}
use Rattle.relation.proofs.SetLaws.{and_bit}

and_half : (a b : ℕ) → bit_and a b / 2 ≡ bit_and (a / 2) (b / 2)
and_half a b = and_shr a b 1

halves : (x y : ℕ) → x / 2 ≡ y / 2 → x % 2 ≡ y % 2 → x ≡ y
halves x y p q = omega arith

pub and_assoc : (a b c : ℕ) → bit_and (bit_and a b) c ≡ bit_and a (bit_and b c)
and_assoc a =
    bin_ind (λ (a : ℕ). (b c : ℕ) → bit_and (bit_and a b) c ≡ bit_and a (bit_and b c))
    (λ b c. refl)
    (λ a ih b c. halves (bit_and (bit_and a b) c) (bit_and a (bit_and b c)) (top a b c (ih (b / 2) (c / 2))) (low a b c)) a
  where
    top : (a b c : ℕ) → bit_and (bit_and (a / 2) (b / 2)) (c / 2) ≡ bit_and (a / 2) (bit_and (b / 2) (c / 2)) → bit_and (bit_and a b) c / 2 ≡ bit_and a (bit_and b c) / 2
    top a b c e =
        and_half (bit_and a b) c ∙ ap (λ (x : ℕ). bit_and x (c / 2)) (and_half a b) ∙ e ∙ ap (bit_and (a / 2)) (sym (and_half b c)) ∙ sym (and_half a (bit_and b c))

    low : (a b c : ℕ) → bit_and (bit_and a b) c % 2 ≡ bit_and a (bit_and b c) % 2
    low a b c = omega (arith, and_bit (bit_and a b) c, and_bit a b, and_bit a (bit_and b c), and_bit b c)

-- a set inside another has no more members, and as many only where they are one
ones_sub : (b a : ℕ) → bit_and a b ≡ a → (ones a ≤ ones b) × (ones a ≡ ones b → a ≡ b)
ones_sub =
    bin_ind (λ (b : ℕ). (a : ℕ) → bit_and a b ≡ a → (ones a ≤ ones b) × (ones a ≡ ones b → a ≡ b))
    (λ a h. let z : a ≡ 0 = sym h ∙ and_zero_r a in (rw z (omega arith), λ e. z))
    (λ b ih a h. step a b h (ih (a / 2) (sym (and_half a b) ∙ ap (λ (x : ℕ). x / 2) h)))
  where
    step : (a b : ℕ) → bit_and a b ≡ a → (ones (a / 2) ≤ ones (b / 2)) × (ones (a / 2) ≡ ones (b / 2) → a / 2 ≡ b / 2) → (ones a ≤ ones b) × (ones a ≡ ones b → a ≡ b)
    step a b h r =
        let m : min (a % 2) (b % 2) ≡ a % 2 = sym (and_bit a b) ∙ ap (λ (x : ℕ). x % 2) h in
        let le : a % 2 ≤ b % 2 = omega arith in
        let sa : ones a ≡ a % 2 + ones (a / 2) = ones_step a in
        let sb : ones b ≡ b % 2 + ones (b / 2) = ones_step b in (
          omega (arith, r.0),
          λ e. halves a b (r.1 (omega (arith, r.0))) (omega (arith, r.0)),
        )

pub ones_less : (a b : ℕ) → bit_and a b ≡ a → (a ≡ b → ⊥) → ones a < ones b
ones_less a b h ne = let r = ones_sub b a h in go (ℕ_discrete (ones a) (ones b))
  where
    go : Dec (ones a ≡ ones b) → ones a < ones b
    go (yes e) = absurd (ne ((ones_sub b a h).1 e))
    go (no n) = omega (arith, (ones_sub b a h).0)

pub sub_top : (a : ℕ) → a ≤ 8191 → bit_and a 8191 ≡ a
sub_top a h = and_mask a 13 ∙ small
  where
    small : a % 8192 ≡ a
    small = omega arith

pub ones_most : (a : ℕ) → bit_and a 8191 ≡ a → ones a ≤ 13
ones_most a h = let e : a % 8192 ≡ a = sym (and_mask a 13) ∙ h in ones-le 13 a (omega arith)
