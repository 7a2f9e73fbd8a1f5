-- Plain closing: cuts in any order, and a sweep that changes nothing.
use mathlib.Core.Path.{◌≡◌, refl, sym, ◌∙◌, subst}
use mathlib.Core.Logic.{◌⊎◌, inl, inr, ⊎_elim}
use mathlib.Core.List.{List}
use mathlib.Core.Bool.{Bool, true, false, ◌||◌}
use Prim.Native.Nat.{ℕ, ◌+◌, ◌*◌, ◌/◌, ◌%◌, ◌≤◌, ◌<◌}
use native.Mathlib.Omega.{arith}
use native.Mathlib.Nat.{le_refl}
use native.Mathlib.Decide.{dec_lt}
use lib.ListN.{length}
use Rattle.grid.specs.Cells.{cell, put_both}
use Rattle.grid.proofs.CellLaws.{put_both-length}
use Rattle.theory.specs.Calculus.{Calculus}
use Rattle.theory.specs.Closing.{Closing}
use Rattle.theory.specs.Fair.{Fair}
use Rattle.theory.specs.Line.{IsPair, pair_of, all_pairs}
use Rattle.theory.specs.Quick.{cut_to}
use Rattle.theory.specs.Sweeps.{Distinct, Shrinks, Cuts, none, more, DeadEnd, weight, Progress}
use Rattle.theory.proofs.ClosingLaws.{IsCut, sub_meet_l, reached_closed, mirror_cut}
use Rattle.theory.proofs.KeepLaws.{Good, put-cut, is_cut, good_shrank, good_dead}
use Rattle.theory.proofs.FairLaws.{fair_good, good_fair}
use Rattle.theory.proofs.Lawful.{Lawful, EqLawful}
use Rattle.theory.proofs.LineLaws.{pair_number, pair-low, pair_same, pair_swap}
use Rattle.theory.proofs.SettledLaws.{Via, closed-apart}
use Rattle.theory.proofs.StartLaws.{pairs-all, waits_all}
use Rattle.theory.proofs.TakeLaws.{Sized, sum_falls}

pub cuts_trans : (A : Calculus) (n : ℕ) (g g₁ : List ℕ) {g₂ : List ℕ} → Cuts A n g g₁ → Cuts A n g₁ g₂ → Cuts A n g g₂
cuts_trans A n g g₁ p none = p
cuts_trans A n g g₁ p (more q s) = more (cuts_trans A n g g₁ p q) s

module _ (A : Calculus) (L : Lawful A) (size : ℕ → ℕ) (Z : Sized A size) (n : ℕ) (few : n ≤ 32) where
  shrinks_less : (g g' : List ℕ) → n * n ≤ length g → Shrinks A n g g' → weight size n g' < weight size n g
  shrinks_less g g' fits s =
      rw s.is
      (omega (
        arith,
        sum_falls n (λ p. size (cell n g (p / 32) (p % 32))) (λ p. size (cell n h (p / 32) (p % 32))) (pair_of a b) elsewhere here (all_pairs n) (pairs-all n few),
        waits_all n a b few s.route.ha s.route.hb s.route.ab,
      ))
    where
      a : ℕ
      a = s.a

      b : ℕ
      b = s.b

      h : List ℕ
      h = put_both A.conv n g s.a s.b (cut_to A (cell n g) s.a s.m s.b)

      c : IsCut A n (cell n g) (cell n h) s.a s.m s.b
      c = put-cut A n g fits s.a s.m s.b s.route.ha s.route.hb s.route.ab

      first : pair_of s.a s.b / 32 ≡ s.a
      first = omega (arith, s.low, s.route.hb, few)

      second : pair_of s.a s.b % 32 ≡ s.b
      second = omega (arith, s.low, s.route.hb, few)

      here : size (cell n h (pair_of a b / 32) (pair_of a b % 32)) + 1 ≤ size (cell n g (pair_of a b / 32) (pair_of a b % 32))
      here =
          rw (first, second, c.here)
          (omega (arith, Z.less (cut_to A (cell n g) s.a s.m s.b) (cell n g s.a s.b) (sub_meet_l A L _ _) s.less))

      elsewhere : (p : ℕ) → IsPair n p → (p ≡ pair_of a b → ⊥) → size (cell n h (p / 32) (p % 32)) ≤ size (cell n g (p / 32) (p % 32))
      elsewhere p ok np =
          rw
          (c.rest (p / 32) (p % 32) (pair-low n p ok) ok.1 (λ w. np (sym (pair_number n p ok) ∙ pair_same w.0 w.1))
          (λ w. np (sym (pair_number n p ok) ∙ pair_swap w.0 w.1)))
          (le_refl _)

  cuts_fit : (g : List ℕ) {g' : List ℕ} → n * n ≤ length g → Cuts A n g g' → n * n ≤ length g'
  cuts_fit g fits none = fits
  cuts_fit g fits (more {g₁} p s) =
      rw s.is (omega (arith, put_both-length A.conv n g₁ s.a s.b (cut_to A (cell n g₁) s.a s.m s.b), cuts_fit g fits p))

  cuts_le : (g : List ℕ) {g' : List ℕ} → n * n ≤ length g → Cuts A n g g' → weight size n g' ≤ weight size n g
  cuts_le g fits none = le_refl _
  cuts_le g {g'} fits (more {g₁} p s) = omega (arith, shrinks_less g₁ g' (cuts_fit g fits p) s, cuts_le g fits p)

  pub progress_none : (S : ℕ → ℕ → ℕ → Type 0) (g : List ℕ) → ((a m b : ℕ) → S a m b → cut_to A (cell n g) a m b ≡ cell n g a b) → Progress A size n S g g false
  progress_none S g h = record { cuts = none; moved = λ e. let z : ◌≡◌ {A = ℕ} 0 1 = cc in absurd (omega arith); still = λ e. (refl, h) }

  pub progress_one : (S : ℕ → ℕ → ℕ → Type 0) (g g' : List ℕ) → n * n ≤ length g → Shrinks A n g g' → Progress A size n S g g' true
  progress_one S g g' fits s =
      record { cuts = more none s; moved = λ e. shrinks_less g g' fits s; still = λ e. let z : ◌≡◌ {A = ℕ} 0 1 = cc in absurd (omega arith) }

  or_cases : (c d : Bool) → (c || d) ≡ true → (c ≡ true) ⊎ (d ≡ true)
  or_cases true d e = inl refl
  or_cases false d e = inr e

  or_both : (c d : Bool) → (c || d) ≡ false → (c ≡ false) × (d ≡ false)
  or_both true d e = let z : ◌≡◌ {A = ℕ} 0 1 = cc in absurd (omega arith)
  or_both false d e = (refl, e)

  pub progress_then : (S T : ℕ → ℕ → ℕ → Type 0) (g g₁ g₂ : List ℕ) (c d : Bool) → n * n ≤ length g → Progress A size n S g g₁ c → Progress A size n T g₁ g₂ d
      → (U : ℕ → ℕ → ℕ → Type 0) → ((a m b : ℕ) → U a m b → S a m b ⊎ T a m b) → Progress A size n U g g₂ (c || d)
  progress_then S T g g₁ g₂ c d fits p q U into =
      record {
        cuts = cuts_trans A n g g₁ p.cuts q.cuts;
        moved = λ e.
            ⊎_elim (λ h. omega (arith, p.moved h, cuts_le g₁ (cuts_fit g fits p.cuts) q.cuts))
            (λ h. omega (arith, q.moved h, cuts_le g fits p.cuts)) (or_cases c d e);
        still = λ e.
            let w = or_both c d e in
            let s = p.still w.0 in
            let t = q.still w.1 in (
              t.0 ∙ s.0,
              λ a m b u.
                  ⊎_elim (λ h. s.1 a m b h) (λ h. subst (λ (x : List ℕ). cut_to A (cell n x) a m b ≡ cell n x a b) s.0 (t.1 a m b h)) (into a m b u),
            );
      }

pub dead_then : (A : Calculus) (n : ℕ) (g g₁ : List ℕ) → Cuts A n g g₁ → DeadEnd A n g₁ → DeadEnd A n g
dead_then A n g g₁ p d =
    record { at = d.at; cuts = cuts_trans A n g g₁ p d.cuts; a = d.a; m = d.m; b = d.b; route = d.route; empty = d.empty }

-- what cuts keep, and where they end
module _ (A : Calculus) (L : Lawful A) (n : ℕ) (g₀ : List ℕ) where
  pub cuts_good : (g : List ℕ) {g' : List ℕ} → Good A n g₀ g → Cuts A n g g' → Good A n g₀ g'
  cuts_good g G none = G
  cuts_good g G (more {g₁} p s) =
      rw s.is (good_shrank A L n g₀ g₁ (cuts_good g G p) s.a s.m s.b s.route.ha s.route.hc s.route.hb s.route.ab s.some)

  pub cuts_fair : {g' : List ℕ} → Fair A n g₀ → Cuts A n g₀ g' → Fair A n g'
  cuts_fair {g'} F p = good_fair A L n g₀ g' F.fine.few (cuts_good g₀ (fair_good A L n g₀ F) p)

  pub dead_closing : Good A n g₀ g₀ → DeadEnd A n g₀ → Closing A n (cell n g₀) (λ i j. 0)
  dead_closing G d = good_dead A L n g₀ d.at (cuts_good g₀ G d.cuts) d.a d.m d.b d.route.ha d.route.hc d.route.hb d.route.ab d.empty

  -- a sweep over all routes of cells above the diagonal that changes nothing: closed
  pub still-closed : EqLawful A → (g : List ℕ) → Good A n g₀ g → ((a m b : ℕ) → a < b → Distinct n a b m → cut_to A (cell n g) a m b ≡ cell n g a b) → Closing A n (cell n g₀) (cell n g)
  still-closed E g G all = reached_closed A L n (cell n g₀) (cell n g) G.reached (closed-apart A E n g₀ g G (λ i j k d. apart i j k d (dec_lt i j)))
    where
      back : (a m b : ℕ) → a < b → Distinct n a b m → Via A n g b a m
      back a m b h d =
          cc (
            mirror_cut A L n (cell n g) (cell n (put_both A.conv n g a b (cut_to A (cell n g) a m b))) a m b d.ha d.hc d.hb G.reached.mirrored
                (is_cut A L n g₀ g G a m b d.ha d.hc d.hb d.ab),
            all a m b h d,
            G.reached.mirrored a b d.ha d.hb,
          )

      apart : (i j k : ℕ) → Distinct n i j k → Dec (i < j) → Via A n g i j k
      apart i j k d (yes h) = all i k j h d
      apart i j k d (no h) =
          let ne : i ≡ j → ⊥ = d.ab in
          back j k i (omega arith) (record { ha = d.hb; hb = d.ha; hc = d.hc; ab = λ e. d.ab (sym e); bc = d.ac; ac = d.bc })
