-- How the parts of a sweep fit together.
use mathlib.Core.Path.{◌≡◌, ap, sym, ◌∙◌}
use mathlib.Core.Logic.{◌⊎◌, inl, inr}
use mathlib.Core.List.{List}
use mathlib.Core.Bool.{Bool, true, false, ◌||◌}
use Prim.Native.Nat.{ℕ, ◌+◌, ◌<◌}
use native.Mathlib.Decide.{dec_lt}
use native.Mathlib.Omega.{arith}
use lib.Bits.{bit_and}
use lib.Count.{ones}
use Rattle.relation.specs.Composition.{converse, compose}
use Rattle.grid.specs.Cells.{cell, put_both}
use Rattle.grid.proofs.CellLaws.{cell_both_other}
use Rattle.theory.specs.Fair.{Fair}
use Rattle.theory.specs.Allen.{allen}
use Rattle.theory.specs.Quick.{cut_to}
use Rattle.theory.specs.Sweeps.{Distinct, Progress, DeadEnd, Shrinks, Cuts, none, more}
use Rattle.theory.proofs.AllenLaws.{lawful, sized, eq_lawful}
use Rattle.theory.proofs.PlainLaws.{cuts_fair, progress_none, progress_one, progress_then}
use Rattle.plain.specs.Routes.{OverTo, EventTo, AllTo, Changes}

-- the next part of a sweep
module _ (n : ℕ) (g g₁ g₂ : List ℕ) (c d : Bool) (F : Fair allen n g) where
  pub event_next : (b k : ℕ) → Progress allen ones n (EventTo n b k) g g₁ c → Progress allen ones n (OverTo n k b b) g₁ g₂ d → Progress allen ones n (EventTo n b (k + 1)) g g₂ (c || d)
  event_next b k p q = progress_then allen lawful ones sized n F.fine.few (EventTo n b k) (OverTo n k b b) g g₁ g₂ c d F.fine.fits p q (EventTo n b (k + 1)) into
    where
      go : (x y z : ℕ) → EventTo n b (k + 1) x y z → Dec (y < k) → EventTo n b k x y z ⊎ OverTo n k b b x y z
      go x y z u (yes h) = inl (u.0, h, u.2, u.3)
      go x y z u (no h) = inr (omega (arith, u.0, u.2), omega (arith, u.1), u.2, u.3)

      into : (x y z : ℕ) → EventTo n b (k + 1) x y z → EventTo n b k x y z ⊎ OverTo n k b b x y z
      into x y z u = go x y z u (dec_lt y k)

  pub all-next : (k : ℕ) → Progress allen ones n (AllTo n k) g g₁ c → Progress allen ones n (EventTo n k n) g₁ g₂ d → Progress allen ones n (AllTo n (k + 1)) g g₂ (c || d)
  all-next k p q = progress_then allen lawful ones sized n F.fine.few (AllTo n k) (EventTo n k n) g g₁ g₂ c d F.fine.fits p q (AllTo n (k + 1)) into
    where
      go : (x y z : ℕ) → AllTo n (k + 1) x y z → Dec (z < k) → AllTo n k x y z ⊎ EventTo n k n x y z
      go x y z u (yes h) = inl (u.0, h, u.2)
      go x y z u (no h) = inr (u.0, u.2.hc, omega (arith, u.1), u.2)

      into : (x y z : ℕ) → AllTo n (k + 1) x y z → AllTo n k x y z ⊎ EventTo n k n x y z
      into x y z u = go x y z u (dec_lt z k)

-- routes that leave their cell as it is, or no routes at all
pub nothing : (n : ℕ) (S : ℕ → ℕ → ℕ → Type 0) (g : List ℕ) → Fair allen n g → ((a m b : ℕ) → S a m b → cut_to allen (cell n g) a m b ≡ cell n g a b) → Progress allen ones n S g g false
nothing n S g F h = progress_none allen lawful ones sized n F.fine.few S g h

-- a cut after others: something changed
pub then_cut : (n : ℕ) (S : ℕ → ℕ → ℕ → Type 0) (g g₁ g₂ : List ℕ) → Fair allen n g → Cuts allen n g g₁ → Shrinks allen n g₁ g₂ → Progress allen ones n S g g₂ true
then_cut n S g g₁ g₂ F none s = progress_one allen lawful ones sized n F.fine.few S g g₂ F.fine.fits s
then_cut n S g g₁ g₂ F (more {g₁ = h} k t) s =
    progress_then allen lawful ones sized n F.fine.few S S g g₁ g₂ true true F.fine.fits (then_cut n S g h g₁ F k t)
    (progress_one allen lawful ones sized n F.fine.few S g₁ g₂ (cuts_fair allen lawful n g F (more k t)).fine.fits s) S (λ x y z u. inl u)

-- a route that changes its cell
module _ (n m b a set : ℕ) (g : List ℕ) (F : Fair allen n g) (k : Changes n m b g a set) (lo : a < b) (hm : m < n) (hb : b < n) (mb : m ≡ b → ⊥) where
  -- it goes over a third event, since eq with a set leaves the set
  apart : a ≡ m → ⊥
  apart e =
      k.less
      (k.left ∙ ap (λ (x : ℕ). bit_and (cell n g a b) (compose (cell n g a x) (cell n g x b))) (sym e)
      ∙ ap (λ (x : ℕ). bit_and (cell n g a b) (compose x (cell n g a b))) (F.fine.diagonal a (omega arith))
      ∙ eq_lawful.eq_l a b (cell n g a b) (F.fine.topped a b (omega arith) hb))

  route : Distinct n a b m
  route = record { ha = omega arith; hb = hb; hc = hm; ab = λ e. omega arith; bc = λ e. mb (sym e); ac = apart }

  pub dead_end : set ≡ 0 → DeadEnd allen n g
  dead_end z = record { at = g; cuts = none; a = a; m = m; b = b; route = route; empty = sym k.left ∙ z }

  module _ (g' : List ℕ) (q : g' ≡ put_both converse n g a b set) where
    pub shrinks : (set ≡ 0 → ⊥) → Shrinks allen n g g'
    shrinks nz =
        record {
          a = a;
          m = m;
          b = b;
          low = lo;
          route = route;
          less = λ e. k.less (k.left ∙ e);
          some = λ e. nz (k.left ∙ e);
          is = rw (← k.left) q;
        }

    -- and it leaves cell (m, b)
    pub half-same : cell n g' m b ≡ cell n g m b
    half-same = ap (λ (x : List ℕ). cell n x m b) q ∙ cell_both_other converse n g F.fine.fits a b set (omega arith) hb m b hb (λ e. apart (sym e.0)) (λ e. mb e.0)
