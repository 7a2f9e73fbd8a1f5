-- A fair grid: closing starts from one, and every cut leaves one.
use mathlib.Core.Path.{◌≡◌, ap, sym, ◌∙◌}
use mathlib.Core.List.{List}
use Prim.Native.Nat.{ℕ, ◌≤◌, ◌<◌}
use native.Mathlib.Omega.{arith}
use Rattle.grid.specs.Cells.{cell, put_both}
use Rattle.grid.proofs.CellLaws.{put_both-length}
use Rattle.theory.specs.Calculus.{Calculus, Sub}
use Rattle.theory.specs.Fair.{Fair}
use Rattle.theory.proofs.Lawful.{Lawful}
use Rattle.theory.proofs.ClosingLaws.{IsPut, put_cases, put-mirrored, reached_start}
use Rattle.theory.proofs.KeepLaws.{Good, put_both_lem}

module _ (A : Calculus) (L : Lawful A) (n : ℕ) where
  pub fair_good : (g : List ℕ) → Fair A n g → Good A n g g
  fair_good g F =
      let f = F.fine in
      record { fits = f.fits; reached = reached_start A L n (cell n g) f.mirrored; diagonal = f.diagonal; topped = f.topped; full = F.full }

  pub good_fair : (g₀ g : List ℕ) → n ≤ 32 → Good A n g₀ g → Fair A n g
  good_fair g₀ g few G =
      record {
        fine = record { few = few; fits = G.fits; mirrored = G.reached.mirrored; diagonal = G.diagonal; topped = G.topped };
        full = G.full;
      }

  -- a cell and its mirror are given another set
  module _ (h : List ℕ) (F : Fair A n h) (x y : ℕ) (hx : x < n) (hy : y < n) (ne : x ≡ y → ⊥) (v : ℕ)
      (top : Sub A v (A.top x y)) (turned-top : Sub A (A.conv v) (A.top y x)) (back : A.conv (A.conv v) ≡ v) (some : v ≡ 0 → ⊥) where
    abbrev g : List ℕ
    g = put_both A.conv n h x y v

    is-put : IsPut A n (cell n h) (cell n g) x y v
    is-put = put_both_lem A n h F.fine.fits x y v hx hy ne

    pub put_fair : Fair A n (put_both A.conv n h x y v)
    put_fair =
        record {
          fine =
              record {
                few = F.fine.few;
                fits = omega (arith, put_both-length A.conv n h x y v, F.fine.fits);
                mirrored = put-mirrored A L n (cell n h) (cell n g) x y v is-put F.fine.mirrored back;
                diagonal = λ i hi. is-put.rest i i hi hi (λ w. ne (sym w.0 ∙ w.1)) (λ w. ne (sym w.1 ∙ w.0)) ∙ F.fine.diagonal i hi;
                topped = put_cases A L n (cell n h) (cell n g) x y v is-put (λ a b c. Sub A c (A.top a b)) top turned-top (λ a b ha hb p q. F.fine.topped a b ha hb);
              };
          full =
              put_cases A L n (cell n h) (cell n g) x y v is-put (λ a b c. c ≡ 0 → ⊥) some (λ z. some (sym back ∙ ap A.conv z ∙ L.conv_zero))
              (λ a b ha hb p q. F.full a b ha hb);
        }
