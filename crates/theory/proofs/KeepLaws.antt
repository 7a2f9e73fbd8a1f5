-- What every cut keeps, on lists: the largest closed grid inside, the mirror, the diagonal, no empty cell.
use mathlib.Core.Path.{◌≡◌, ap, sym, ◌∙◌}
use mathlib.Core.List.{List}
use Prim.Native.Nat.{ℕ, ◌*◌, ◌≤◌, ◌<◌}
use native.Mathlib.Omega.{arith}
use native.Mathlib.Decide.{ℕ_discrete}
use lib.ListN.{length}
use Rattle.grid.specs.Cells.{cell, put_both}
use Rattle.grid.proofs.CellLaws.{put_both-length, cell_both_here, cell_both_mirror, cell_both_other}
use Rattle.theory.specs.Calculus.{Calculus, Sub}
use Rattle.theory.specs.Closing.{Closing}
use Rattle.theory.specs.Line.{joins, pair_of}
use Rattle.theory.specs.Quick.{cut_to, Out, dead, going, cut, shrunk}
use Rattle.theory.proofs.ClosingLaws.{IsPut, IsCut, Reached, put_cases, cut-within, mirror_back, reached_cut, reached_empty, sub_trans}
use Rattle.theory.proofs.Lawful.{Lawful}
use Rattle.theory.proofs.QuickLaws.{shrunk-same, shrunk-dead, shrunk_written}

-- a put in a list, with its mirror
pub put_both_lem : (A : Calculus) (n : ℕ) (g : List ℕ) → n * n ≤ length g → (a b v : ℕ) → a < n → b < n → (a ≡ b → ⊥)
    → IsPut A n (cell n g) (cell n (put_both A.conv n g a b v)) a b v
put_both_lem A n g fits a b v ha hb ne =
    record {
      here = cell_both_here A.conv n g fits a b v ha hb ne;
      mirror = cell_both_mirror A.conv n g fits a b v ha hb;
      rest = λ x y hx hy p q. cell_both_other A.conv n g fits a b v ha hb x y hy p q;
    }

pub put-cut : (A : Calculus) (n : ℕ) (g : List ℕ) → n * n ≤ length g → (a m b : ℕ) → a < n → b < n → (a ≡ b → ⊥)
    → IsCut A n (cell n g) (cell n (put_both A.conv n g a b (cut_to A (cell n g) a m b))) a m b
put-cut A n g fits a m b ha hb ne = put_both_lem A n g fits a b (cut_to A (cell n g) a m b) ha hb ne

pub record Good (A : Calculus) (n : ℕ) (g₀ g : List ℕ) : Type 0 where
  pub fits : n * n ≤ length g
  pub reached : Reached A n (cell n g₀) (cell n g)
  pub diagonal : (i : ℕ) → i < n → cell n g i i ≡ A.eq
  pub topped : (i j : ℕ) → i < n → j < n → Sub A (cell n g i j) (A.top i j)
  pub full : (i j : ℕ) → i < n → j < n → cell n g i j ≡ 0 → ⊥

-- what a cut comes to
pub data Came (A : Calculus) (n a m b : ℕ) (g q : List ℕ) : Out → Type 0 where
  same : cut_to A (cell n g) a m b ≡ cell n g a b → Came A n a m b g q (going g q)
  emptied : cut_to A (cell n g) a m b ≡ 0 → Came A n a m b g q dead
  shrank : (cut_to A (cell n g) a m b ≡ cell n g a b → ⊥) → (cut_to A (cell n g) a m b ≡ 0 → ⊥) → Came A n a m b g q (going (put_both A.conv n g a b (cut_to A (cell n g) a m b)) (joins (pair_of a b) q))

pub came : (A : Calculus) (n a m b : ℕ) (g q : List ℕ) → Came A n a m b g q (cut A n a m b g q)
unfolding cut
came A n a m b g q = go (ℕ_discrete (cut_to A (cell n g) a m b) (cell n g a b)) (ℕ_discrete (cut_to A (cell n g) a m b) 0)
  where
    go : Dec (cut_to A (cell n g) a m b ≡ cell n g a b) → Dec (cut_to A (cell n g) a m b ≡ 0) → Came A n a m b g q (shrunk A n a b (cell n g a b) (cut_to A (cell n g) a m b) g q)
    go (yes e) d = rw (shrunk-same A n a b (cell n g a b) (cut_to A (cell n g) a m b) g q e) (same e)
    go (no ne) (yes z) = rw (shrunk-dead A n a b (cell n g a b) (cut_to A (cell n g) a m b) g q ne z) (emptied z)
    go (no ne) (no nz) = rw (shrunk_written A n a b (cell n g a b) (cut_to A (cell n g) a m b) g q ne nz) (shrank ne nz)

module _ (A : Calculus) (L : Lawful A) (n : ℕ) (g₀ g : List ℕ) (G : Good A n g₀ g) (a m b : ℕ) (ha : a < n) (hm : m < n) (hb : b < n) (ne : a ≡ b → ⊥) where
  abbrev v : ℕ
  v = cut_to A (cell n g) a m b

  abbrev g' : List ℕ
  g' = put_both A.conv n g a b v

  pub is_cut : IsCut A n (cell n g) (cell n g') a m b
  is_cut = put-cut A n g G.fits a m b ha hb ne

  reached_put : Reached A n (cell n g₀) (cell n g')
  reached_put = reached_cut A L n (cell n g₀) (cell n g) (cell n g') a m b ha hm hb G.reached is_cut

  fits_both : n * n ≤ length g'
  fits_both = omega (arith, put_both-length A.conv n g a b v, G.fits)

  pub good_shrank : (v ≡ 0 → ⊥) → Good A n g₀ g'
  good_shrank nz =
      record {
        fits = fits_both;
        reached = reached_put;
        diagonal = λ i hi. is_cut.rest i i hi hi (λ w. ne (sym w.0 ∙ w.1)) (λ w. ne (sym w.1 ∙ w.0)) ∙ G.diagonal i hi;
        topped = λ i j hi hj. sub_trans A L _ _ _ (cut-within A L n (cell n g) (cell n g') a m b ha hm hb G.reached.mirrored is_cut i j hi hj) (G.topped i j hi hj);
        full =
            put_cases A L n (cell n g) (cell n g') a b v is_cut (λ x y c. c ≡ 0 → ⊥) nz
            (λ z. nz (sym (mirror_back A L n (cell n g) (cell n g') a m b ha hm hb G.reached.mirrored is_cut) ∙ ap A.conv z ∙ L.conv_zero))
            (λ x y hx hy p q. G.full x y hx hy);
      }

  pub good_dead : v ≡ 0 → Closing A n (cell n g₀) (λ i j. 0)
  good_dead z = reached_empty A L n (cell n g₀) (cell n g') reached_put a b ha hb (is_cut.here ∙ z)
