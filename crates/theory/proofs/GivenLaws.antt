-- An accepted grid is what the theory of closing starts from.
use mathlib.Core.Path.{◌≡◌, ap, ◌∙◌}
use mathlib.Core.Bool.{true, false}
use mathlib.Core.List.{List}
use Prim.Native.Nat.{ℕ, ◌+◌, ◌*◌, ◌/◌, ◌%◌}
use native.Mathlib.Omega.{arith}
use borrow.Author.Tests.{eqb-true, eqb-false}
use lib.Dec.{eqb}
use lib.ListN.{length, get_or}
use Rattle.relation.proofs.Tested.{T_of, of_T, some_at}
use Rattle.grid.specs.Cells.{cell, some_empty, EmptyCell}
use Rattle.grid.specs.Accepted.{Accepted}
use Rattle.grid.proofs.CellLaws.{place, located}
use Rattle.grid.proofs.AcceptedLaws.{none_passes}
use Rattle.theory.specs.Fair.{Fine, Full, Fair}
use Rattle.theory.specs.Allen.{allen}
use Rattle.theory.proofs.MeetLaws.{sub_top}

pub fine : (n : ℕ) (g : List ℕ) → Accepted n g → Fine allen n g
fine n g a =
    record {
      few = a.few;
      fits = omega (arith, a.long);
      mirrored = a.mirrored;
      diagonal = a.diagonal;
      topped = λ i j hi hj. sub_top (cell n g i j) (a.small i j hi hj);
    }

module _ (n : ℕ) (g : List ℕ) (a : Accepted n g) where
  -- no cell is empty
  full : some_empty g ≡ false → Full n g
  unfolding cell
  full e i j hi hj z =
      let p = place a.few hi hj in
      eqb-false (cell n g i j) 0
      (none_passes (length g) (λ p. eqb (get_or g p 0) 0) e (i * n + j) (omega (arith, p.inside, a.long))) z

  pub fair : some_empty g ≡ false → Fair allen n g
  fair e = record { fine = fine n g a; full = full e }

  -- some cell is empty
  pub hole : some_empty g ≡ true → EmptyCell n g
  unfolding cell
  hole e =
      let w = some_at (length g) (λ p. eqb (get_or g p 0) 0) (T_of e) in
      let f = located n w.0 (omega (arith, w.1, a.long)) in
      (w.0 / n, w.0 % n, f.row, f.column, ap (λ (p : ℕ). get_or g p 0) f.back ∙ eqb-true (get_or g w.0 0) 0 (of_T (eqb (get_or g w.0 0) 0) w.2))
