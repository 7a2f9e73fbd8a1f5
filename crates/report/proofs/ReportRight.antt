-- What the two statements come to: any two outcomes are equal, a room that is long enough has the text whole, and what the
-- printed answers mean for the sheet.
use mathlib.Core.Path.{◌≡◌, refl, sym, ◌∙◌}
use mathlib.Core.Logic.{◌↔◌}
use mathlib.Core.List.{List, [], append-nil}
use Rattle.std.proofs.Common.{Ok}
use Prim.Native.Nat.{ℕ, ◌*◌, ◌≤◌, ◌<◌}
use native.Mathlib.Omega.{arith}
use lib.IntN.{ℤ, pos}
use lib.ListN.{length, take, drop, drop_of_length-le}
use lib.Seq.{take_all, take-append_seam, drop-append_seam}
use Rattle.relation.specs.Meaning.{Event}
use Rattle.grid.specs.Accepted.{Accepted}
use Rattle.grid.specs.Meets.{Meets}
use Rattle.statements.specs.Statements.{Statement}
use Rattle.statements.specs.Grid.{grid_of, MeetsEach}
use Rattle.statements.proofs.GridLaws.{grid-accepted}
use Rattle.statements.proofs.MeantLaws.{meets-each}
use Rattle.sheet.specs.Sheet.{accepted, sheet}
use Rattle.sheet.proofs.FitLaws.{sheet-fits}
use Rattle.theory.specs.Search.{Pair, placed, none, pairs_from, NoLater}
use Rattle.placing.specs.Placing.{Places, NoGaps, at, natural_of}
use Rattle.placing.specs.Settling.{placing_of}
use Rattle.placing.proofs.SettleLaws.{placing-at}
use Rattle.search.specs.Rule.{search_of}
use Rattle.search.specs.Answers.{looked, ScenarioOf, FirstPlacing}
use Rattle.search.specs.declared.Outcome.TheVariants.{Placed, None}
use Rattle.search.proofs.SearchRight.{means}
use Rattle.report.specs.Report.{laid, Prints}

pub prints_unique : (text room : List ℕ) (r s : ℕ) (a b : List ℕ) → Prints text room r a → Prints text room s b → (r ≡ s) × (a ≡ b)
prints_unique text room r s a b p q = (p.len ∙ sym q.len, p.bytes ∙ sym q.bytes)

module _ (text room : List ℕ) (r : ℕ) (room' : List ℕ) (p : Prints text room r room') where
  -- a room that is at least as long as the text has it whole
  pub prints_whole : r ≤ length room → take r room' ≡ text
  unfolding laid
  prints_whole h =
      let l : length text ≤ length room = omega (arith, p.len) in
      rw (p.bytes, p.len, take_all (length room) text l) (take-append_seam text (drop (length text) room))

  -- and is as found after it
  pub prints_rest : r ≤ length room → drop r room' ≡ drop r room
  unfolding laid
  prints_rest h =
      let l : length text ≤ length room = omega (arith, p.len) in
      rw (p.bytes, p.len, take_all (length room) text l) (drop-append_seam text (drop (length text) room))

  -- a shorter room is filled with the front of the text
  pub prints_short : length room ≤ r → room' ≡ take (length room) text
  unfolding laid
  prints_short h =
      let l : length room ≤ length text = omega (arith, p.len) in
      p.bytes ∙ rw (drop_of_length-le room l, append-nil)

-- ---- what an answer means for a sheet that is accepted

-- The numbers are a placing of n events that meets each statement. It has no gaps, and its scenario is the first of all
-- placings that meet each statement. Of the grid the same is said.
pub record PlacedRight (n : ℕ) (sts : List Statement) (xs : List ℤ) : Type 0 where
  pub placing : ℕ → Event
  pub places : Places n xs placing
  pub each : MeetsEach placing sts
  pub no_gaps : NoGaps xs
  pub first : (P Q : ℕ → Event) (σ τ : Pair → ℕ) → Places n xs P → ScenarioOf P σ → MeetsEach Q sts → ScenarioOf Q τ → NoLater (pairs_from n 0 1) σ τ
  pub grid : FirstPlacing n (grid_of n sts) xs

module _ (s : List ℕ) (names : List (List ℕ)) (counts : List ℕ) (sts : List Statement) (e : sheet s ≡ accepted names counts sts) (allowance tries : ℕ) where
  grid-is : Accepted (length names) (grid_of (length names) sts)
  grid-is = let f = sheet-fits names counts sts s e in grid-accepted (length names) sts f.0 f.1

  meets-same : (P : ℕ → Event) → Meets (length names) (grid_of (length names) sts) P ↔ MeetsEach P sts
  meets-same P = let f = sheet-fits names counts sts s e in meets-each (length names) P sts f.0 f.1

  pub placed-right : (h : List ℕ) → search_of (length names) allowance (grid_of (length names) sts) ≡ placed tries h
      → PlacedRight (length names) sts (placing_of (length names) h)
  placed-right h q =
      let f : FirstPlacing (length names) (grid_of (length names) sts) (placing_of (length names) h) =
      means (length names) (grid_of (length names) sts) grid-is allowance (placed tries h) q (Ok (looked Placed tries)) [] (placing_of (length names) h) refl refl in
      let m = f.meets in
      record {
        placing = m.placing;
        places = m.places;
        each = (meets-same m.placing).0 m.meets;
        no_gaps = f.no_gaps;
        first = λ P Q σ τ l s e w. f.first P Q σ τ l s ((meets-same Q).1 e) w;
        grid = f;
      }

  -- no placing, in whole numbers of any size, meets each statement
  pub none_right : search_of (length names) allowance (grid_of (length names) sts) ≡ none tries → (P : ℕ → Event) → MeetsEach P sts → ⊥
  none_right q P m =
      means (length names) (grid_of (length names) sts) grid-is allowance (none tries) q (Ok (looked None tries)) [] [] refl refl P ((meets-same P).1 m)

-- no number of a placing is negative: what is printed is the number
pub number_right : (m : ℕ) (h : List ℕ) (p : ℕ) → p < 2 * m → at (placing_of m h) p ≡ pos (natural_of (at (placing_of m h) p))
number_right m h p w = rw (placing-at m h p w)
