-- What the search of a sheet's grid came to, as text.
use mathlib.Core.Path.{◌≡◌, refl}
use mathlib.Core.List.{List, ◌++◌}
use Prim.Native.Nat.{ℕ, ◌*◌}
use Rattle.std.proofs.Common.{Result, Ok, Err}
use Rattle.std.specs.Borrow.{Bor}
use lib.IntN.{ℤ}
use lib.ListN.{length, take}
use lib.Seq.{take-append_seam}
use Rattle.refusal.specs.Answered.{answers}
use Rattle.sheet.specs.Sheet.{Outcome, sheet}
use Rattle.sheet.specs.Steps.{SheetRead, names}
use Rattle.sheet.specs.declared.SheetRefusal.{SheetRefusal}
use Rattle.sheet.specs.declared.contents.Contents.{Contents}
use Rattle.sheet.proofs.ContentsLaws.{names-length}
use Rattle.sheet.proofs.NameLaws.{names-short}
use Rattle.sheet.proofs.SheetRight.{into_accepted}
use Rattle.theory.specs.Search.{Found, placed, none, gave_up}
use Rattle.search.specs.Answers.{said_by, room_by, Looks}
use Rattle.search.specs.declared.Looked.{Looked}
use Rattle.search.specs.declared.Outcome.TheVariants.{Placed}
use Rattle.search.proofs.FindLaws.{answer-is, room-is}
use Rattle.report.specs.Report.{placed_line, none_line, gave_up_line, event_lines, first_line, all_lines, place_of, triage_of}
use Rattle.report.specs.Steps.{word_of, said_line, first_said, Came, Searched}

abbrev looked_line : Looked → List ℕ
looked_line l = said_line (word_of l.outcome) l.tries

-- ---- what the search leaves

answered : (l m : Looked) → answers l ≡ answers m → l ≡ m
answered l m e = cc

-- a placing stands in front of the numbers
front_is : (n : ℕ) (e : Found) (room front rest : List ℤ) → length front ≡ 2 * n → front ≡ room_by n e room
    → take (2 * n) (front ++ rest) ≡ room_by n e (take (2 * n) (front ++ rest))
front_is n (placed t h) room front rest m q = rw (← m, take-append_seam front rest) q
front_is n (none t) room front rest m q = refl
front_is n (gave_up t) room front rest m q = refl

pub came : (allowance : ℕ) (s : Bor (List ℕ)) (g : List ℕ) (c : Contents) (l : Looked) (room front rest : List ℤ) → SheetRead (sheet s.now) s g c
    → length room ≡ 2 * c.n → length front ≡ 2 * c.n → Looks c.n allowance (take (c.n * c.n) g) room (Ok l) front
    → Came allowance (sheet s.now) (front ++ rest) c l
came allowance s g c l room front rest read m k looks =
    let grid = into_accepted s g c read in
    record {
      short = names-short s.now _ _ _ read.says;
      statements = read.statements;
      says = read.says;
      looked = answered _ _ (rw read.grid at (answer-is _ _ _ _ grid m _ _ looks));
      placing = front_is c.n _ room front rest k (rw read.grid at (room-is _ _ _ _ grid m _ _ looks));
    }

-- ---- the first line

said_first : (e : Found) → looked_line (said_by e) ≡ first_line e
unfolding placed_line none_line gave_up_line
said_first (placed t h) = refl
said_first (none t) = refl
said_first (gave_up t) = refl

-- ---- the lines after it

module _ (ns : List (List ℕ)) where
  said_all : (n : ℕ) (xs : List ℤ) (e : Found) → (said_by e).outcome ≡ Placed → length ns ≡ n → xs ≡ room_by n e xs
      → looked_line (said_by e) ++ event_lines ns xs n ≡ all_lines ns e
  unfolding placed_line
  said_all n xs (placed t h) z m r = rw (m, ← r)
  said_all n xs (none t) z m r = absurd (cc)
  said_all n xs (gave_up t) z m r = absurd (cc)

  -- where no placing was found, there are none
  said_alone : (e : Found) → ((said_by e).outcome ≡ Placed → ⊥) → looked_line (said_by e) ≡ all_lines ns e
  unfolding none_line gave_up_line
  said_alone (placed t h) z = absurd (z refl)
  said_alone (none t) z = refl
  said_alone (gave_up t) z = refl

-- ---- the text of a sheet

module _ (allowance : ℕ) (o : Outcome) (xs : List ℤ) where
  pub triage_first : (r : Result (Contents × Looked) SheetRefusal) → Searched allowance o xs r → first_said r ≡ triage_of allowance o
  triage_first (Err r) w = rw w
  triage_first (Ok p) w = rw (w.says, names-length p.0, w.looked) (said_first _)

  pub place_refused : (r : Result (Contents × Looked) SheetRefusal) (e : SheetRefusal) → r ≡ Err e → Searched allowance o xs r → first_said r ≡ place_of allowance o
  place_refused (Err r) e q w = rw w
  place_refused (Ok p) e q w = absurd (cc)

  module _ (c : Contents) (l : Looked) (w : Came allowance o xs c l) where
    pub place_first : (l.outcome ≡ Placed → ⊥) → looked_line l ≡ place_of allowance o
    place_first z = rw (w.says, names-length c, w.looked) (said_alone (names c) _ (rw w.looked at z))

    pub place_lines : l.outcome ≡ Placed → looked_line l ++ event_lines (names c) (take (2 * c.n) xs) c.n ≡ place_of allowance o
    place_lines z = rw (w.says, names-length c, w.looked) (said_all (names c) c.n _ _ (rw w.looked at z) (names-length c) w.placing)
