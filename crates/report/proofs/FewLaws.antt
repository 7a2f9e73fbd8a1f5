-- No text of `place` or `triage` is longer than the rooms of the programs.
use mathlib.Core.Path.{◌≡◌, refl}
use mathlib.Core.List.{List, [], ◌∷◌}
use Prim.Native.Nat.{ℕ, zero, suc, ◌+◌, ◌*◌, ◌^◌, ◌≤◌, ◌<◌}
use native.Mathlib.Omega.{arith}
use lib.Dec.{lit≤}
use lib.IntN.{ℤ}
use lib.ListN.{length, get_or, length-append}
use Rattle.text.specs.Text.{bytes}
use Rattle.text.specs.Names.{longest_name}
use Rattle.statements.specs.Statements.{Statement}
use Rattle.sheet.specs.Sheet.{Outcome, refused, accepted, most_bytes, sheet}
use Rattle.statements.specs.Grid.{grid_of}
use Rattle.sheet.proofs.FitLaws.{sheet-fits}
use Rattle.sheet.proofs.NameLaws.{names-short}
use Rattle.sheet.proofs.RefusedLaws.{sheet-few}
use Rattle.theory.specs.Search.{Found, placed, none, gave_up}
use Rattle.theory.proofs.SearchLaws.{tries_of}
use Rattle.placing.specs.Placing.{at, natural_of}
use Rattle.placing.specs.Settling.{placing_of}
use Rattle.placing.proofs.SettleLaws.{placing-few}
use Rattle.search.specs.Rule.{search_of}
use Rattle.search.proofs.FindLaws.{search_within}
use Rattle.report.specs.Text.{decimal, line}
use Rattle.report.specs.Report.{placed_line, none_line, gave_up_line, refused_line, event_line, event_lines, first_line, all_lines, place_of, triage_of, place_text, triage_text, Prints, most_printed}
use Rattle.report.specs.Steps.{longest_word, most_after, most_event, most_first, said_line}
use Rattle.report.proofs.DecimalLaws.{decimal_most}

-- a number of 64 bits
abbrev pub Fits64 : ℕ → Type 0
Fits64 k = k < 2 ^ 64

-- ---- a line

said_few : (word : List ℕ) (t : ℕ) → length word ≤ longest_word → Fits64 t → length (said_line word t) ≤ most_first
said_few word t h w = simp length-append (omega (arith, decimal_most t w))

three_few : (f : List ℕ) (a b : ℕ) → Fits64 a → Fits64 b → length (line (f ∷ decimal a ∷ decimal b ∷ [])) ≤ length f + most_after
three_few f a b v w = simp length-append (omega (arith, decimal_most a v, decimal_most b w))

first-few : (e : Found) → Fits64 (tries_of e) → length (first_line e) ≤ most_first
unfolding placed_line none_line gave_up_line
first-few (placed t h) w = said_few (bytes "placed") t (omega arith) w
first-few (none t) w = said_few (bytes "none") t (omega arith) w
first-few (gave_up t) w = said_few (bytes "gave-up") t (omega arith) w

refused-few : (number at-line : ℕ) → Fits64 number → Fits64 at-line → length (refused_line number at-line) ≤ most_first
unfolding refused_line
refused-few number at-line v w = three_few (bytes "refused") number at-line v w

-- ---- the lines of the events

event_few : (name : List ℕ) (start end : ℕ) → length name ≤ longest_name → Fits64 start → Fits64 end → length (event_line name start end) ≤ most_event
unfolding event_line
event_few name start end h v w = omega (arith, three_few name start end v w)

events-few : (names : List (List ℕ)) (xs : List ℤ) (k : ℕ) → ((i : ℕ) → i < k → length (get_or names i []) ≤ longest_name)
    → ((p : ℕ) → p < 2 * k → Fits64 (natural_of (at xs p))) → length (event_lines names xs k) ≤ most_event * k
unfolding event_lines
events-few names xs zero s v = omega arith
events-few names xs (suc k) s v =
    let start = natural_of (at xs (2 * k)) in
    let end = natural_of (at xs (2 * k + 1)) in
    omega (
      arith,
      length-append (event_lines names xs k) (event_line (get_or names k []) start end),
      events-few names xs k (λ i h. s i (omega arith)) (λ p h. v p (omega arith)),
      event_few (get_or names k []) start end (s k (omega arith)) (v (2 * k) (omega arith)) (v (2 * k + 1) (omega arith)),
    )

-- ---- the whole text

module _ (allowance : ℕ) (s : List ℕ) (fits : Fits64 allowance) where
  refused_text : (number at-line : ℕ) → sheet s ≡ refused number at-line → length (refused_line number at-line) ≤ most_printed
  refused_text number at-line e =
      let f = sheet-few number at-line s e in
      let big = lit≤ {m = most_bytes + 3} {n = 2 ^ 64} tt in
      omega (arith, refused-few number at-line (omega (arith, f.0)) (omega (arith, f.1)))

  first_text : (o : Found) → tries_of o ≤ allowance → length (first_line o) ≤ most_first
  first_text o h = first-few o (omega arith)

  all_text : (names : List (List ℕ)) (counts : List ℕ) (sts : List Statement) → sheet s ≡ accepted names counts sts
      → (o : Found) → tries_of o ≤ allowance → length (all_lines names o) ≤ most_printed
  all_text names counts sts e (placed t h) w =
      let n = length names in
      let few = (sheet-fits names counts sts s e).0 in
      let big = lit≤ {m = 65} {n = 2 ^ 64} tt in
      omega (
        arith,
        few,
        length-append (placed_line t) (event_lines names (placing_of n h) n),
        first_text (placed t h) w,
        events-few names (placing_of n h) n (names-short s names counts sts e) (λ p l. omega (arith, few, placing-few n h p l)),
      )
  all_text names counts sts e (none t) w = omega (arith, first_text (none t) w)
  all_text names counts sts e (gave_up t) w = omega (arith, first_text (gave_up t) w)

  pub place_few : length (place_text allowance s) ≤ most_printed
  unfolding place_text
  place_few = by (sheet s) refl
    where
      by : (o : Outcome) → sheet s ≡ o → length (place_of allowance o) ≤ most_printed
      by (refused number at-line) e = refused_text number at-line e
      by (accepted names counts sts) e =
          let n = length names in
          let g = grid_of n sts in
          all_text names counts sts e (search_of n allowance g) (search_within n allowance g)

  pub triage_few : length (triage_text allowance s) ≤ most_printed
  unfolding triage_text
  triage_few = by (sheet s) refl
    where
      by : (o : Outcome) → sheet s ≡ o → length (triage_of allowance o) ≤ most_printed
      by (refused number at-line) e = refused_text number at-line e
      by (accepted names counts sts) e =
          let n = length names in
          let g = grid_of n sts in
          omega (arith, first_text (search_of n allowance g) (search_within n allowance g))

-- ---- what the programs are handed back

pub place_within : (allowance : ℕ) (s room : List ℕ) (r : ℕ) (room' : List ℕ) → Fits64 allowance → Prints (place_text allowance s) room r room' → r ≤ most_printed
place_within allowance s room r room' fits p = omega (arith, p.len, place_few allowance s fits)

pub triage_within : (allowance : ℕ) (s room : List ℕ) (r : ℕ) (room' : List ℕ) → Fits64 allowance → Prints (triage_text allowance s) room r room' → r ≤ most_printed
triage_within allowance s room r room' fits p = omega (arith, p.len, triage_few allowance s fits)
