-- Laws of the whole sheet: its first line, the reading of the rest, and what the two functions hand back.
use mathlib.Core.Path.{◌≡◌, refl, ◌∙◌, ap}
use mathlib.Core.Bool.{true, false}
use mathlib.Core.List.{List, []}
use Prim.Native.Nat.{ℕ, ◌+◌, ◌*◌, ◌≤◌, ◌<◌}
use native.Mathlib.Omega.{arith}
use native.Mathlib.Nat.{sub-zero}
use lib.ListN.{length, take}
use borrow.Author.Tests.{lt-ltb, le-ltb}
use Rattle.refusal.specs.Numbers.{number_of}
use Rattle.refusal.specs.declared.Refusal.{Refusal}
use Rattle.text.specs.Text.{is_number, value}
use Rattle.text.specs.Steps.{PartEnd}
use Rattle.words.specs.Words.{Word, words}
use Rattle.statements.specs.Grid.{start_grid}
use Rattle.statements.proofs.GridLaws.{grid_front}
use Rattle.sheet.specs.Sheet.{refused, most_bytes, most_events, lf, parts, first_fault, line_fault, contents, sheet}
use Rattle.std.specs.Prelude.{Result, Ok, Err}
use denote.Ref.{Bor}
use Rattle.sheet.specs.Steps.{parts_from, names, counts, FirstRead, ContentsRead, BodiesSay, SheetSays}
use Rattle.sheet.specs.declared.SheetRefusal.{SheetRefusal}
use Rattle.sheet.specs.declared.contents.Contents.{Contents}
use Rattle.sheet.proofs.LineLaws.{line-is, line_missing, line-there, line-ends, begins_first, begins_next, or_refused_lem}
use Rattle.sheet.proofs.ContentsLaws.{names-length, counts-length}
use Rattle.sheet.proofs.FitLaws.{bodies-fits}

-- ---- the first line, which ends at e

pub sheet-long : (s : List ℕ) → most_bytes < length s → sheet s ≡ refused 8 0
unfolding sheet
sheet-long s h = rw (lt-ltb most_bytes (length s) h)

-- the line ends at e
module _ (s : List ℕ) (e : ℕ) (p : PartEnd lf s 0 e) where
  pub first-missing : length s ≤ e → line_fault first_fault (parts s) ≡ 9
  first-missing g = line_missing s 0 e p first_fault g

  module _ (g : e < length s) where
    first_fault_lem : line_fault first_fault (parts s) ≡ first_fault (take e s)
    first_fault_lem = line-there s 0 e p first_fault g ∙ ap (λ (k : ℕ). first_fault (take k s)) (sub-zero e)

    pub first_no_number : is_number (take e s) ≡ false → line_fault first_fault (parts s) ≡ 9
    first_no_number b = let f : first_fault (take e s) ≡ 9 = rw b in first_fault_lem ∙ f

    pub first_many : is_number (take e s) ≡ true → most_events < value (take e s) → line_fault first_fault (parts s) ≡ 1
    first_many b m = let f : first_fault (take e s) ≡ 1 = rw (b, lt-ltb most_events (value (take e s)) m) in first_fault_lem ∙ f

    pub first_read : is_number (take e s) ≡ true → (n : ℕ) → value (take e s) ≡ n → n ≤ most_events → FirstRead s n (e + 1)
    first_read b n v m =
        let f : first_fault (take e s) ≡ 0 = rw (b, v, le-ltb most_events n m) in
        let n' = line-ends s 0 e p g in
        record {
          sound = first_fault_lem ∙ f;
          few = m;
          events = ap value (line-is s 0 e p ∙ ap (λ (k : ℕ). take k s) (sub-zero e)) ∙ v;
          begins = begins_next s 0 0 (e + 1) (begins_first s) n';
          rest = n'.rest;
        }

-- ---- the lines after it, in a sheet that is not too long

module _ (s : List ℕ) (h : length s ≤ most_bytes) where
  pub sheet-stop : (r : Refusal) → line_fault first_fault (parts s) ≡ number_of r → sheet s ≡ refused (number_of r) 1
  unfolding sheet
  sheet-stop r e = rw (le-ltb most_bytes (length s) h) (or_refused_lem (line_fault first_fault (parts s)) r 1 _ e)

  pub sheet_lines : (n a : ℕ) → FirstRead s n a → sheet s ≡ contents words n [] [] (parts_from s a) 2
  unfolding sheet
  sheet_lines n a f = rw (le-ltb most_bytes (length s) h, f.sound, f.events, f.rest)

-- ---- the rest

-- the contents, or the refusal of the bodies
abbrev pub answered : Contents → Result Unit SheetRefusal → Result Contents SheetRefusal
answered c (Ok u) = Ok c
answered c (Err r) = Err r

-- contents read, a grid filled, and what the bodies say
pub sheet-says : (known : List Word) (s : Bor (List ℕ)) (g g' : List ℕ) (n a : ℕ) (c : Contents) (b : ℕ) → ContentsRead known s n a c b
    → take (n * n) g ≡ start_grid n → (x : Result Unit SheetRefusal) → BodiesSay known c b g g' x
    → SheetSays (contents known n [] [] (parts_from s.now a) 2) s g' (answered c x)
sheet-says known s g g' n a c b r f (Err q) y = r.says ∙ y
sheet-says known s g g' n a c b r f (Ok u) y =
    let many = names-length c in
    let start : take (c.n * c.n) g ≡ start_grid c.n = rw r.keeps.events f in
    record {
      keeps = record { sheet = r.keeps.sheet; events = refl; stand = r.keeps.stand };
      statements = y.new;
      says = r.says ∙ y.says;
      grid = grid_front c.n g g' y.new
          (rw many at (bodies-fits known (names c) (counts c) (parts_from c.sheet.now b) (c.n + 2) y.new (omega (arith, many, counts-length c)) y.says))
          start y.grid;
    }
