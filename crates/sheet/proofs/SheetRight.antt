-- What the statements of the two functions come to: the grid handed out is accepted, and any two outcomes are equal.
-- NameLaws.antt shows that a name's part is the name.
use mathlib.Core.Path.{◌≡◌, refl, sym, ◌∙◌, ap, ap₂, subst}
use mathlib.Core.Bool.{Bool, true, false, cond}
use mathlib.Core.List.{List, ◌++◌}
use Prim.Native.Nat.{ℕ, ◌*◌}
use native.Mathlib.Omega.{arith}
use native.Mathlib.Decide.{dec_lt}
use borrow.Author.Tests.{lt-ltb, le-ltb}
use lib.Dec.{eqb, ltb}
use lib.ListN.{length, take, drop, get_or}
use lib.Seq.{take_at}
use denote.Ref.{Bor}
use Rattle.refusal.specs.Numbers.{number_of}
use Rattle.refusal.specs.declared.Refusal.{Refusal}
use Rattle.refusal.proofs.NumberLaws.{number_unique}
use Rattle.grid.specs.Accepted.{Accepted}
use Rattle.statements.specs.Grid.{grid_of}
use Rattle.statements.proofs.GridLaws.{grid-accepted}
use Rattle.sheet.specs.Sheet.{Outcome, refused, accepted, sheet}
use Rattle.sheet.specs.Answers.{events, refusal, said_of, name_start, room_cells, outcome_said, outcome_room, Reads, NamePart}
use Rattle.std.specs.Prelude.{Result, Ok, Err, Some}
use Rattle.std.specs.List.{slice_get}
use Rattle.std.proofs.lemmas.Option.{slice_get-get_or}
use Rattle.sheet.specs.declared.contents.Entry.{Entry}
use Rattle.sheet.specs.Parts.{PartFrom}
use Rattle.sheet.specs.Steps.{names, counts, entries_of, ContentsOf, PartAt, SheetRead}
use Rattle.sheet.specs.declared.contents.Contents.{Contents}
use Rattle.sheet.specs.declared.SheetRefusal.{SheetRefusal}
use Rattle.sheet.proofs.ContentsLaws.{entries-length, names-length}
use Rattle.sheet.proofs.FitLaws.{sheet-fits}

-- ---- the grid handed out is accepted by every function on grids

pub read_accepted : (s before : List ℕ) (n : ℕ) (after : List ℕ) → Reads s before (Ok n) after → Accepted n (take (n * n) after)
read_accepted s before n after r = by (eqb (length before) room_cells) (sheet s) refl r.answer r.room
  where
    by : (t : Bool) (o : Outcome) → sheet s ≡ o → events n ≡ cond t (outcome_said o) (refusal 2 0) → after ≡ cond t (outcome_room o before) before
        → Accepted n (take (n * n) after)
    by false o w e q = let z : ◌≡◌ {A = ℕ} 0 1 = cc in absurd (omega arith)
    by true (refused k line) w e q = let z : ◌≡◌ {A = ℕ} 0 1 = cc in absurd (omega arith)
    by true (accepted ns cs sts) w e q =
        let m : length ns ≡ n = cc in
        let f = sheet-fits ns cs sts s w in
        let a : Accepted n (grid_of n sts) = subst (λ (k : ℕ). Accepted k (grid_of k sts)) m (grid-accepted (length ns) sts f.0 f.1) in
        let d : after ≡ grid_of n sts ++ drop (n * n) before = q ∙ ap (λ (k : ℕ). grid_of k sts ++ drop (k * k) before) m in
        subst (Accepted n) (sym (ap (take (n * n)) d ∙ take_at (grid_of n sts) (drop (n * n) before) (n * n) a.long)) a

-- so is the one that the inner function leaves in the front of its room
pub into_accepted : (s : Bor (List ℕ)) (g : List ℕ) (c : Contents) → SheetRead (sheet s.now) s g c → Accepted c.n (take (c.n * c.n) g)
into_accepted s g c y =
    let f = sheet-fits (names c) (counts c) y.statements s.now y.says in
    rw y.grid (grid-accepted c.n y.statements c.few (rw (names-length c) at f.1))

-- ---- the name that the contents of an accepted sheet hand back is the one asked for

module _ (s : Bor (List ℕ)) (i : ℕ) (part : Bor (List ℕ)) (g : List ℕ) (c : Contents) where
  stands : ContentsOf s c.n c → PartAt c i part → PartFrom s (cond (ltb i c.n) (name_start s.now i) 0) part
  stands k p = elim (dec_lt i c.n) [
    | yes h ↦
        let d : Entry = record { name = s; start = 0; statements = 0 } in
        let e : slice_get (entries_of c) i ≡ Some (get_or (entries_of c) i d) = slice_get-get_or (entries_of c) i d (omega (arith, entries-length c)) in
        let w = lt-ltb i c.n h in
        rw (w, p.event (get_or (entries_of c) i d) e) (k.stand i (get_or (entries_of c) i d) e).part
    | no h ↦
        let w = le-ltb i c.n (omega arith) in
        rw w (subst (λ (x : Bor (List ℕ)). PartFrom x 0 part) k.sheet (p.none (omega arith)))
  ]

  pub name_part : SheetRead (sheet s.now) s g c → PartAt c i part → NamePart s i part
  name_part y p =
      let f = stands y.keeps p in
      let m = names-length c in
      record {
        bytes = rw y.says p.bytes;
        memory = f.memory;
        start = rw (y.says, m) f.start;
      }

-- ---- any two outcomes that a statement allows are equal

refusal_unique : (x y : SheetRefusal) → number_of x.why ≡ number_of y.why → x.line ≡ y.line → x ≡ y
refusal_unique x y p q = ap₂ (λ (w : Refusal) (l : ℕ). record { why = w; line = l }) (number_unique x.why y.why p) q

said_unique : (x y : Result ℕ SheetRefusal) → said_of x ≡ said_of y → x ≡ y
said_unique (Ok m) (Ok n) e = cc
said_unique (Ok m) (Err r) e = let z : ◌≡◌ {A = ℕ} 0 1 = cc in absurd (omega arith)
said_unique (Err r) (Ok m) e = let z : ◌≡◌ {A = ℕ} 0 1 = cc in absurd (omega arith)
said_unique (Err r) (Err q) e =
    let line : r.line ≡ q.line = cc in
    let number : number_of r.why ≡ number_of q.why = cc in
    ap Err (refusal_unique r q number line)

pub reads_unique : (s before : List ℕ) (x y : Result ℕ SheetRefusal) (g h : List ℕ) → Reads s before x g → Reads s before y h → (x ≡ y) × (g ≡ h)
reads_unique s before x y g h p q = (said_unique x y (p.answer ∙ sym q.answer), p.room ∙ sym q.room)

-- a part of memory is where it starts and what stands there
pub name_unique : (s : Bor (List ℕ)) (i : ℕ) (x y : Bor (List ℕ)) → NamePart s i x → NamePart s i y → (x.ref_ptr ≡ y.ref_ptr) × (x.now ≡ y.now)
name_unique s i x y p q =
    (ap₂ (λ (b o : ℕ). (b, o)) (p.memory ∙ sym q.memory) (p.start ∙ sym q.start), p.bytes ∙ sym q.bytes)
