-- What every line of the contents says of its name holds of each name of an accepted sheet. So a name stands where its part
-- is said to start, and has at most 16 bytes.
use mathlib.Core.Path.{◌≡◌, refl, sym, ◌∙◌, ap, subst}
use mathlib.Core.Bool.{Bool, true, false, cond, not, ◌&&◌}
use mathlib.Core.List.{List, [], ◌∷◌, ◌++◌}
use Prim.Native.Nat.{ℕ, zero, suc, ◌+◌, ◌-◌, ◌≤◌, ◌<◌}
use native.Mathlib.Omega.{arith}
use native.Mathlib.Decide.{dec_lt}
use lib.Dec.{eqb, leb}
use lib.ListN.{length, take, drop, get_or, length-append, get_or-append}
use lib.Seq.{take-take, get_or_at}
use Rattle.text.specs.Text.{is_number, value}
use Rattle.text.specs.Names.{longest_name, is_name}
use Rattle.text.specs.Steps.{PartEnd}
use Rattle.text.proofs.PartLaws.{until, part_end, part_length}
use Rattle.text.proofs.TextLaws.{both, name-length}
use Rattle.words.specs.Words.{Word, words}
use Rattle.statements.specs.Statements.{Statement}
use Rattle.sheet.specs.Sheet.{accepted, most_statements, lf, space, parts, fields, field, first_fault, name_in, count_in, is_entry, listed, entry_fault, owners, next, line_fault, contents, sheet}
use Rattle.sheet.specs.Answers.{name_start}
use Rattle.sheet.specs.Steps.{parts_from, Ends, Begins, Short}
use Rattle.sheet.proofs.LineLaws.{line-is, line_missing, line-ends, begins_first, begins_next}
use Rattle.sheet.proofs.FitLaws.{owners_below, no_fault, went_on, bodies_fit, sheet_opened}

-- ---- a line of the contents by itself

-- its name is the front of the line
name_front : (l : List ℕ) → (name_in l ≡ take (length (name_in l)) l) × (length (name_in l) ≤ length l)
name_front l =
    let e = until space l in
    let p = part_end space l 0 e (omega arith) (omega arith) in
    let q : name_in l ≡ take (e - 0) l = ap (λ (ps : List (List ℕ)). get_or ps 0 []) p.parts in
    let n : length (name_in l) ≡ e - 0 = ap length q ∙ part_length space l 0 e p in
    (q ∙ ap (λ (k : ℕ). take k l) (sym n), omega (arith, n, p.high))

entry-short : (l : List ℕ) → is_entry l ≡ true → length (name_in l) ≤ longest_name
unfolding is_entry
entry-short l e =
    let two = eqb (length (fields l)) 2 in
    let a = (both (two && is_name (name_in l) && is_number (field 1 l)) (leb (count_in l) most_statements) e).0 in
    let b = (both (two && is_name (name_in l)) (is_number (field 1 l)) a).0 in
    name-length (name_in l) (both two (is_name (name_in l)) b).1

-- after the names ns, without a fault
entry-sound : (ns : List (List ℕ)) (l : List ℕ) → entry_fault ns l ≡ 0 → is_entry l ≡ true
entry-sound ns l e = by (is_entry l) (listed ns (name_in l)) e
  where
    by : (t u : Bool) → ◌≡◌ {A = ℕ} (cond (not t) 9 (cond u 10 0)) 0 → t ≡ true
    by true u e = refl
    by false u e = absurd (omega arith)

-- ---- from each line to each name

-- P of the place and the bytes of each name
abbrev Each : (ℕ → List ℕ → Type 0) → List (List ℕ) → Type 0
Each P ns = (i : ℕ) → i < length ns → P i (get_or ns i [])

each_more : (P : ℕ → List ℕ → Type 0) (ns : List (List ℕ)) (m : List ℕ) → Each P ns → P (length ns) m → Each P (ns ++ m ∷ [])
each_more P ns m w e i h = elim (dec_lt i (length ns)) [
  | yes b ↦ rw (get_or-append ns (m ∷ []) [] i b) (w i b)
  | no b ↦
      let q : i ≡ length ns = omega (arith, length-append ns (m ∷ [])) in
      rw (q, get_or_at ns m [] [] (length ns) refl) e
]

module _ (s : List ℕ) where
  -- the end of the line that begins at a
  abbrev end : ℕ → ℕ
  end a = a + until lf (drop a s)

  ends_at : (a : ℕ) → a ≤ length s → PartEnd lf s a (end a)
  ends_at a h = part_end lf s a (end a) h refl

  -- a line without a fault has its LF
  line-next : (f : List ℕ → ℕ) (a : ℕ) → a ≤ length s → line_fault f (parts_from s a) ≡ 0 → Ends s a (end a + 1)
  line-next f a h e = elim (dec_lt (end a) (length s)) [
    | yes b ↦ line-ends s a (end a) (ends_at a h) b
    | no b ↦ absurd (omega (arith, e, line_missing s a (end a) (ends_at a h) f (omega arith)))
  ]

  module _ (ns' : List (List ℕ)) (cs' : List ℕ) (sts' : List Statement) (P : ℕ → List ℕ → Type 0)
      (brings : (ns : List (List ℕ)) (a : ℕ) → Begins s (length ns + 1) a → line_fault (entry_fault ns) (parts_from s a) ≡ 0
      → P (length ns) (name_in (next (parts_from s a)))) where
    contents-each : (known : List Word) (k : ℕ) (ns : List (List ℕ)) (cs : List ℕ) (a line : ℕ) → length cs ≡ length ns → Begins s (length ns + 1) a → Each P ns
        → contents known k ns cs (parts_from s a) line ≡ accepted ns' cs' sts' → Each P ns'
    unfolding contents
    contents-each known zero ns cs a line q b w e =
        subst (Each P) (bodies_fit known ns' cs' sts' ns cs (owners 0 cs) [] (parts_from s a) line (owners_below (length ns) 0 cs (omega arith)) tt e).0 w
    contents-each known (suc k) ns cs a line q b w e =
        let ps = parts_from s a in
        let m = name_in (next ps) in
        let ns₁ = ns ++ m ∷ [] in
        let cs₁ = cs ++ count_in (next ps) ∷ [] in
        let nl = length-append ns (m ∷ []) in
        let cl = length-append cs (count_in (next ps) ∷ []) in
        let g = went_on (line_fault (entry_fault ns) ps) line (contents known k ns₁ cs₁ (drop 1 ps) (suc line)) ns' cs' sts' e in
        let n = line-next (entry_fault ns) a b.inside g.0 in
        let more : length ns + 1 + 1 ≡ length ns₁ + 1 = omega arith in
        contents-each known k ns₁ cs₁ (end a + 1) (suc line) (omega arith)
        (subst (λ (j : ℕ). Begins s j (end a + 1)) more (begins_next s (length ns + 1) a (end a + 1) b n))
        (each_more P ns m w (brings ns a b g.0))
        (rw n.rest at g.1)

    sheet-each : sheet s ≡ accepted ns' cs' sts' → Each P ns'
    sheet-each e =
        let ps = parts s in
        let g = sheet_opened s ns' cs' sts' e in
        let n = line-next first_fault 0 (omega arith) g.0 in
        contents-each words (value (next ps)) [] [] (end 0 + 1) 2 refl (begins_next s 0 0 (end 0 + 1) (begins_first s) n) (λ i h. absurd (omega arith))
        (rw n.rest at g.1)

  -- ---- where a name's part is said to start, the name stands

  name_begins : (a : ℕ) → a ≤ length s → let m = name_in (next (parts_from s a)) in take (length m) (drop a s) ≡ m
  name_begins a h =
      let p = ends_at a h in
      let l = take (end a - a) (drop a s) in
      let f = name_front l in
      rw (line-is s a (end a) p)
      (sym (f.0 ∙ take-take (length (name_in l)) (end a - a) (drop a s) (omega (arith, f.1, part_length lf s a (end a) p))))

  module _ (ns : List (List ℕ)) (cs : List ℕ) (sts : List Statement) (e : sheet s ≡ accepted ns cs sts) where
    pub name-stands : (i : ℕ) → i < length ns → take (length (get_or ns i [])) (drop (name_start s i) s) ≡ get_or ns i []
    name-stands =
        sheet-each ns cs sts (λ i m. take (length m) (drop (name_start s i) s) ≡ m)
        (λ ns a b f. rw b.bytes (name_begins a b.inside)) e

    -- ---- a name has at most 16 bytes

    pub names-short : Short ns
    names-short =
        sheet-each ns cs sts (λ i m. length m ≤ longest_name)
        (λ ns a b f. entry-short (next (parts_from s a)) (entry-sound ns (next (parts_from s a)) (no_fault (entry_fault ns) (parts_from s a) f))) e
