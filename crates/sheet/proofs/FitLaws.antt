-- Every statement of an accepted sheet is about two different events of the sheet, and there are at most 32.
use mathlib.Core.Path.{◌≡◌, refl, sym, ap, subst}
use mathlib.Core.Bool.{Bool, true, false, cond, not}
use mathlib.Core.List.{List, [], ◌∷◌, ◌++◌}
use Prim.Native.Nat.{ℕ, zero, suc, ◌+◌, ◌≤◌, ◌<◌}
use native.Mathlib.Omega.{arith}
use lib.Dec.{eqb, ltb}
use lib.ListN.{length, drop, replicate, length-append}
use borrow.Author.Tests.{eqb-true, eqb-false, ltb-true, ltb-false}
use Rattle.text.specs.Text.{is_number, value}
use Rattle.words.specs.Words.{Word, words}
use Rattle.statements.specs.Statements.{Statement, Fits, AllFit}
use Rattle.statements.proofs.StatementLaws.{fit_append}
use Rattle.sheet.specs.Sheet.{Outcome, refused, accepted, most_bytes, most_events, parts, first_fault, name_in, count_in, find, listed, entry_fault, other_in, is_statement, statement_fault, statement_in, owners, next, line_fault, or_refused, ended, bodies, contents, first, sheet}

-- ---- the events of the statement lines

abbrev pub AllBelow : ℕ → List ℕ → Type 0
AllBelow n [] = Unit
AllBelow n (x ∷ xs) = (x < n) × AllBelow n xs

below_append : (n : ℕ) (xs ys : List ℕ) → AllBelow n xs → AllBelow n ys → AllBelow n (xs ++ ys)
below_append n [] ys p q = q
below_append n (x ∷ xs) ys p q = (p.0, below_append n xs ys p.1 q)

below_replicate : (n k i : ℕ) → i < n → AllBelow n (replicate k i)
below_replicate n zero i h = tt
below_replicate n (suc k) i h = (h, below_replicate n k i h)

pub owners_below : (n i : ℕ) (cs : List ℕ) → i + length cs ≤ n → AllBelow n (owners i cs)
unfolding owners
owners_below n i [] h = tt
owners_below n i (c ∷ cs) h =
    below_append n (replicate c i) (owners (suc i) cs) (below_replicate n c i (omega arith)) (owners_below n (suc i) cs (omega arith))

-- ---- a line without a fault

pub no_fault : (f : List ℕ → ℕ) (ps : List (List ℕ)) → line_fault f ps ≡ 0 → f (next ps) ≡ 0
no_fault f [] e = absurd (omega arith)
no_fault f (p ∷ []) e = absurd (omega arith)
no_fault f (p ∷ q ∷ ps) e = e

-- what is accepted after a line has no fault there
pub went_on : (fault line : ℕ) (rest : Outcome) (ns : List (List ℕ)) (cs : List ℕ) (sts : List Statement)
    → or_refused fault line rest ≡ accepted ns cs sts → (fault ≡ 0) × (rest ≡ accepted ns cs sts)
went_on fault line rest ns cs sts e = by (eqb fault 0) refl e
  where
    by : (t : Bool) → eqb fault 0 ≡ t → cond t rest (refused fault line) ≡ accepted ns cs sts → (fault ≡ 0) × (rest ≡ accepted ns cs sts)
    by true q e = (eqb-true fault 0 q, e)
    by false q e = let z : ◌≡◌ {A = ℕ} 0 1 = cc in absurd (omega arith)

statement_fits : (known : List Word) (ns : List (List ℕ)) (i : ℕ) (l : List ℕ) → i < length ns → statement_fault known ns i l ≡ 0 → Fits (length ns) (statement_in known ns i l)
statement_fits known ns i l h e = by (is_statement known l) (listed ns (other_in l)) (eqb (find ns (other_in l)) i) refl refl e
  where
    by : (t u v : Bool) → listed ns (other_in l) ≡ u → eqb (find ns (other_in l)) i ≡ v → ◌≡◌ {A = ℕ} (cond (not t) 9 (cond (not u) 11 (cond v 12 0))) 0
        → Fits (length ns) (statement_in known ns i l)
    by false u v p q e = absurd (omega arith)
    by true false v p q e = absurd (omega arith)
    by true true true p q e = absurd (omega arith)
    by true true false p q e =
        record { one_in = h; two_in = ltb-true (find ns (other_in l)) (length ns) p; apart = λ y. eqb-false (find ns (other_in l)) i q (sym y) }

-- ---- the whole sheet

-- an accepted sheet has no fault on its first line, and its contents are accepted
pub sheet_opened : (s : List ℕ) (ns : List (List ℕ)) (cs : List ℕ) (sts : List Statement) → sheet s ≡ accepted ns cs sts
    → (line_fault first_fault (parts s) ≡ 0) × (contents words (value (next (parts s))) [] [] (drop 1 (parts s)) 2 ≡ accepted ns cs sts)
unfolding sheet
sheet_opened s ns cs sts e = by (ltb most_bytes (length s)) e
  where
    by : (t : Bool) → cond t (refused 8 0) (first words (parts s)) ≡ accepted ns cs sts
        → (line_fault first_fault (parts s) ≡ 0) × (contents words (value (next (parts s))) [] [] (drop 1 (parts s)) 2 ≡ accepted ns cs sts)
    by true e = let z : ◌≡◌ {A = ℕ} 0 1 = cc in absurd (omega arith)
    by false e = went_on (line_fault first_fault (parts s)) 1 (contents words (value (next (parts s))) [] [] (drop 1 (parts s)) 2) ns cs sts e

module _ (known : List Word) (ns' : List (List ℕ)) (cs' : List ℕ) (sts' : List Statement) where
  pub bodies_fit : (ns : List (List ℕ)) (cs os : List ℕ) (sts : List Statement) (ps : List (List ℕ)) (line : ℕ)
      → AllBelow (length ns) os → AllFit (length ns) sts → bodies known ns cs os sts ps line ≡ accepted ns' cs' sts'
      → (ns ≡ ns') × AllFit (length ns) sts'
  unfolding bodies
  bodies_fit ns cs [] sts ps line b f e = by (ended ps) e
    where
      by : (t : Bool) → cond t (accepted ns cs sts) (refused 9 line) ≡ accepted ns' cs' sts' → (ns ≡ ns') × AllFit (length ns) sts'
      by true e = let q : sts ≡ sts' = cc in ((cc), subst (AllFit (length ns)) q f)
      by false e = let z : ◌≡◌ {A = ℕ} 0 1 = cc in absurd (omega arith)
  bodies_fit ns cs (i ∷ os) sts ps line b f e =
      let w = went_on (line_fault (statement_fault known ns i) ps) line (bodies known ns cs os (sts ++ statement_in known ns i (next ps) ∷ []) (drop 1 ps) (suc line)) ns' cs' sts' e in
      bodies_fit ns cs os (sts ++ statement_in known ns i (next ps) ∷ []) (drop 1 ps) (suc line) b.1
      (fit_append (length ns) sts (statement_in known ns i (next ps) ∷ []) f
      (statement_fits known ns i (next ps) b.0 (no_fault (statement_fault known ns i) ps w.0), tt))
      w.1

  contents_fit : (k : ℕ) (ns : List (List ℕ)) (cs : List ℕ) (ps : List (List ℕ)) (line : ℕ) → length cs ≡ length ns
      → contents known k ns cs ps line ≡ accepted ns' cs' sts' → (length ns' ≡ length ns + k) × AllFit (length ns') sts'
  unfolding contents
  contents_fit zero ns cs ps line q e =
      let w = bodies_fit ns cs (owners 0 cs) [] ps line (owners_below (length ns) 0 cs (omega arith)) tt e in
      (omega (arith, ap length w.0), subst (λ (n : ℕ). AllFit n sts') (ap length w.0) w.1)
  contents_fit (suc k) ns cs ps line q e =
      let ns₁ = ns ++ name_in (next ps) ∷ [] in
      let cs₁ = cs ++ count_in (next ps) ∷ [] in
      let nl = length-append ns (name_in (next ps) ∷ []) in
      let cl = length-append cs (count_in (next ps) ∷ []) in
      let w = went_on (line_fault (entry_fault ns) ps) line (contents known k ns₁ cs₁ (drop 1 ps) (suc line)) ns' cs' sts' e in
      let r = contents_fit k ns₁ cs₁ (drop 1 ps) (suc line) (omega arith) w.1 in
      (omega (arith, r.0), r.1)

module _ (ns' : List (List ℕ)) (cs' : List ℕ) (sts' : List Statement) where
  pub sheet-fits : (s : List ℕ) → sheet s ≡ accepted ns' cs' sts' → (length ns' ≤ most_events) × AllFit (length ns') sts'
  sheet-fits s e =
      let ps = parts s in
      let w = sheet_opened s ns' cs' sts' e in
      let r = contents_fit words ns' cs' sts' (value (next ps)) [] [] (drop 1 ps) 2 refl w.1 in
      (omega (arith, r.0, few (next ps) (no_fault first_fault ps w.0)), r.1)
    where
      few : (l : List ℕ) → first_fault l ≡ 0 → value l ≤ most_events
      few l e = go (is_number l) (ltb most_events (value l)) refl e
        where
          go : (t u : Bool) → ltb most_events (value l) ≡ u → ◌≡◌ {A = ℕ} (cond (not t) 9 (cond u 1 0)) 0 → value l ≤ most_events
          go false u p e = absurd (omega arith)
          go true true p e = absurd (omega arith)
          go true false p e = ltb-false most_events (value l) p

-- of the bodies alone, as the reader reads them
pub bodies-fits : (known : List Word) (ns : List (List ℕ)) (cs : List ℕ) (ps : List (List ℕ)) (line : ℕ) (sts : List Statement) → length cs ≤ length ns
    → bodies known ns cs (owners 0 cs) [] ps line ≡ accepted ns cs sts → AllFit (length ns) sts
bodies-fits known ns cs ps line sts h e = (bodies_fit known ns cs sts ns cs (owners 0 cs) [] ps line (owners_below (length ns) 0 cs (omega arith)) tt e).1
