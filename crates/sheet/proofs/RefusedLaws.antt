-- A refusal of a sheet has a number of at most 12, and the line that it carries is not far beyond the sheet.
use mathlib.Core.Path.{◌≡◌, refl}
use mathlib.Core.Bool.{Bool, true, false, cond, not}
use mathlib.Core.List.{List, [], ◌∷◌, ◌++◌}
use Prim.Native.Nat.{ℕ, zero, suc, ◌+◌, ◌≤◌}
use native.Mathlib.Omega.{arith}
use lib.Dec.{eqb, ltb}
use lib.ListN.{length, drop, length-drop}
use borrow.Author.Tests.{eqb-true, ltb-false}
use Rattle.text.specs.Text.{is_number, value}
use Rattle.text.proofs.PartLaws.{split-few}
use Rattle.statements.specs.Statements.{Statement}
use Rattle.words.specs.Words.{Word, words}
use Rattle.sheet.specs.Sheet.{Outcome, refused, accepted, most_bytes, most_events, lf, parts, first_fault, name_in, count_in, find, is_entry, listed, entry_fault, other_in, is_statement, statement_fault, statement_in, owners, next, line_fault, or_refused, ended, bodies, contents, first, sheet}

-- ---- the numbers of the faults

abbrev highest : ℕ
highest = 12

cond_few : (b : Bool) (x y : ℕ) → x ≤ highest → y ≤ highest → cond b x y ≤ highest
cond_few true x y h k = h
cond_few false x y h k = k

line-few : (f : List ℕ → ℕ) → ((l : List ℕ) → f l ≤ highest) → (ps : List (List ℕ)) → line_fault f ps ≤ highest
line-few f h [] = omega arith
line-few f h (p ∷ []) = omega arith
line-few f h (p ∷ q ∷ ps) = h p

first-few : (l : List ℕ) → first_fault l ≤ highest
first-few l = cond_few (not (is_number l)) 9 _ (omega arith) (cond_few (ltb most_events (value l)) 1 0 (omega arith) (omega arith))

entry-few : (ns : List (List ℕ)) (l : List ℕ) → entry_fault ns l ≤ highest
entry-few ns l = cond_few (not (is_entry l)) 9 _ (omega arith) (cond_few (listed ns (name_in l)) 10 0 (omega arith) (omega arith))

statement_few : (known : List Word) (ns : List (List ℕ)) (i : ℕ) (l : List ℕ) → statement_fault known ns i l ≤ highest
statement_few known ns i l =
    cond_few (not (is_statement known l)) 9 _ (omega arith)
    (cond_few (not (listed ns (other_in l))) 11 _ (omega arith) (cond_few (eqb (find ns (other_in l)) i) 12 0 (omega arith) (omega arith)))

-- a line without a fault is not the last part
line-more : (f : List ℕ → ℕ) (ps : List (List ℕ)) → line_fault f ps ≡ 0 → 2 ≤ length ps
line-more f [] e = absurd (omega arith)
line-more f (p ∷ []) e = absurd (omega arith)
line-more f (p ∷ q ∷ ps) e = omega arith

-- ---- the whole sheet

module _ (number at : ℕ) where
  abbrev Few : ℕ → Type 0
  Few most = (number ≤ highest) × (at ≤ most)

  -- refused on a line, or after it
  refused-few : (fault line most : ℕ) (rest : Outcome) → fault ≤ highest → line ≤ most → (fault ≡ 0 → rest ≡ refused number at → Few most)
      → or_refused fault line rest ≡ refused number at → Few most
  refused-few fault line most rest h w go e = by (eqb fault 0) refl e
    where
      by : (t : Bool) → eqb fault 0 ≡ t → cond t rest (refused fault line) ≡ refused number at → Few most
      by true q e = go (eqb-true fault 0 q) e
      by false q e = let p : fault ≡ number = cc in let q : line ≡ at = cc in (omega arith, omega arith)

  bodies-few : (known : List Word) (ns : List (List ℕ)) (cs os : List ℕ) (sts : List Statement) (ps : List (List ℕ)) (line most : ℕ) → line + length ps ≤ most
      → bodies known ns cs os sts ps line ≡ refused number at → Few most
  unfolding bodies
  bodies-few known ns cs [] sts ps line most h e = by (ended ps) e
    where
      by : (t : Bool) → cond t (accepted ns cs sts) (refused 9 line) ≡ refused number at → Few most
      by true e = let z : ◌≡◌ {A = ℕ} 0 1 = cc in absurd (omega arith)
      by false e = let p : 9 ≡ number = cc in let q : line ≡ at = cc in (omega arith, omega arith)
  bodies-few known ns cs (i ∷ os) sts ps line most h e =
      refused-few (line_fault (statement_fault known ns i) ps) line most _ (line-few (statement_fault known ns i) (statement_few known ns i) ps) (omega arith)
      (λ z r.
      bodies-few known ns cs os (sts ++ statement_in known ns i (next ps) ∷ []) (drop 1 ps) (suc line) most
      (omega (arith, line-more (statement_fault known ns i) ps z, length-drop 1 ps)) r)
      e

  contents-few : (known : List Word) (k : ℕ) (ns : List (List ℕ)) (cs : List ℕ) (ps : List (List ℕ)) (line most : ℕ) → line + length ps ≤ most
      → contents known k ns cs ps line ≡ refused number at → Few most
  unfolding contents
  contents-few known zero ns cs ps line most h e = bodies-few known ns cs (owners 0 cs) [] ps line most h e
  contents-few known (suc k) ns cs ps line most h e =
      refused-few (line_fault (entry_fault ns) ps) line most _ (line-few (entry_fault ns) (entry-few ns) ps) (omega arith)
      (λ z r.
      contents-few known k (ns ++ name_in (next ps) ∷ []) (cs ++ count_in (next ps) ∷ []) (drop 1 ps) (suc line) most
      (omega (arith, line-more (entry_fault ns) ps z, length-drop 1 ps)) r)
      e

  pub sheet-few : (s : List ℕ) → sheet s ≡ refused number at → Few (most_bytes + 2)
  unfolding sheet
  sheet-few s e = by (ltb most_bytes (length s)) refl e
    where
      by : (t : Bool) → ltb most_bytes (length s) ≡ t → cond t (refused 8 0) (first words (parts s)) ≡ refused number at → Few (most_bytes + 2)
      by true q e = let p : 8 ≡ number = cc in let q : 0 ≡ at = cc in (omega arith, omega arith)
      by false q e =
          let ps = parts s in
          let l : length ps ≤ suc most_bytes = omega (arith, split-few lf s, ltb-false most_bytes (length s) q) in
          refused-few (line_fault first_fault ps) 1 (most_bytes + 2) _ (line-few first_fault first-few ps) (omega arith)
          (λ z r.
          contents-few words (value (next ps)) [] [] (drop 1 ps) 2 (most_bytes + 2) (omega (arith, line-more first_fault ps z, length-drop 1 ps)) r)
          e
