-- Laws of the bodies: a line by itself, a line of an event's body, and the reading of all bodies.
use mathlib.Core.Path.{◌≡◌, sym, ◌∙◌, ap}
use mathlib.Core.Bool.{Bool, true, false, cond}
use mathlib.Core.List.{List, [], ◌∷◌, ◌++◌}
use Prim.Native.Nat.{ℕ, suc, ◌+◌, ◌-◌, ◌≤◌, ◌<◌}
use native.Mathlib.Omega.{arith}
use native.Mathlib.Numerals.{add-one}
use Rattle.std.specs.List.{onto_first}
use Rattle.std.specs.Prelude.{Option, Some}
use denote.Ref.{Bor}
use lib.Dec.{eqb}
use lib.ListN.{length, take, drop, get_or, replicate, drop_of_length-le}
use lib.Seq.{drop-cons}
use borrow.Author.Tests.{lt-ltb, le-ltb, eq-eqb, ne_eqb}
use Rattle.refusal.specs.Numbers.{number_of}
use Rattle.refusal.specs.declared.Refusal.{Refusal}
use Rattle.text.specs.Text.{split}
use Rattle.text.specs.Names.{is_name}
use Rattle.text.specs.Steps.{PartEnd}
use Rattle.text.proofs.PartLaws.{split-some}
use Rattle.text.proofs.TextLaws.{and_false}
use Rattle.words.specs.Words.{Word, joined, are_words, union}
use Rattle.statements.specs.Statements.{Statement}
use Rattle.sheet.specs.Sheet.{refused, accepted, lf, fields, other_in, is_statement, find, statement_fault, statement_in, owners, next, line_fault, ended, bodies}
use Rattle.sheet.specs.Steps.{parts_from, StatementIs, StatementHas, StatementRead}
use Rattle.sheet.proofs.LineLaws.{line-is, line-there, line-ends, or_refused_lem}

-- ---- a line by itself

pub statement_fields : (known : List Word) (l : List ℕ) → eqb (length (fields l)) 2 ≡ false → is_statement known l ≡ false
unfolding is_statement
statement_fields known l e = rw e

module _ (known : List Word) (l : List ℕ) (k : ℕ) (h : k < length l) (e : fields l ≡ take k l ∷ drop (k + 1) l ∷ []) where
  pub statement_words : are_words known (joined (take k l)) ≡ false → is_statement known l ≡ false
  unfolding is_statement
  statement_words w = rw (e, w)

  pub statement_name : are_words known (joined (take k l)) ≡ true → is_name (drop (k + 1) l) ≡ false → is_statement known l ≡ false
  unfolding is_statement
  statement_name w n = rw (e, w, n)

  pub statement_is : (u : ℕ) → are_words known (joined (take k l)) ≡ true → union known (joined (take k l)) ≡ u → is_name (drop (k + 1) l) ≡ true
      → StatementIs known l u (drop (k + 1) l)
  unfolding is_statement
  statement_is u w q n =
      record {
        form = rw (e, w, n);
        other = rw e;
        set = rw e q;
      }

pub statement_had : (known : List Word) (l : List ℕ) (r : Option (ℕ × Bor (List ℕ))) (u : ℕ) (m : Bor (List ℕ)) → StatementHas known l r → r ≡ Some (u, m) → StatementIs known l u m.now
statement_had known l r u m w q = rw q at w

-- ---- the line that begins at a, in the body of event i

module _ (known : List Word) (ns : List (List ℕ)) (i : ℕ) (l : List ℕ) where
  fault_9 : is_statement known l ≡ false → statement_fault known ns i l ≡ 9
  fault_9 b = rw b

  module _ (b : is_statement known l ≡ true) (j : ℕ) (q : j ≡ find ns (other_in l)) where
    fault_11 : length ns ≤ j → statement_fault known ns i l ≡ 11
    fault_11 h = rw (b, le-ltb (find ns (other_in l)) (length ns) (omega arith))

    fault_12 : j < length ns → j ≡ i → statement_fault known ns i l ≡ 12
    fault_12 h g = rw (b, lt-ltb (find ns (other_in l)) (length ns) (omega arith), eq-eqb (find ns (other_in l)) i (omega arith))

    fault_none : j < length ns → (j ≡ i → ⊥) → statement_fault known ns i l ≡ 0
    fault_none h g = rw (b, lt-ltb (find ns (other_in l)) (length ns) (omega arith), ne_eqb (find ns (other_in l)) i (λ y. g (q ∙ y)))

module _ (known : List Word) (ns : List (List ℕ)) (i : ℕ) (s : List ℕ) (a e : ℕ) (p : PartEnd lf s a e) (h : e < length s) where
  pub read_9 : is_statement known (take (e - a) (drop a s)) ≡ false → line_fault (statement_fault known ns i) (parts_from s a) ≡ 9
  read_9 b = line-there s a e p (statement_fault known ns i) h ∙ fault_9 known ns i (take (e - a) (drop a s)) b

  module _ (u : ℕ) (m : List ℕ) (w : StatementIs known (take (e - a) (drop a s)) u m) where
    pub read_11 : length ns ≤ find ns m → line_fault (statement_fault known ns i) (parts_from s a) ≡ 11
    read_11 g = line-there s a e p (statement_fault known ns i) h ∙ fault_11 known ns i (take (e - a) (drop a s)) w.form (find ns m) (ap (find ns) (sym w.other)) g

    pub read_12 : find ns m < length ns → find ns m ≡ i → line_fault (statement_fault known ns i) (parts_from s a) ≡ 12
    read_12 g d = line-there s a e p (statement_fault known ns i) h ∙ fault_12 known ns i (take (e - a) (drop a s)) w.form (find ns m) (ap (find ns) (sym w.other)) g d

    pub read_says : (j : ℕ) → find ns m < length ns → j ≡ find ns m → (j ≡ i → ⊥) → StatementRead known ns i s a u j (e + 1)
    read_says j g q d =
        record {
          sound = line-there s a e p (statement_fault known ns i) h
              ∙ fault_none known ns i (take (e - a) (drop a s)) w.form (find ns m) (ap (find ns) (sym w.other)) g (λ y. d (q ∙ y));
          ends = line-ends s a e p h;
          set = rw (line-is s a e p) w.set;
          other = rw (line-is s a e p) (ap (find ns) w.other ∙ sym q);
          inside = omega arith;
        }

-- ---- the bodies, one line of event i on

module _ (known : List Word) (ns : List (List ℕ)) (cs : List ℕ) (i : ℕ) (os : List ℕ) (sts : List Statement) (ps : List (List ℕ)) (line : ℕ) where
  pub bodies_stop : (r : Refusal) → line_fault (statement_fault known ns i) ps ≡ number_of r → bodies known ns cs (i ∷ os) sts ps line ≡ refused (number_of r) line
  unfolding bodies
  bodies_stop r e = or_refused_lem (line_fault (statement_fault known ns i) ps) r line _ e

  pub bodies_read : line_fault (statement_fault known ns i) ps ≡ 0
      → bodies known ns cs (i ∷ os) sts ps line ≡ bodies known ns cs os (sts ++ statement_in known ns i (next ps) ∷ []) (drop 1 ps) (suc line)
  unfolding bodies
  bodies_read e = rw e

pub bodies_cong : (known : List Word) (ns : List (List ℕ)) (cs : List ℕ) {os os' : List ℕ} {sts sts' : List Statement} {ps ps' : List (List ℕ)} {line line' : ℕ}
    → os ≡ os' → sts ≡ sts' → ps ≡ ps' → line ≡ line' → bodies known ns cs os sts ps line ≡ bodies known ns cs os' sts' ps' line'
bodies_cong known ns cs p q r t = cc

pub owners-next : (i : ℕ) (cs : List ℕ) → i < length cs → owners i (drop i cs) ≡ replicate (get_or cs i 0) i ++ owners (i + 1) (drop (i + 1) cs)
unfolding owners
owners-next i cs h = rw (drop-cons cs i 0, add-one)

-- no line is left exactly where no byte is
some_not_ended : (x : ℕ) (xs : List ℕ) → ended (split lf (x ∷ xs)) ≡ false
some_not_ended x xs = by (eqb x lf) (split lf xs) (split-some lf xs)
  where
    by : (t : Bool) (ps : List (List ℕ)) → 1 ≤ length ps → ended (cond t ([] ∷ ps) (onto_first x ps)) ≡ false
    by t [] h = absurd (omega arith)
    by true (p ∷ ps) h = rw (ne_eqb (suc (suc (length ps))) 1 (λ y. omega arith))
    by false (p ∷ ps) h = rw (ne_eqb (suc (length p)) 0 (λ y. omega arith)) (and_false (eqb (suc (length ps)) 1))

ended_at : (s : List ℕ) (a : ℕ) → length s ≤ a → ended (parts_from s a) ≡ true
ended_at s a h = rw drop_of_length-le

not_ended_at : (s : List ℕ) (a : ℕ) → a < length s → ended (parts_from s a) ≡ false
not_ended_at s a h = rw (drop-cons s a 0) (some_not_ended (get_or s a 0) (drop (suc a) s))

module _ (known : List Word) (ns : List (List ℕ)) (cs : List ℕ) (i : ℕ) (sts : List Statement) (s : List ℕ) (a line : ℕ) (e : length cs ≤ i) where
  pub bodies_done : length s ≤ a → bodies known ns cs (owners i (drop i cs)) sts (parts_from s a) line ≡ accepted ns cs sts
  unfolding bodies owners
  bodies_done h = rw (drop_of_length-le cs e, ended_at s a h)

  pub bodies_over : a < length s → bodies known ns cs (owners i (drop i cs)) sts (parts_from s a) line ≡ refused 9 line
  unfolding bodies owners
  bodies_over h = rw (drop_of_length-le cs e, not_ended_at s a h)
