-- Laws of a sheet's lines: where they begin and end, and the fault of the next one.
use mathlib.Core.Path.{◌≡◌, refl, sym, ◌∙◌, ap}
use mathlib.Core.List.{List, [], ◌∷◌, ◌++◌}
use Prim.Native.Nat.{ℕ, ◌+◌, ◌-◌, ◌≤◌, ◌<◌}
use native.Mathlib.Omega.{arith}
use lib.ListN.{length, take, drop}
use lib.Seq.{take-add, drop-drop}
use borrow.Author.Tests.{ne_eqb}
use Rattle.refusal.specs.Numbers.{number_of}
use Rattle.refusal.specs.declared.Refusal.{Refusal}
use Rattle.refusal.proofs.NumberLaws.{number_pos}
use Rattle.text.specs.Text.{split}
use Rattle.text.specs.Steps.{PartEnd}
use Rattle.text.proofs.PartLaws.{after_next, after_last, part_length, split-some}
use Rattle.sheet.specs.Sheet.{Outcome, refused, lf, parts, next, line_fault, or_refused}
use Rattle.sheet.specs.Answers.{bytes_in}
use Rattle.sheet.specs.Steps.{parts_from, Ends, Begins}

-- ---- the line that begins at a and has its LF at e, or none

fault_some : (f : List ℕ → ℕ) (l : List ℕ) (ps : List (List ℕ)) → 1 ≤ length ps → line_fault f (l ∷ ps) ≡ f l
fault_some f l [] h = absurd (omega arith)
fault_some f l (p ∷ ps) h = refl

module _ (s : List ℕ) (a e : ℕ) (p : PartEnd lf s a e) where
  pub line-is : next (parts_from s a) ≡ take (e - a) (drop a s)
  line-is = rw p.parts

  pub line_missing : (f : List ℕ → ℕ) → length s ≤ e → line_fault f (parts_from s a) ≡ 9
  line_missing f h = rw (p.parts, after_last lf s e h)

  pub line-there : (f : List ℕ → ℕ) → e < length s → line_fault f (parts_from s a) ≡ f (take (e - a) (drop a s))
  line-there f h =
      rw (p.parts, after_next lf s e h)
      (fault_some f (take (e - a) (drop a s)) (split lf (drop (e + 1) s)) (split-some lf (drop (e + 1) s)))

  pub line-ends : e < length s → Ends s a (e + 1)
  line-ends h =
      record {
        low = omega (arith, p.low);
        high = omega arith;
        rest = rw (p.parts, after_next lf s e h);
        bytes = rw line-is (omega (arith, part_length lf s a e p, p.low));
      }

-- ---- where a line begins

bytes-append : (xs ys : List (List ℕ)) → bytes_in (xs ++ ys) ≡ bytes_in xs + bytes_in ys
bytes-append [] ys = omega arith
bytes-append (x ∷ xs) ys = omega (arith, bytes-append xs ys)

bytes_one : (ps : List (List ℕ)) → 1 ≤ length ps → bytes_in (take 1 ps) ≡ length (next ps) + 1
bytes_one [] h = absurd (omega arith)
bytes_one (p ∷ ps) h = omega arith

module _ (s : List ℕ) where
  pub begins_first : Begins s 0 0
  begins_first = record { inside = omega arith; bytes = refl; rest = refl }

  pub begins_next : (k a b : ℕ) → Begins s k a → Ends s a b → Begins s (k + 1) b
  begins_next k a b h n =
      let one = ap (λ (ps : List (List ℕ)). bytes_in (take 1 ps)) h.rest ∙ bytes_one (parts_from s a) (split-some lf (drop a s)) in
      record {
        inside = n.high;
        bytes = rw (take-add k 1 (parts s), bytes-append) (omega (arith, h.bytes, n.bytes, one));
        rest = sym (drop-drop 1 k (parts s)) ∙ ap (drop 1) h.rest ∙ n.rest;
      }

-- ---- a refusal ends the reading

pub or_refused_lem : (fault : ℕ) (r : Refusal) (line : ℕ) (rest : Outcome) → fault ≡ number_of r → or_refused fault line rest ≡ refused (number_of r) line
or_refused_lem fault r line rest e = rw (e, ne_eqb (number_of r) 0 (λ z. omega (arith, number_pos r)))
