-- Laws of the lines that a reader hands on.
use mathlib.Core.Path.{◌≡◌, refl, sym, ◌∙◌, ap, subst}
use mathlib.Core.Bool.{Bool, true, false, cond}
use mathlib.Core.List.{List, [], ◌∷◌}
use Prim.Native.Nat.{ℕ, ◌+◌, ◌-◌, ◌≤◌, ◌<◌}
use native.Mathlib.Omega.{arith}
use native.Mathlib.Decide.{dec_lt}
use lib.Dec.{leb}
use lib.ListN.{length, take, drop}
use borrow.Author.Tests.{lt-leb, leb-false}
use Rattle.text.specs.Text.{split}
use Rattle.text.specs.Steps.{PartEnd}
use Rattle.text.proofs.PartLaws.{until, part_end, after_next, after_last, part_length, split-some}
use Rattle.sheet.specs.Sheet.{lf}
use Rattle.sheet.specs.Steps.{parts_from, Ends as Next}
use Rattle.sheet.proofs.LineLaws.{line-ends as sheet-line-ends}
use Rattle.reader.specs.Lines.{next_of, line_at}
use Rattle.reader.specs.declared.NextLine.TheVariants.{Ends, Unended, Nothing}

first_ends : (a : ℕ) (l : List ℕ) (ps : List (List ℕ)) → 1 ≤ length ps → next_of a (l ∷ ps) ≡ Ends (a + length l)
first_ends a l [] h = absurd (omega arith)
first_ends a l (p ∷ ps) h = refl

module _ (s : List ℕ) (a e : ℕ) (h : a < length s) (p : PartEnd lf s a e) where
  pub line-ends : e < length s → Ends e ≡ line_at s a
  line-ends g =
      let q : a + length (take (e - a) (drop a s)) ≡ e = omega (arith, part_length lf s a e p, p.low) in
      rw (lt-leb (length s) a h, p.parts, after_next lf s e g)
      (sym (first_ends a (take (e - a) (drop a s)) (split lf (drop (e + 1) s)) (split-some lf (drop (e + 1) s)) ∙ ap Ends q))

  pub line_open : length s ≤ e → Unended ≡ line_at s a
  line_open g = rw (lt-leb (length s) a h, p.parts, after_last lf s e g)

-- ---- line after line

module _ (s : List ℕ) (a : ℕ) where
  -- where the part that begins at a ends
  abbrev end : ℕ
  end = a + until lf (drop a s)

  ends_at : a ≤ length s → PartEnd lf s a end
  ends_at h = part_end lf s a end h refl

  inside : (e : ℕ) → line_at s a ≡ Ends e → a < length s
  inside e q = by (leb (length s) a) refl q
    where
      by : (t : Bool) → leb (length s) a ≡ t → cond t Nothing (next_of a (parts_from s a)) ≡ Ends e → a < length s
      by true h q = let z : ◌≡◌ {A = ℕ} 0 1 = cc in absurd (omega arith)
      by false h q = leb-false (length s) a h

  pub line-next : (e : ℕ) → line_at s a ≡ Ends e → Next s a (e + 1)
  line-next e q =
      let h = inside e q in
      let p = ends_at (omega arith) in
      elim (dec_lt end (length s)) [
        | yes g ↦
            let w : end ≡ e = ends_same (line-ends s a end h p g ∙ q) in
            subst (λ (x : ℕ). Next s a (x + 1)) w (sheet-line-ends s a end p g)
        | no g ↦ absurd (ends_open (line_open s a end h p (omega arith) ∙ q))
      ]
    where
      ends_same : {x y : ℕ} → Ends x ≡ Ends y → x ≡ y
      ends_same w = cc

      ends_open : {x : ℕ} → Unended ≡ Ends x → ⊥
      ends_open w = let z : ◌≡◌ {A = ℕ} 0 1 = cc in omega arith

  -- where no line is left there is one part, which has no LF
  pub line_last : a ≤ length s → ((e : ℕ) → line_at s a ≡ Ends e → ⊥) → length (parts_from s a) ≡ 1
  line_last h none =
      let p = ends_at h in
      elim (dec_lt end (length s)) [
        | yes g ↦ absurd (none end (sym (line-ends s a end (omega (arith, p.low)) p g)))
        | no g ↦ let w : length s ≤ end = omega arith in rw (p.parts, after_last lf s end w)
      ]
