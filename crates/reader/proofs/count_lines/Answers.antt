use mathlib.Core.Path.{◌≡◌, sym, ◌∙◌, ap}
use mathlib.Core.List.{List}
use Prim.Native.Nat.{ℕ}
use native.Mathlib.Omega.{arith}
use lib.ListN.{length, drop, length-drop}
use denote.Ref.{Bor}
use Rattle.text.proofs.PartLaws.{split-some}
use Rattle.sheet.specs.Sheet.{lf, parts}
use Rattle.sheet.specs.Steps.{parts_from}
use Rattle.reader.specs.Lines.{line_at}
use Rattle.reader.specs.declared.NextLine.TheVariants.{Ends}
use Rattle.reader.proofs.LineLaws.{line-next, line_last}
use Rattle.reader.proofs.count_lines.Goals as goal

-- a line was found, and the next one begins after its LF
pub overflow_add-e : goal.overflow_add-e
overflow_add-e c =
    let n = line-next c.loop-e.reader.sheet.now c.loop-e.reader.at c.in-Ends.e (sym c.in-Ends.ensures) in
    omega (arith, n.high, ap (λ (x : Bor (List ℕ)). length x.now) (c.loop-e.invariant.sheet ∙ c.begun-reader.ensures.0))

pub loop-e-preserved : goal.loop-e-preserved
loop-e-preserved c =
    let s = c.begun-reader.result.sheet.now in
    let I = c.loop-e.invariant in
    let a = c.loop-e.reader.at in
    let n = line-next s a c.in-Ends.e (ap (λ (x : Bor (List ℕ)). line_at x.now a) (sym I.sheet) ∙ sym c.in-Ends.ensures) in
    let one = split-some lf (drop a s) in
    record {
      sheet = c.moved-reader.ensures.0 ∙ I.sheet;
      inside = omega (arith, c.moved-reader.ensures.1, n.high);
      few = omega (arith, c.moved-reader.ensures.1, I.few, n.low);
      counted = rw c.moved-reader.ensures.1 (omega (arith, I.counted, ap length n.rest, length-drop 1 (parts_from s a), one));
    }

-- the reader stands where no line is left
pub returns : goal.returns
returns c =
    let I = c.loop-e.invariant in
    let a = c.loop-e.reader.at in
    let none : (e : ℕ) → line_at c.begun-reader.result.sheet.now a ≡ Ends e → ⊥ =
    λ e q. c.in_default.not-Ends e (c.line.ensures ∙ ap (λ (x : Bor (List ℕ)). line_at x.now a) I.sheet ∙ q) in
    let one = line_last c.begun-reader.result.sheet.now a I.inside none in
    omega (arith, I.counted, ap (λ (x : Bor (List ℕ)). length (parts x.now)) c.begun-reader.ensures.0)
