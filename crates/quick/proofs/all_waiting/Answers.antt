-- Row after row joins, each pair at the end because it does not wait yet; the rows before row n are all.
use mathlib.Core.Path.{◌≡◌, sym, ap, ◌∙◌}
use native.Mathlib.Omega.{arith}
use Rattle.theory.specs.Line.{joins, rows_to}
use Rattle.theory.proofs.StartLaws.{rows_none, rows_all, rows_and, rows_begin, rows_end, rows_join}
use Rattle.quick.proofs.all_waiting.Goals as goal

pub loop-i-init : goal.loop-i-init
loop-i-init c = c.requires.1 ∙ sym (rows_none _)

pub loop-j-init : goal.loop-j-init
loop-j-init c = c.loop-i.invariant ∙ sym (rows_begin _ _)

pub loop-j-preserved : goal.loop-j-preserved
loop-j-preserved c = c.join.ensures ∙ ap (joins _) c.loop-j.invariant ∙ rows_join _ _ _ c.requires.0 (omega (arith, c.loop-j.auto.j)) c.loop-j-test.true

pub loop-i-preserved : goal.loop-i-preserved
loop-i-preserved c =
    let e : c.loop-j.j ≡ c.args.n = omega (arith, c.loop-j-test.false, c.loop-i-test.true) in
    c.loop-j.invariant ∙ ap (rows_and c.args.n c.loop-i.i) e ∙ rows_end _ _

pub returns : goal.returns
returns c =
    let e : c.loop-i.i ≡ c.args.n = omega (arith, c.loop-i-test.false) in
    c.loop-i.invariant ∙ ap (rows_to c.args.n) e ∙ rows_all c.args.n
