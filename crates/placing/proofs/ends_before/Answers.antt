-- So many of the ends passed so far are before end p.
use mathlib.Core.Path.{◌≡◌, sym, ap, ◌∙◌}
use Prim.Native.Nat.{ℕ, ◌*◌}
use Rattle.placing.specs.Settling.{end_before, count, ends_before}
use Rattle.placing.proofs.CountLaws.{count_none, count-step}
use borrow.Author.Rules.{rules}
use native.Mathlib.Omega.{arith}
use Rattle.placing.proofs.ends_before.Goals as goal
use Rattle.placing.proofs.ends_before.Goals.{else-is_before, then-is_before}

pub loop-q-init : goal.loop-q-init
loop-q-init c = (search rules, sym (count_none (λ z. end_before c.args.grid.n c.args.grid.cells.now z c.args.p)))

pub loop-q-preserved : goal.loop-q-preserved
loop-q-preserved c = elim c.if-is_before.branch [ then-is_before w ↦ (omega arith, count-step (λ z. end_before c.args.grid.n c.args.grid.cells.now z c.args.p) c.loop-q.q c.loop-q.found _ _ _ c.loop-q.invariant.1 c.is_before.ensures w.if-is_before.true w.found-is) | else-is_before w ↦ (omega arith, count-step (λ z. end_before c.args.grid.n c.args.grid.cells.now z c.args.p) c.loop-q.q c.loop-q.found _ _ _ c.loop-q.invariant.1 c.is_before.ensures w.if-is_before.false (omega arith)) ]

pub returns : goal.returns
unfolding ends_before
returns c =
    let e : c.loop-q.q ≡ 2 * c.args.grid.n = omega arith in
    c.loop-q.invariant.1 ∙ ap (λ (k : ℕ). count k (λ z. end_before c.args.grid.n c.args.grid.cells.now z c.args.p)) e
