-- Each number so far is how many different counts are below that of its end.
use mathlib.Core.Path.{ap, ◌∙◌}
use Prim.Native.Nat.{◌<◌}
use lib.ListN.{length, length-set}
use lib.IntN.{pos}
use mir.Syntax.{w32}
use mir.Facts.{to_z_pos}
use Rattle.placing.specs.Settling.{gapless_end}
use Rattle.placing.proofs.StepLaws.{looked_up}
use Rattle.placing.proofs.EntryLaws.{holds_more}
use native.Mathlib.Omega.{arith}
use Rattle.placing.proofs.number_ends.Goals as goal

pub offset_bounds-belows-counts : goal.offset_bounds-belows-counts
offset_bounds-belows-counts c =
    let w = looked_up c.args.grid.n c.args.grid.cells.now _ _ c.args.grid.few (omega arith) c.count_ends-counts.ensures c.values_below-belows.ensures c.loop-p.p c.loop-p-test.true in
    omega (arith, w.count_le)

pub bounds-belows-counts : goal.bounds-belows-counts
bounds-belows-counts c =
    let w = looked_up c.args.grid.n c.args.grid.cells.now _ _ c.args.grid.few (omega arith) c.count_ends-counts.ensures c.values_below-belows.ensures c.loop-p.p c.loop-p-test.true in
    omega (arith, w.count_le)

pub overflow_cast-numbers : goal.overflow_cast-numbers
overflow_cast-numbers c =
    let w = looked_up c.args.grid.n c.args.grid.cells.now _ _ c.args.grid.few (omega arith) c.count_ends-counts.ensures c.values_below-belows.ensures c.loop-p.p c.loop-p-test.true in
    record { sfits = omega (arith, w.number_le) }

pub loop-p-preserved : goal.loop-p-preserved
loop-p-preserved c =
    let w = looked_up c.args.grid.n c.args.grid.cells.now _ _ c.args.grid.few (omega arith) c.count_ends-counts.ensures c.values_below-belows.ensures c.loop-p.p c.loop-p-test.true in
    let at : c.loop-p.p < length c.loop-p.numbers = omega arith in (
      simp length-set c.loop-p.invariant.0,
      holds_more (gapless_end c.args.grid.n c.args.grid.cells.now) c.loop-p.numbers c.loop-p.p _ at c.loop-p.invariant.1 (to_z_pos w32 (omega (arith, w.number_le)) ∙ ap pos w.is),
    )
