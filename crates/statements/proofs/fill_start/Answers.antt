-- After the filling each cell has any, and each step of the loop puts eq into one more of the diagonal.
use mathlib.Core.Path.{◌≡◌}
use borrow.Author.Rules.{rules}
use native.Mathlib.Omega.{arith}
use Rattle.grid.specs.Cells.{put}
use Rattle.statements.proofs.GridLaws.{filled_none, filled-more, filled_all}
use Rattle.statements.proofs.fill_start.Goals as goal

pub loop-i-init : goal.loop-i-init
loop-i-init c = filled_none c.args.n c.fill.new.self _ (search rules)

pub loop-i-preserved : goal.loop-i-preserved
unfolding put
loop-i-preserved c = filled-more _ _ _ c.loop-i.invariant (omega (arith, c.loop-i-test.true))

pub returns : goal.returns
returns c = let e : c.loop-i.i ≡ c.args.n = omega (arith, c.loop-i-test.false, c.loop-i.auto) in filled_all _ _ (rw e at c.loop-i.invariant)
