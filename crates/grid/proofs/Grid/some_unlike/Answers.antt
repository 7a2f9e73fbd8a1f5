-- What `any` finds is what some row above the diagonal has, and that is enough.
use mathlib.Core.Path.{refl, ◌∙◌}
use native.Mathlib.Omega.{arith}
use borrow.Author.Rules.{rules}
use Rattle.std.proofs.lemmas.Iterator.{YieldsList-from_range}
use Rattle.std.proofs.lemmas.Iterator.Search.{any_from_yields_List}
use Rattle.relation.proofs.AnyLaws.{any_below}
use Rattle.grid.specs.Steps.{above_unlike}
use Rattle.grid.proofs.UnlikeLaws.{above_enough}
use Rattle.grid.proofs.Grid.some_unlike.Goals as goal

pub returns : goal.returns
returns c =
    any_from_yields_List (above_unlike c.args.self.n c.args.self.cells.now) _ _ c.any.result c.any.ensures.ran
    (YieldsList-from_range 0 c.args.self.n c.args.self.n refl (omega arith)) (λ x b q call. search rules)
    ∙ any_below c.args.self.n (above_unlike c.args.self.n c.args.self.cells.now)
    ∙ above_enough c.args.self.n c.args.self.cells.now c.args.self.fits c.requires.0 c.requires.1
