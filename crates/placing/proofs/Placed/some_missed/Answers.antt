-- What `any` finds is what some row has.
use mathlib.Core.Path.{refl, ◌∙◌}
use native.Mathlib.Omega.{arith}
use borrow.Author.Rules.{rules}
use Rattle.std.proofs.lemmas.Iterator.{YieldsList-from_range}
use Rattle.std.proofs.lemmas.Iterator.Search.{any_from_yields_List}
use Rattle.relation.proofs.AnyLaws.{any_below}
use Rattle.placing.specs.Placing.{at}
use Rattle.placing.specs.Settling.{row_missed}
use Rattle.placing.proofs.Placed.some_missed.Goals as goal

pub returns : goal.returns
returns c =
    any_from_yields_List (row_missed c.args.self.grid.n c.args.self.grid.cells.now (at c.args.self.numbers.now)) _ _ c.any.result c.any.ensures.ran
    (YieldsList-from_range 0 c.args.self.grid.n c.args.self.grid.n refl (omega arith)) (λ x b q call. search rules)
    ∙ any_below c.args.self.grid.n (row_missed c.args.self.grid.n c.args.self.grid.cells.now (at c.args.self.numbers.now))
