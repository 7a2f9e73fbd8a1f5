-- What `any` finds is what some number below n passes.
use mathlib.Core.Path.{refl, ◌∙◌}
use native.Mathlib.Omega.{arith}
use borrow.Author.Rules.{rules}
use Rattle.std.proofs.lemmas.Iterator.{YieldsList-from_range}
use Rattle.std.proofs.lemmas.Iterator.Search.{any_from_yields_List}
use Rattle.relation.proofs.AnyLaws.{any_below}
use Rattle.grid.specs.Accepted.{not_eq}
use Rattle.grid.proofs.Grid.some_not_eq.Goals as goal

pub returns : goal.returns
returns c =
    any_from_yields_List (not_eq c.args.self.n c.args.self.cells.now) _ _ c.any.result c.any.ensures.ran
    (YieldsList-from_range 0 c.args.self.n c.args.self.n refl (omega arith)) (λ x b q call. search rules)
    ∙ any_below c.args.self.n (not_eq c.args.self.n c.args.self.cells.now)
