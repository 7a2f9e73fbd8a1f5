-- What `any` finds is what some number above i passes.
use mathlib.Core.Path.{refl, ◌∙◌}
use Prim.Native.Nat.{◌+◌, ◌-◌}
use borrow.Author.Rules.{rules}
use Rattle.std.proofs.lemmas.Iterator.{YieldsList-from_range}
use Rattle.std.proofs.lemmas.Iterator.Search.{any_from_yields_List}
use Rattle.relation.proofs.AnyLaws.{any_above}
use Rattle.grid.specs.Accepted.{unlike}
use Rattle.grid.proofs.Grid.row_unlike.Goals as goal

pub returns : goal.returns
returns c =
    any_from_yields_List (unlike c.args.self.n c.args.self.cells.now c.args.i) _ _ c.any.result c.any.ensures.ran
    (YieldsList-from_range (c.args.i + 1) c.args.self.n (c.args.self.n - (c.args.i + 1)) refl refl) (λ x b q call. search rules)
    ∙ any_above c.args.self.n c.args.i (unlike c.args.self.n c.args.self.cells.now c.args.i) c.requires
