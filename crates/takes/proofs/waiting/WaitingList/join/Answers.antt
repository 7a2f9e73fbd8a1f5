-- The mark says whether the pair waits, so it joins exactly where it does not.
use mathlib.Core.Path.{sym, ap, ◌∙◌}
use borrow.Author.Rules.{rules}
use Rattle.theory.specs.Line.{joins}
use Rattle.takes.proofs.WaitingLaws.{joins-none, joined, join-waiting}
use Rattle.takes.proofs.waiting.WaitingList.join.Goals as goal

pub returns-then-self-p : goal.returns-then-self-p
returns-then-self-p c =
    sym c.self.view_is ∙ sym (joins-none _ _ _ _ (search rules) (search rules) c.self.invariant _ c.requires c.if-self-p.true) ∙ ap (joins c.args.p) c.self.view_is

pub invariant_of-self : goal.invariant_of-self
invariant_of-self c = join-waiting _ _ _ _ (search rules) (search rules) c.self.invariant _ c.requires c.if-self-p.false

pub returns : goal.returns
returns c = joined _ _ _ _ (search rules) (search rules) c.self.invariant _ c.requires c.if-self-p.false ∙ ap (joins c.args.p) c.self.view_is
