-- The first place of the ring holds a pair that waits once.
use mathlib.Core.Path.{sym, ◌∙◌}
use borrow.Author.Rules.{rules}
use Rattle.takes.proofs.WaitingLaws.{leaves, empty_queue}
use Rattle.takes.proofs.waiting.WaitingList.leave.Goals as goal

pub returns-then-len-eq0 : goal.returns-then-len-eq0
returns-then-len-eq0 c = let e = sym c.self.view_is ∙ empty_queue _ _ _ c.if-len-eq0.true in (e, e)

pub bounds-self-inside-p : goal.bounds-self-inside-p
bounds-self-inside-p c = (leaves _ _ _ _ (search rules) (search rules) c.self.invariant c.if-len-eq0.false).small

pub invariant_of-self : goal.invariant_of-self
invariant_of-self c = (leaves _ _ _ _ (search rules) (search rules) c.self.invariant c.if-len-eq0.false).waiting

pub returns : goal.returns
returns c = sym c.self.view_is ∙ (leaves _ _ _ _ (search rules) (search rules) c.self.invariant c.if-len-eq0.false).was
