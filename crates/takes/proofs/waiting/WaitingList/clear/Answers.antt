-- No mark is set, and the list is empty.
use borrow.Author.Rules.{rules}
use Rattle.takes.proofs.WaitingLaws.{empty_waiting, empty_queue}
use Rattle.takes.proofs.waiting.WaitingList.clear.Goals as goal

pub invariant_of-self : goal.invariant_of-self
invariant_of-self c = empty_waiting _ _ c.self.invariant.end-small

pub returns : goal.returns
returns c = empty_queue _ _ _ (search rules)
