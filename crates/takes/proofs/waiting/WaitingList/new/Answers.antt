-- No mark is set, and the list is empty.
use borrow.Author.Rules.{rules}
use native.Mathlib.Omega.{arith}
use Rattle.takes.proofs.WaitingLaws.{empty_waiting, empty_queue}
use Rattle.takes.proofs.waiting.WaitingList.new.Goals as goal

pub invariant_of-result : goal.invariant_of-result
invariant_of-result c = empty_waiting _ 0 (omega arith)

pub returns : goal.returns
returns c = empty_queue _ _ _ (search rules)
