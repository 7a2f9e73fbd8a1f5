use lib.ListN.{take}
use Rattle.report.specs.Steps.{Adds}
use Rattle.report.proofs.page.Page.bytes.Given as goal

abbrev pub invariant-loop-b : goal.invariant-loop-b
invariant-loop-b l = Adds l.fn.self l.self (take l.b-index l.text)
