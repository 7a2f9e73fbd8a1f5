-- The takes from the list of all pairs close the grid.
use mathlib.Core.Path.{sym, ap, ◌∙◌}
use Rattle.theory.specs.Quick.{run}
use Rattle.theory.specs.Tried.{tried_by}
use Rattle.theory.proofs.StartLaws.{pairs-all}
use Rattle.quick.proofs.PairLaws.{closes_by_takes}
use Rattle.quick.proofs.close_all.Goals as goal

pub takes-requires : goal.takes-requires
takes-requires c = (c.requires.2, rw c.all_waiting.ensures (pairs-all _ c.requires.2.fine.few))

pub returns-clause-closed : goal.returns-clause-closed
returns-clause-closed c = ap tried_by (c.takes.ensures.end ∙ ap (run _ _ _ _ _) c.all_waiting.ensures) ∙ sym (closes_by_takes _ _ c.requires.2 c.requires.1)
