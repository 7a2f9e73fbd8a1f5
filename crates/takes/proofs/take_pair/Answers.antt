-- Where nothing is said of the pair, there is nothing to do.
use mathlib.Core.Path.{sym, ◌∙◌}
use Rattle.takes.proofs.StepsLaws.{all_quiet}
use Rattle.takes.proofs.take_pair.Goals as goal

pub returns-then-get-eq-ALL-clause-step : goal.returns-then-get-eq-ALL-clause-step
returns-then-get-eq-ALL-clause-step c = sym (all_quiet _ _ _ _ c.requires.3 c.requires.0 c.requires.1 (sym c.get.ensures ∙ c.if-get-eq-ALL.true) _)
