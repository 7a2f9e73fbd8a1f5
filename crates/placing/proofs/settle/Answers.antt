-- The room is written only after the two tests.
use mathlib.Core.Path.{sym, ◌∙◌}
use Rattle.placing.proofs.StepLaws.{late_unsettled, missed_unsettled, copied_settled}
use native.Mathlib.Omega.{arith}
use Rattle.placing.proofs.settle.Goals as goal
use Rattle.placing.proofs.settle.Goals.{then-some_late-via-then-some_late, then-some_late-via-else-some_late+then-some_missed}

pub returns-then-some_late : goal.returns-then-some_late
returns-then-some_late c = elim c.then-some_late.branch [ then-some_late-via-then-some_late w ↦ late_unsettled _ _ _ c.number_ends-numbers.ensures _ (sym c.some_late.ensures ∙ w.if-some_late.true) | then-some_late-via-else-some_late+then-some_missed w ↦ missed_unsettled _ _ _ c.number_ends-numbers.ensures _ (sym c.some_late.ensures ∙ w.if-some_late.false) (sym w.some_missed.ensures ∙ w.if-some_missed.true) ]

pub returns : goal.returns
returns c = copied_settled _ _ _ c.number_ends-numbers.ensures _ _ (omega arith) (sym c.some_late.ensures ∙ c.if-some_late.false) (sym c.some_missed.ensures ∙ c.if-some_missed.false) c.copy_from_slice.ensures.after
