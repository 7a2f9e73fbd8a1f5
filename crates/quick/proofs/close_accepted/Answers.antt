-- Each end of the run is shown by its answer and its cells.
use mathlib.Core.Path.{refl, sym, ap, ◌∙◌}
use Prim.Native.Nat.{ℕ}
use lib.ListN.{replicate}
use Rattle.theory.proofs.GivenLaws.{fair}
use Rattle.theory.proofs.StartLaws.{pairs-all}
use Rattle.quick.proofs.RuleLaws.{rule_empty}
use Rattle.quick.proofs.ShowLaws.{rule_ran, shows_contradiction, shows_ended}
use Rattle.quick.proofs.close_accepted.Goals as goal

pub returns-then-some_empty : goal.returns-then-some_empty
returns-then-some_empty c =
    shows_contradiction _ _ _ _ _ (rule_empty _ _ _ (sym c.some_empty.ensures ∙ c.if-some_empty.true)) refl
    (c.clear.ensures ∙ ap (λ (k : ℕ). replicate k 0) c.requires.long)

pub takes-end-requires : goal.takes-end-requires
takes-end-requires c = (fair _ _ c.requires (sym c.some_empty.ensures ∙ c.if-some_empty.false), rw c.all_waiting.ensures (pairs-all _ c.requires.few))

pub returns-in-Contradiction : goal.returns-in-Contradiction
returns-in-Contradiction c =
    shows_contradiction _ _ _ _ _
    (rule_ran _ _ _ _ c.some_empty.ensures c.if-some_empty.false _ c.all_waiting.ensures _ _ _ c.takes-end.ensures.end c.in-Contradiction.is)
    c.in-Contradiction.is
    (c.clear-in-Contradiction.ensures ∙ ap (λ (k : ℕ). replicate k 0) (c.takes-end.auto.g ∙ c.requires.long))

pub returns-in_default : goal.returns-in_default
returns-in_default c = shows_ended _ _ _ _ (rule_ran _ _ _ _ c.some_empty.ensures c.if-some_empty.false _ c.all_waiting.ensures _ _ _ c.takes-end.ensures.end refl) c.in_default.not-Contradiction
