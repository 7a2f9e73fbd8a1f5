-- Each sweep cuts, and a sweep that changes something leaves fewer relations, so the sweeps end.
use mathlib.Core.Path.{refl, sym, ◌∙◌}
use mathlib.Core.Logic.{inr}
use Rattle.theory.specs.Sweeps.{none}
use Rattle.std.proofs.lemmas.Result.{err_from_is_err_and}
use Rattle.theory.proofs.AllenLaws.{lawful}
use Rattle.theory.proofs.GivenLaws.{fair}
use Rattle.theory.proofs.PlainLaws.{cuts_fair, dead_then, cuts_trans}
use Rattle.plain.proofs.sweep_to_rest.Goals as goal

pub loop-changed-init : goal.loop-changed-init
loop-changed-init c = (refl, none)

pub sweep_all-requires : goal.sweep_all-requires
sweep_all-requires c = cuts_fair _ lawful _ _ (fair _ _ c.requires (sym c.some_empty.ensures ∙ c.if-some_empty.false)) c.loop-changed.invariant.1

pub returns-in_err-changed : goal.returns-in_err-changed
returns-in_err-changed c =
    let p = err_from_is_err_and c.from_residual.result c.from_residual.ensures.1 in
    rw p.1 (inr (dead_then _ _ _ _ c.loop-changed.invariant.1 c.in_err-changed.ensures))

pub loop-changed-preserved : goal.loop-changed-preserved
loop-changed-preserved c = (c.sweep_all.auto.g ∙ c.loop-changed.invariant.0, cuts_trans _ _ _ _ c.loop-changed.invariant.1 c.in_ok-changed.ensures.cuts)
