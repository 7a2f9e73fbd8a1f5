-- The events gone over so far, and then one more.
use mathlib.Core.Path.{refl, ◌∙◌}
use Rattle.std.proofs.lemmas.Result.{err_from_is_err_and}
use Rattle.theory.proofs.AllenLaws.{lawful}
use Rattle.theory.proofs.PlainLaws.{cuts_fair, dead_then}
use Rattle.plain.proofs.RouteLaws.{nothing, event_next}
use native.Mathlib.Omega.{arith}
use Rattle.plain.proofs.sweep_to.Goals as goal

pub loop-m-init : goal.loop-m-init
loop-m-init c = (refl, nothing _ _ _ c.requires.1 (λ x y z u. absurd (omega (arith, u.1))))

pub sweep_over-requires : goal.sweep_over-requires
sweep_over-requires c = (c.loop-m-test.true, c.requires.0, cuts_fair _ lawful _ _ c.requires.1 c.loop-m.invariant.1.cuts)

pub returns-in_err-changed : goal.returns-in_err-changed
returns-in_err-changed c =
    let p = err_from_is_err_and c.from_residual.result c.from_residual.ensures.1 in
    rw p.1 (dead_then _ _ _ _ c.loop-m.invariant.1.cuts c.in_err-changed.ensures)

pub loop-m-preserved : goal.loop-m-preserved
loop-m-preserved c = (c.sweep_over.auto.g ∙ c.loop-m.invariant.0, event_next _ _ _ _ _ _ c.requires.1 _ _ c.loop-m.invariant.1 c.in_ok-changed.ensures)
