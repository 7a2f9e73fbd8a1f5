-- The events gone to so far, and then one more.
use mathlib.Core.Path.{refl, ◌∙◌}
use Rattle.std.proofs.lemmas.Result.{err_from_is_err_and}
use Rattle.theory.proofs.AllenLaws.{lawful}
use Rattle.theory.proofs.PlainLaws.{cuts_fair, dead_then}
use Rattle.plain.proofs.RouteLaws.{nothing, all-next}
use native.Mathlib.Omega.{arith}
use Rattle.plain.proofs.sweep_all.Goals as goal

pub loop-b-init : goal.loop-b-init
loop-b-init c = (refl, nothing _ _ _ c.requires (λ x y z u. absurd (omega (arith, u.1))))

pub sweep_to-requires : goal.sweep_to-requires
sweep_to-requires c = (c.loop-b-test.true, cuts_fair _ lawful _ _ c.requires c.loop-b.invariant.1.cuts)

pub returns-in_err-changed : goal.returns-in_err-changed
returns-in_err-changed c =
    let p = err_from_is_err_and c.from_residual.result c.from_residual.ensures.1 in
    rw p.1 (dead_then _ _ _ _ c.loop-b.invariant.1.cuts c.in_err-changed.ensures)

pub loop-b-preserved : goal.loop-b-preserved
loop-b-preserved c = (c.sweep_to.auto.g ∙ c.loop-b.invariant.0, all-next _ _ _ _ _ _ c.requires _ c.loop-b.invariant.1 c.in_ok-changed.ensures)
