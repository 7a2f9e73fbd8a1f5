-- The routes so far, those passed over, and then one that cuts. Where nothing is said of m to b, each is passed over.
use mathlib.Core.Path.{sym, ◌∙◌}
use Rattle.theory.proofs.AllenLaws.{past_second}
use Rattle.plain.proofs.RouteLaws.{nothing}
use native.Mathlib.Omega.{arith}
use Rattle.plain.proofs.sweep_over.Goals as goal

pub returns-then-m-b : goal.returns-then-m-b
returns-then-m-b c = nothing _ _ _ c.requires.2 (λ x y z u. absurd (u.3.bc (u.2 ∙ sym (u.1 ∙ c.if-m-b.true))))

pub returns-then-half-eq-ALL : goal.returns-then-half-eq-ALL
returns-then-half-eq-ALL c =
    nothing _ _ _ c.requires.2
    (λ x y z u. past_second _ _ c.requires.2 x y z u.3.ha u.3.hc u.3.hb (rw (u.1, u.2) (sym c.get-half.ensures ∙ c.if-half-eq-ALL.true)))

pub returns-in-None : goal.returns-in-None
returns-in-None c =
    nothing _ _ _ c.requires.2 (λ x y z u. rw (u.1, u.2) (c.in-None.ensures.each x (omega arith) u.0))
