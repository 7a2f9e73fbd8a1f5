-- The takes left, from the grid and list as they are, come to the whole run.
use mathlib.Core.Path.{◌≡◌, ap, sym, ◌∙◌}
use mathlib.Core.Bool.{false}
use mathlib.Core.List.{◌∷◌}
use Prim.Native.Nat.{◌+◌, ◌≤◌, ◌<◌}
use borrow.Author.Rules.{rules}
use native.Mathlib.Omega.{arith}
use Rattle.std.specs.Prelude.{is_err}
use Rattle.theory.specs.Line.{IsPair, Pairs}
use Rattle.theory.proofs.LineLaws.{occurs-cons-same}
use Rattle.theory.proofs.SettledLaws.{pairs-rest}
use Rattle.theory.proofs.StepLaws.{rest, rest_all, rest-closed, rest-dead, rest-going}
use Rattle.takes.proofs.StepsLaws.{is-dead, is-going, going-has, stopped}
use Rattle.takes.proofs.takes.Goals as goal

pub loop-p-init : goal.loop-p-init
loop-p-init c = (omega arith, search rules, c.requires.1, rest_all _ _ _ _ _, c.requires.0)

pub returns-then-t-limit-clause-end : goal.returns-then-t-limit-clause-end
returns-then-t-limit-clause-end c = sym (stopped _ _ _ _ _ _ _ c.in-Some.ensures c.if-t-limit.true) ∙ c.loop-p.invariant.3

pub take_pair-requires : goal.take_pair-requires
take_pair-requires c =
    let waited : Pairs c.args.n (c.in-Some.p ∷ c.leave.new.self) = rw (← c.in-Some.ensures) c.loop-p.invariant.2 in
    let pair : IsPair c.args.n c.in-Some.p = waited c.in-Some.p (omega (arith, occurs-cons-same c.in-Some.p c.leave.new.self)) in
    (omega (arith, pair), omega (arith, pair), omega (arith, pair), c.loop-p.invariant.4, pairs-rest _ _ _ waited)

pub returns-then-is_err-clause-end : goal.returns-then-is_err-clause-end
returns-then-is_err-clause-end c =
    let below : c.loop-p.t < c.args.limit = omega (arith, c.loop-p.invariant.0, c.if-t-limit.false) in
    sym (rest-dead _ _ _ _ _ _ _ below (is-dead _ _ _ _ c.take_pair.ensures.step (sym c.is_err.ensures.value ∙ c.if-is_err.true)))
    ∙ sym (ap (rest _ _ _ _ _) c.in-Some.ensures) ∙ c.loop-p.invariant.3

pub loop-p-preserved : goal.loop-p-preserved
loop-p-preserved c =
    let more : c.loop-p.t + 1 ≤ c.args.limit = omega (arith, c.loop-p.invariant.0, c.if-t-limit.false) in
    let went : is_err c.take_pair.result ≡ false = sym c.is_err.ensures.value ∙ c.if-is_err.false in (
      more,
      search rules,
      c.take_pair.ensures.pairs,
      sym (rest-going _ _ _ _ _ _ _ (omega (arith, more)) _ _ (is-going _ _ _ _ c.take_pair.ensures.step went)) ∙ sym (ap (rest _ _ _ _ _) c.in-Some.ensures) ∙ c.loop-p.invariant.3,
      going-has _ _ c.take_pair.ensures.fair went,
    )

pub returns-clause-end : goal.returns-clause-end
returns-clause-end c = sym (ap (rest _ _ _ _ _) c.in_default.ensures.0 ∙ rest-closed _ _ _ _ _) ∙ c.loop-p.invariant.3
