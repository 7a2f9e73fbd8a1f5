-- The cuts left, from the grid and list as they are, come to the whole take.
use mathlib.Core.Path.{refl, sym, ap, ◌∙◌}
use Rattle.std.specs.Prelude.{is_err}
use Rattle.std.proofs.lemmas.Result.{err_from_is_err_and}
use borrow.Author.Rules.{rules}
use native.Mathlib.Omega.{arith}
use Rattle.theory.specs.Allen.{allen}
use Rattle.theory.proofs.AllenLaws.{lawful}
use Rattle.theory.proofs.FairLaws.{fair_good}
use Rattle.theory.proofs.CutsLaws.{cuts-all, cuts-none, cuts-dead, cuts-going, keeps-at}
use Rattle.takes.proofs.StepsLaws.{is-dead, is-going}
use Rattle.takes.proofs.take_cuts.Goals as goal

pub loop-found-init : goal.loop-found-init
loop-found-init c = (
  omega arith,
  search rules,
  c.requires.4,
  cuts-all _ _ _ _ _ _,
  fair_good _ lawful _ _ c.requires.3,
  record {
    from = c.requires.0;
    to = c.requires.1;
    apart = c.requires.2;
    there = c.of.ensures ∙ c.get.ensures;
    back = c.of-2.ensures ∙ c.get-2.ensures;
  },
)

pub returns-in_err-make_cut-clause-step : goal.returns-in_err-make_cut-clause-step
returns-in_err-make_cut-clause-step c =
    let p = err_from_is_err_and c.from_residual.result c.from_residual.ensures.1 in
    rw p.1 (sym (cuts-dead _ _ _ _ _ _ _ c.in-Some.ensures.before (is-dead _ _ _ _ c.make_cut.ensures.step (ap is_err c.in_err-make_cut.was)))
    ∙ sym (c.in-Some.ensures.passes.same _) ∙ c.loop-found.invariant.3)

pub loop-found-preserved : goal.loop-found-preserved
loop-found-preserved c =
    let h = c.in-Some.ensures.before in
    let went = is-going _ _ _ _ c.make_cut.ensures.step (ap is_err c.in_ok-make_cut.was) in
    let K = keeps-at allen lawful _ _ _ c.requires.0 c.requires.1 c.requires.2 _ _ c.loop-found.invariant.4 _ h _ _ _ went in (
      omega (arith, h),
      search rules,
      c.make_cut.ensures.pairs,
      sym (cuts-going _ _ _ _ _ _ _ h _ _ went) ∙ sym (c.in-Some.ensures.passes.same _) ∙ c.loop-found.invariant.3,
      K.good,
      record {
        from = c.requires.0;
        to = c.requires.1;
        apart = c.requires.2;
        there = c.loop-found.invariant.5.there ∙ sym K.pair;
        back = c.loop-found.invariant.5.back ∙ sym K.mirror;
      },
    )

pub returns-clause-step : goal.returns-clause-step
returns-clause-step c = sym (c.in_default.ensures.same _ ∙ cuts-none _ _ _ _ _ _ _ refl) ∙ c.loop-found.invariant.3
