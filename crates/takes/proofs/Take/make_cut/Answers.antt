-- Each answer is one case of the cut.
use mathlib.Core.Path.{sym, ap₂, ◌∙◌}
use Rattle.theory.specs.Quick.{going}
use Rattle.theory.proofs.CutsLaws.{cut_skip_i, cut_skip_j}
use Rattle.theory.proofs.LineLaws.{pair_ok, pairs-joins}
use Rattle.takes.proofs.StepsLaws.{cut-events, made_dead, made_written}
use Rattle.takes.proofs.Take.make_cut.Goals as goal
use Rattle.takes.proofs.Take.make_cut.Goals.{then-k-self-via-then-k-self, then-k-self-via-else-k-self+then-k-self-2}

pub returns-then-k-self-clause-step : goal.returns-then-k-self-clause-step
returns-then-k-self-clause-step c =
    elim c.then-k-self.branch [
      | then-k-self-via-then-k-self w ↦ sym (cut_skip_i _ _ _ _ _ _ _ w.if-k-self.true)
      | then-k-self-via-else-k-self+then-k-self-2 w ↦ sym (cut_skip_j _ _ _ _ _ _ _ w.if-k-self.false w.if-k-self-2.true)
    ]

pub returns-then-cut-eq0-clause-step : goal.returns-then-cut-eq0-clause-step
returns-then-cut-eq0-clause-step c = sym (made_dead _ _ _ _ c.if-k-self.false c.if-k-self-2.false _ _ _ c.requires.4 c.if-cut-eq0.true)

pub returns-clause-step : goal.returns-clause-step
returns-clause-step c =
    ap₂ going c.write_cut.ensures.cells c.write_cut.ensures.joined
    ∙ rw (c.from_of.ensures, c.to_of.ensures) (sym (made_written _ _ _ _ c.if-k-self.false c.if-k-self-2.false _ _ _ c.requires.4 c.if-cut-eq0.false))

pub returns-clause-pairs : goal.returns-clause-pairs
returns-clause-pairs c =
    let e = cut-events _ _ _ _ c.if-k-self.false c.if-k-self-2.false c.requires.0.from c.requires.0.to c.requires.1 in
    rw (c.write_cut.ensures.joined, c.from_of.ensures, c.to_of.ensures) (pairs-joins _ _ _ (pair_ok _ _ _ c.requires.2.few e.0 e.1 e.2) c.requires.3)
