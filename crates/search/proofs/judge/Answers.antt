-- The cells are looked at only where the lengths are right.
use mathlib.Core.Path.{sym, ◌∙◌}
use Rattle.refusal.proofs.AnsweredLaws.{first_next}
use Rattle.refusal.proofs.ResultLaws.{none_refused}
use Rattle.search.specs.Answers.{search_refusal}
use borrow.Author.Rules.{rules}
use Rattle.search.proofs.judge.Goals as goal

pub returns-in_err-sized : goal.returns-in_err-sized
unfolding search_refusal
returns-in_err-sized c = search rules

pub returns : goal.returns
unfolding search_refusal
returns c =
    rw (c.in_ok-sized.ensures.same.0, c.in_ok-sized.ensures.same.1) at c.judge_cells.ensures
    ∙ sym (first_next _ _ (none_refused _ _ c.sized.ensures.refusal c.in_ok-sized.was))
