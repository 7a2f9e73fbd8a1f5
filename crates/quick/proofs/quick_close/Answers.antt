-- A refusal comes first; an accepted grid is closed by the rule.
use mathlib.Core.Path.{sym}
use Rattle.std.proofs.lemmas.Result.{err_from_is_err_and}
use Rattle.grid.proofs.AcceptedLaws.{accepted-grid}
use Rattle.quick.proofs.ShowLaws.{refuses, closes}
use Rattle.quick.proofs.quick_close.Goals as goal

pub close_accepted-requires : goal.close_accepted-requires
close_accepted-requires c = accepted-grid _ _ (sym c.in_ok-judge.ensures)

pub returns : goal.returns
returns c = closes _ _ _ _ _ (sym c.in_ok-judge.ensures) (accepted-grid _ _ (sym c.in_ok-judge.ensures)) c.close_accepted.ensures

pub returns-in_err-judge : goal.returns-in_err-judge
returns-in_err-judge c =
    let p = err_from_is_err_and c.from_residual.result c.from_residual.ensures.1 in
    rw (p.1, p.2) (refuses _ _ _ _ c.in_err-judge.ensures)
