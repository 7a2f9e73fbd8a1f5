-- A refusal comes first; an accepted grid is swept.
use Rattle.std.proofs.lemmas.Result.{err_from_is_err_and}
use Rattle.grid.proofs.AcceptedLaws.{accepted-grid}
use Rattle.refusal.proofs.ResultLaws.{none_refused}
use Rattle.plain.proofs.PlainRight.{refuses, closes}
use Rattle.plain.proofs.plain_close.Goals as goal

pub sweep_accepted-requires : goal.sweep_accepted-requires
sweep_accepted-requires c = accepted-grid _ _ (none_refused _ _ c.judge.ensures c.in_ok-judge.was)

pub returns : goal.returns
returns c =
    let z = none_refused _ _ c.judge.ensures c.in_ok-judge.was in
    closes _ _ (accepted-grid _ _ z) _ z c.sweep_accepted.auto.g _ c.sweep_accepted.ensures

pub returns-in_err-judge : goal.returns-in_err-judge
returns-in_err-judge c =
    let p = err_from_is_err_and c.from_residual.result c.from_residual.ensures.1 in
    rw (p.1, p.2) (refuses _ _ _ c.in_err-judge.ensures)
