-- A refusal comes first; an accepted grid is searched.
use Rattle.refusal.proofs.ResultLaws.{none_refused}
use Rattle.search.proofs.FindLaws.{taken}
use Rattle.search.proofs.find_placing.Goals as goal

pub search_accepted-requires : goal.search_accepted-requires
search_accepted-requires c = let w = taken _ _ _ (none_refused _ _ c.judge.ensures c.in_ok-judge.was) in (w.grid, w.room)
