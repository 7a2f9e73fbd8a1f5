-- The calls that are still to come, after those that were made, are all the calls.
use Rattle.std.proofs.Common.{◌-◌}
use Rattle.cases.specs.Answering.{most_cases, Answered}
use Rattle.cases.proofs.answer_all.Given as goal

abbrev pub invariant-loop : goal.invariant-loop
invariant-loop g l = record {
  callable : goal.F-IsAlwaysCallable g l.answered;
  calls : (reader : _) (writer : _) (end : _) → Answered g.F.FnMut reader writer (most_cases - l.counter) l.answered l.reader l.writer end
      → Answered g.F.FnMut reader writer most_cases l.fn.answered l.fn.reader l.fn.writer end;
}
