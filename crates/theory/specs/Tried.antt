-- What the end of a run of takes leaves, where the run can't pause. Inner functions cite this; the public statements do not.
use Rattle.std.specs.Prelude.{ℕ}
use Rattle.theory.specs.Quick as quick
use Rattle.theory.specs.Search.{Tried, emptied, closed}

-- so many takes always suffice
abbrev pub enough : ℕ
enough = 6448

abbrev pub tried_by : quick.Ended → Tried
tried_by (quick.contradiction t) = emptied
tried_by (quick.closed t g) = closed g
tried_by (quick.paused t g) = emptied
