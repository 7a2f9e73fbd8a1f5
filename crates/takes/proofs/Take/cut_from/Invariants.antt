use Prim.Native.Nat.{◌*◌}
use Rattle.takes.specs.Steps.{Passes}
use Rattle.takes.proofs.Take.cut_from.Given as goal

abbrev pub invariant-loop-k : goal.invariant-loop-k
invariant-loop-k l = Passes l.n l.self.i l.self.j l.g (l.from * 2) (l.k * 2)
