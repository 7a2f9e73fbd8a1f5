use Rattle.plain.specs.Routes.{StillUntil}
use Rattle.plain.proofs.next_route.Given as goal

abbrev pub invariant-loop-a : goal.invariant-loop-a
invariant-loop-a l = StillUntil l.n l.m l.b l.g l.k l.a
