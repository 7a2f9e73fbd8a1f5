-- The calculus of the thirteen relations, the same for all events.
use Rattle.std.specs.Int.Bits.{bit_and}
use Rattle.relation.specs.Composition.{converse, compose}
use Rattle.theory.specs.Calculus.{Calculus}

abbrev pub allen : Calculus
allen = record { meet = bit_and; conv = converse; comp = λ i k j. compose; eq = 4096; top = λ i j. 8191 }
