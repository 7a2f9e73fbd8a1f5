-- Rules 2 and 7: what the two functions on sets hand back.
use Rattle.std.specs.Prelude.{cond, ◌&&◌, ℕ, ltb}
use Rattle.refusal.specs.Answered.{Answered, unless_due}
use Rattle.relation.specs.Composition.{converse, compose}

-- a set is one of the numbers 0 to 8191
abbrev pub how_many_sets : ℕ
how_many_sets = 8192

-- refusal 3 is given exactly where a set handed in is above 8191
abbrev pub converse_said : ℕ → Answered ℕ
converse_said a = unless_due (cond (ltb a how_many_sets) 0 3) (converse a)

abbrev pub compose_said : ℕ → ℕ → Answered ℕ
compose_said a b = unless_due (cond (ltb a how_many_sets && ltb b how_many_sets) 0 3) (compose a b)
