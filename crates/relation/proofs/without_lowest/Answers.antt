-- The law of the cut, at sixteen digits.
use Rattle.relation.proofs.LowestLaws.{cut_lowest}
use native.Mathlib.Omega.{arith}
use Rattle.relation.proofs.without_lowest.Goals as goal

pub returns : goal.returns
returns c = cut_lowest 16 c.args.a c.requires (omega arith)
