-- A number of 64 bits has at most 20 digits.
use Rattle.report.proofs.DecimalLaws.{decimal_most}
use native.Mathlib.Omega.{arith}
use Rattle.report.proofs.page.Page.number.Goals as goal

pub digits-requires : goal.digits-requires
digits-requires c = omega (arith, decimal_most c.args.k (omega arith))

pub returns : goal.returns
returns c = record { adds = c.digits.ensures; within = omega (arith, c.digits.ensures.next, decimal_most c.args.k (omega arith)) }
