-- The first c from a on is the first one of the rest.
use Rattle.text.proofs.PartLaws.{part_found, part_open}
use Rattle.text.proofs.part_end.Goals as goal

pub returns-in-Some : goal.returns-in-Some
returns-in-Some c = part_found c.args.c c.args.s.now c.args.a c.requires _ c.first_at.ensures c.in-Some.k c.in-Some.is

pub returns-in-None : goal.returns-in-None
returns-in-None c = part_open c.args.c c.args.s.now c.args.a c.requires _ c.first_at.ensures c.in-None.is
