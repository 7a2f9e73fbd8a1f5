-- The contents of an accepted sheet say where the name stands; otherwise the front of the sheet is handed back, with no byte.
use Rattle.sheet.proofs.SheetRight.{name_part}
use Rattle.sheet.proofs.name_of.Goals as goal

pub returns-in-Ok : goal.returns-in-Ok
returns-in-Ok c = name_part c.args.s c.args.i _ _ c.in-Ok.contents c.in-Ok.ensures c.name.ensures
