-- The part that begins there ends at an LF, or with the sheet.
use Rattle.reader.proofs.LineLaws.{line-ends, line_open}
use Rattle.reader.proofs.line_at.Goals as goal

pub returns-then-e-sheet : goal.returns-then-e-sheet
returns-then-e-sheet c = line-ends c.args.sheet.now c.args.at c.part_end-e.result c.if-sheet-at.false c.part_end-e.ensures c.if-e-sheet.true

pub returns-else-e-sheet : goal.returns-else-e-sheet
returns-else-e-sheet c = line_open c.args.sheet.now c.args.at c.part_end-e.result c.if-sheet-at.false c.part_end-e.ensures c.if-e-sheet.false
