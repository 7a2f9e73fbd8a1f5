-- 8 before all, then the first line, or what the lines after it say.
use mathlib.Core.Path.{sym, subst}
use native.Mathlib.Omega.{arith}
use native.Mathlib.Nat.{mul-le-mul}
use Rattle.sheet.specs.Sheet.{Outcome}
use Rattle.sheet.specs.Steps.{SheetSays}
use Rattle.sheet.proofs.SheetLaws.{sheet-long, sheet-stop, sheet_lines}
use Rattle.sheet.proofs.read_into.Goals as goal

pub returns-then-s-gt-MOST_BYTES : goal.returns-then-s-gt-MOST_BYTES
returns-then-s-gt-MOST_BYTES c = sheet-long c.args.s.now (omega arith)

pub lines_into-requires : goal.lines_into-requires
lines_into-requires c =
    let f = c.in-Ok.ensures in
    (f.few, f.begins, omega (arith, mul-le-mul f.few f.few))

pub returns-in-Ok : goal.returns-in-Ok
returns-in-Ok c =
    subst (λ (o : Outcome). SheetSays o c.args.s c.lines_into.new.g c.lines_into.result)
    (sym (sheet_lines c.args.s.now (omega arith) c.in-Ok.n c.in-Ok.next c.in-Ok.ensures))
    c.lines_into.ensures

pub returns-in-Err : goal.returns-in-Err
returns-in-Err c = sheet-stop c.args.s.now (omega arith) c.in-Err.why c.in-Err.ensures
