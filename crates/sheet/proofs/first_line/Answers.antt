-- A line without its LF and one that is no number are 9, a number above 32 is 1.
use mathlib.Core.Path.{sym}
use native.Mathlib.Omega.{arith}
use lib.ListN.{take}
use Rattle.text.proofs.TextLaws.{is_number_lem, above_number, no_number}
use Rattle.sheet.specs.Sheet.{most_events}
use Rattle.sheet.proofs.SheetLaws.{first-missing, first_no_number, first_many, first_read}
use Rattle.sheet.proofs.first_line.Goals as goal

pub returns-then-e-s : goal.returns-then-e-s
returns-then-e-s c = first-missing c.args.s.now c.part_end-e.result c.part_end-e.ensures (omega arith)

pub returns-in-Ok : goal.returns-in-Ok
returns-in-Ok c =
    let is = is_number_lem most_events (take c.part_end-e.result c.args.s.now) c.in-Ok.n (sym c.in-Ok.ensures) in
    first_read c.args.s.now c.part_end-e.result c.part_end-e.ensures (omega arith) is.0 c.in-Ok.n is.2 (omega arith)

pub returns-in-Err-Above : goal.returns-in-Err-Above
returns-in-Err-Above c =
    let n = above_number most_events (take c.part_end-e.result c.args.s.now) (sym (rw c.in-Err-Above.field-0-is at c.in-Err-Above.ensures)) in
    first_many c.args.s.now c.part_end-e.result c.part_end-e.ensures (omega arith) n.0 n.1

pub returns-in-Err-Not : goal.returns-in-Err-Not
returns-in-Err-Not c =
    first_no_number c.args.s.now c.part_end-e.result c.part_end-e.ensures (omega arith)
    (no_number most_events (take c.part_end-e.result c.args.s.now) (sym (rw c.in-Err-Not.field-0-is at c.in-Err-Not.ensures)))
