-- A line without its LF and one that is no entry are 9, a name found among those before it is 10.
use mathlib.Core.Path.{refl, sym}
use native.Mathlib.Omega.{arith}
use Rattle.sheet.specs.Steps.{names}
use Rattle.sheet.proofs.LineLaws.{line_missing}
use Rattle.sheet.proofs.ContentsLaws.{entry_had, read_twice, read_new, is_found, not_found}
use Rattle.sheet.proofs.entry_line.Goals as goal

pub returns-then-e-s : goal.returns-then-e-s
returns-then-e-s c = line_missing c.args.contents.now.sheet.now c.args.a c.part_end-e.result c.part_end-e.ensures _ (omega arith)

pub returns-then-is_some : goal.returns-then-is_some
returns-then-is_some c =
    let it = c.args.contents.now in
    let i = entry_had _ _ (c.in_ok-name.name, c.in_ok-name.statements) c.entry_form.ensures c.in_ok-name.ensures.ok_part in
    read_twice (names it) it.sheet.now c.args.a c.part_end-e.result c.part_end-e.ensures (omega arith) c.in_ok-name.name.now i.form i.name
    (is_found it c.in_ok-name.name.now c.find.result c.find.ensures (sym c.if-is_some.ensures))

pub returns : goal.returns
returns c =
    let it = c.args.contents.now in
    let i = entry_had _ _ (c.in_ok-name.name, c.in_ok-name.statements) c.entry_form.ensures c.in_ok-name.ensures.ok_part in
    read_new it c.args.a c.part_end-e.result c.part_end-e.ensures (omega arith) _ c.in_ok-name.name c.in_ok-name.statements refl i
    (record { memory = refl; start = omega arith })
    (not_found it c.in_ok-name.name.now c.find.result c.find.ensures (sym c.if-is_some.ensures))
