-- A line without its LF and one that is no statement are 9, a name that is not found is 11, and event i itself is 12.
use mathlib.Core.Path.{sym, ◌∙◌}
use native.Mathlib.Omega.{arith}
use borrow.Author.Rules.{rules}
use Rattle.words.specs.Words.{words}
use Rattle.sheet.specs.Steps.{names}
use Rattle.sheet.proofs.LineLaws.{line_missing}
use Rattle.sheet.proofs.ContentsLaws.{found_at, not_listed}
use Rattle.sheet.proofs.BodyLaws.{statement_had, read_11, read_12, read_says}
use Rattle.sheet.proofs.statement_line.Goals as goal

pub returns-then-e-s : goal.returns-then-e-s
returns-then-e-s c = line_missing c.args.contents.now.sheet.now c.args.a c.part_end-e.result c.part_end-e.ensures _ (omega arith)

pub returns-in_err-j : goal.returns-in_err-j
returns-in_err-j c =
    let it = c.args.contents.now in
    let m = c.in_ok-set.other.now in
    let i = statement_had words _ _ _ _ c.statement_form.ensures c.in_ok-set.ensures.ok_part in
    let fault = read_11 words (names it) c.args.i it.sheet.now c.args.a c.part_end-e.result c.part_end-e.ensures (omega arith) c.in_ok-set.set m i
    (not_listed it m c.find.result c.find.ensures c.in_err-j.ensures.ok_part) in
    search rules

pub returns-then-j-i : goal.returns-then-j-i
returns-then-j-i c =
    let it = c.args.contents.now in
    let m = c.in_ok-set.other.now in
    let i = statement_had words _ _ _ _ c.statement_form.ensures c.in_ok-set.ensures.ok_part in
    let f = found_at it m c.find.result c.find.ensures c.in_ok-j.j c.in_ok-j.ensures.ok_part in
    read_12 words (names it) c.args.i it.sheet.now c.args.a c.part_end-e.result c.part_end-e.ensures (omega arith) c.in_ok-set.set m i f.0 (sym f.1 ∙ c.if-j-i.true)

pub returns : goal.returns
returns c =
    let it = c.args.contents.now in
    let m = c.in_ok-set.other.now in
    let i = statement_had words _ _ _ _ c.statement_form.ensures c.in_ok-set.ensures.ok_part in
    let f = found_at it m c.find.result c.find.ensures c.in_ok-j.j c.in_ok-j.ensures.ok_part in
    read_says words (names it) c.args.i it.sheet.now c.args.a c.part_end-e.result c.part_end-e.ensures (omega arith) c.in_ok-set.set m i c.in_ok-j.j f.0 f.1 c.if-j-i.false
