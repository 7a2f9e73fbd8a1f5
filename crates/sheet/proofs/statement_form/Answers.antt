-- Two fields, of which the first is words and the second a name: each test as in the definition.
use mathlib.Core.Path.{sym, subst}
use lib.ListN.{take}
use Rattle.text.proofs.PartLaws.{take_rest}
use Rattle.words.specs.Words.{words, joined}
use Rattle.words.proofs.WordLaws.{union-is, union_not}
use Rattle.sheet.specs.Steps.{StatementHas}
use Rattle.sheet.proofs.BodyLaws.{statement_fields, statement_words, statement_name, statement_is}
use Rattle.sheet.proofs.statement_form.Goals as goal

pub returns-in_err-k : goal.returns-in_err-k
returns-in_err-k c = subst (StatementHas words c.args.l.now) (sym c.from_residual.ensures) (statement_fields words c.args.l.now c.in_err-k.ensures)

pub returns-in_err-set : goal.returns-in_err-set
returns-in_err-set c =
    subst (StatementHas words c.args.l.now) (sym c.from_residual-in_err-set.ensures)
    (statement_words words c.args.l.now c.in_ok-k.k c.in_ok-k.ensures.0 c.in_ok-k.ensures.1
    (union_not words 0 (joined (take c.in_ok-k.k c.args.l.now)) (sym c.in_err-set.ensures)))

pub returns-then-is_name : goal.returns-then-is_name
returns-then-is_name c =
    let said = union-is words 0 (joined (take c.in_ok-k.k c.args.l.now)) c.in_ok-set.set (sym c.in_ok-set.ensures) in
    rw take_rest
    (statement_is words c.args.l.now c.in_ok-k.k c.in_ok-k.ensures.0 c.in_ok-k.ensures.1 c.in_ok-set.set said.0 said.1 (sym (rw take_rest at c.if-is_name.ensures)))

pub returns-else-is_name : goal.returns-else-is_name
returns-else-is_name c =
    let said = union-is words 0 (joined (take c.in_ok-k.k c.args.l.now)) c.in_ok-set.set (sym c.in_ok-set.ensures) in
    statement_name words c.args.l.now c.in_ok-k.k c.in_ok-k.ensures.0 c.in_ok-k.ensures.1 said.0 (sym (rw take_rest at c.if-is_name.ensures))
