-- Two fields, of which the first is a name and the second a number up to 999: each test as in the definition.
use mathlib.Core.Path.{◌≡◌, refl, sym, subst, ap, ◌∙◌}
use Prim.Native.Nat.{ℕ}
use native.Mathlib.Omega.{arith}
use lib.ListN.{length, take}
use lib.Seq.{length-take-le}
use Rattle.text.proofs.PartLaws.{take_rest}
use Rattle.text.proofs.TextLaws.{is_number_lem}
use Rattle.sheet.specs.Steps.{EntryHas}
use Rattle.sheet.proofs.ContentsLaws.{ok_said, entry-fields, entry-name, entry_no_count, entry-form, first-field, second-field}
use Rattle.sheet.proofs.entry_form.Goals as goal

pub returns-in_err-k : goal.returns-in_err-k
returns-in_err-k c = subst (EntryHas c.args.l) (sym c.from_residual.ensures) (entry-fields _ c.in_err-k.ensures)

pub returns-then-not-is_name : goal.returns-then-not-is_name
returns-then-not-is_name c = entry-name _ _ c.in_ok-k.ensures.0 c.in_ok-k.ensures.1 (sym c.if-not-is_name.ensures)

pub returns-in_err-statements : goal.returns-in_err-statements
returns-in_err-statements c =
    subst (EntryHas c.args.l) (sym c.from_residual-in_err-statements.ensures)
    (entry_no_count _ _ c.in_ok-k.ensures.0 c.in_ok-k.ensures.1 (sym c.if-not-is_name.ensures) c.number_up_to.result (rw take_rest at c.number_up_to.ensures)
    c.in_err-statements.ensures.value)

pub returns : goal.returns
returns c =
    let n = is_number_lem _ _ c.in_ok-statements.statements (sym (rw take_rest at c.number_up_to.ensures) ∙ ok_said c.number_up_to.result _ c.in_ok-statements.ensures.value) in
    let short : length (take c.in_ok-k.k c.args.l.now) ≡ c.in_ok-k.k = length-take-le c.in_ok-k.k c.args.l.now (omega (arith, c.in_ok-k.ensures.0)) in
    record {
      form = entry-form _ _ c.in_ok-k.ensures.0 c.in_ok-k.ensures.1 (sym c.if-not-is_name.ensures) n.0 n.1;
      name = first-field _ _ c.in_ok-k.ensures.0 c.in_ok-k.ensures.1;
      part = record { memory = refl; start = omega arith };
      inside = omega (arith, short, c.in_ok-k.ensures.0);
      bytes = ap (λ (x : ℕ). take x c.args.l.now) (sym short);
      count = second-field _ _ c.in_ok-k.ensures.0 c.in_ok-k.ensures.1 ∙ n.2;
    }
