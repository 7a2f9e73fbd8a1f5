-- The union so far with the words to come is the union of the whole field.
use mathlib.Core.Path.{sym, ◌∙◌}
use lib.ListN.{length}
use Rattle.std.proofs.Common.{◌==◌, rules, tests}
use Rattle.std.proofs.lemmas.Iterator.Splits.{YieldsList-from_slice_split}
use Rattle.std.proofs.lemmas.Iterator.Consumers.{YieldsList-turn, YieldsList-end}
use Rattle.std.proofs.lemmas.List.{length_push}
use Rattle.words.specs.Words.{words, comma, joined}
use Rattle.words.proofs.WordLaws.{union_bad, union_more, union_done}
use Rattle.words.proofs.union_of.Goals as goal

pub returns-in_err-u : goal.returns-in_err-u
returns-in_err-u c =
    let road = YieldsList-from_slice_split _ (λ x. x == comma) c.args.f.now (cc) (cc) (cc) (λ x b q k. search (rules, tests)) in
    let t = YieldsList-turn road c.loop-w.yielded _ c.loop-w.yielded_by _ _ c.in-Some.w c.in-Some.is c.next.ensures.steps in
    c.from_residual.ensures ∙ sym (c.loop-w.invariant ∙ union_bad words c.loop-w.u (joined c.args.f.now) (length c.loop-w.yielded) _ t _ c.meaning_of.ensures c.in_err-u.was)

pub loop-w-preserved : goal.loop-w-preserved
loop-w-preserved c =
    let road = YieldsList-from_slice_split _ (λ x. x == comma) c.args.f.now (cc) (cc) (cc) (λ x b q k. search (rules, tests)) in
    let t = YieldsList-turn road c.loop-w.yielded _ c.loop-w.yielded_by _ _ c.in-Some.w c.in-Some.is c.next.ensures.steps in
    let e = union_more words c.loop-w.u (joined c.args.f.now) (length c.loop-w.yielded) _ t _ c.meaning_of.ensures c.in_ok-u.field-0 c.in_ok-u.was in
    rw length_push (c.loop-w.invariant ∙ e)

pub returns : goal.returns
returns c =
    let road = YieldsList-from_slice_split _ (λ x. x == comma) c.args.f.now (cc) (cc) (cc) (λ x b q k. search (rules, tests)) in
    let t = YieldsList-end road c.loop-w.yielded _ c.loop-w.yielded_by _ _ c.in-None.is c.next.ensures.steps in
    sym (c.loop-w.invariant ∙ union_done words c.loop-w.u (joined c.args.f.now) _ t.1)
