-- Each turn is one call; the last one made says how all ends.
use Rattle.std.proofs.Common.{◌≡◌, ℕ, suc, ◌+◌, ◌-◌, ◌<◌, Bool, true, false, Result, Ok, Err, sym, refl, subst, arith, ◌∙◌, ap, of_calls, ◌≤◌}
use Rattle.std.specs.Result.{IsErrAnd}
use Rattle.cases.specs.Answering.{most_cases, Answerer, Answers, Answered, all, none, failed, more}
use denote.Ref.{MutBor}
use denote.Param.Members.{Called}
use Rattle.cases.proofs.answer_all.Goals.{else-loop-test, then-loop-test+in_ok-answered+then-not-branch}
use Rattle.cases.proofs.answer_all.Goals as goal

answers : {F R W E : Type 0} (g : Answerer F R W E) (f f' : F) (p p' : MutBor R) (q q' : MutBor W) (said : Result Bool E) →
    Called g f (p, (q, tt)) (said, (p', (q', tt))) f' → Answers g f p.now q.now said f' p'.now q'.now
answers g f f' p p' q q' said h = record { reader = p; writer = q; reader' = p'; writer' = q'; lent = (refl, refl); called = h; left = (refl, refl) }

err_is : {T E : Type 0} (r : Result T E) (e : E) → IsErrAnd r (λ y. y ≡ e) → r ≡ Err e
err_is (Ok x) e h = absurd h
err_is (Err y) e h = ap Err h

all_at : {F R W E : Type 0} (g : Answerer F R W E) (r : R) (w : W) (n k : ℕ) (f : F) → n ≤ k → Answered g r w (n - k) f r w (Ok tt)
all_at g r w n k f h = let none : n - k ≡ 0 = omega (arith, h) in subst (λ m. Answered g r w m f r w (Ok tt)) (sym none) all

module _ {F R W E : Type 0} (g : Answerer F R W E) (r' : R) (w' : W) (n k : ℕ) (f : F) (r : R) (w : W) (said : Result Bool E) (left : k < n) where
  turn : n - k ≡ suc (n - (k + 1))
  turn = omega (arith, left)

  none_at : (f' : F) → Answers g f r w said f' r' w' → said ≡ Ok false → Answered g r' w' (n - k) f r w (Ok tt)
  none_at f' a is = subst (λ m. Answered g r' w' m f r w (Ok tt)) (sym turn) (none (subst (λ s. Answers g f r w s f' r' w') is a))

  failed_at : (f' : F) (e : E) → Answers g f r w said f' r' w' → said ≡ Err e → Answered g r' w' (n - k) f r w (Err e)
  failed_at f' e a is = subst (λ m. Answered g r' w' m f r w (Err e)) (sym turn) (failed (subst (λ s. Answers g f r w s f' r' w') is a))

  more_at : (f₁ : F) (r₁ : R) (w₁ : W) (end : Result (Unit {0}) E) → Answers g f r w said f₁ r₁ w₁ → said ≡ Ok true → Answered g r' w' (n - (k + 1)) f₁ r₁ w₁ end → Answered g r' w' (n - k) f r w end
  more_at f₁ r₁ w₁ end a is rest = subst (λ m. Answered g r' w' m f r w end) (sym turn) (more (subst (λ s. Answers g f r w s f₁ r₁ w₁) is a) rest)

pub loop-preserved : goal.loop-preserved
loop-preserved g c = record {
  callable = search of_calls;
  calls = λ reader writer end rest. c.loop.invariant.calls reader writer end (more_at g.F.FnMut reader writer most_cases c.loop.counter c.loop.answered c.loop.reader c.loop.writer c.answered.result (omega (arith, c.loop-test.true))
      c.answered.new.self c.answered.new.arg2 c.answered.new.arg3 end (answers _ _ _ _ _ _ _ _ c.answered.ensures) (c.in_ok-answered.was ∙ ap Ok c.if-not-branch.false) rest);
}

pub returns-in_err-answered : goal.returns-in_err-answered
returns-in_err-answered g c =
    let same : c.from_residual.result ≡ Err c.in_err-answered.field-0.0 = err_is _ _ c.from_residual.ensures.1 in
    subst (Answered g.F.FnMut c.answered.new.arg2 c.answered.new.arg3 most_cases c.args.answered c.args.reader.now c.args.writer.now) (sym same)
    (c.loop.invariant.calls c.answered.new.arg2 c.answered.new.arg3 _ (failed_at g.F.FnMut c.answered.new.arg2 c.answered.new.arg3 most_cases c.loop.counter c.loop.answered c.loop.reader c.loop.writer c.answered.result (omega (arith, c.loop-test.true))
    c.answered.new.self c.in_err-answered.field-0.0 (answers _ _ _ _ _ _ _ _ c.answered.ensures) c.in_err-answered.was))

pub returns : goal.returns
returns g c = elim c.loop-test.branch [
  | else-loop-test w ↦ rw (w.reader-is, w.writer-is) (c.loop.invariant.calls c.loop.reader c.loop.writer _ (all_at g.F.FnMut c.loop.reader c.loop.writer most_cases c.loop.counter c.loop.answered (omega (arith, w.loop-test.false))))
  | then-loop-test+in_ok-answered+then-not-branch w ↦ rw (w.reader-is, w.writer-is) (c.loop.invariant.calls w.answered.new.arg2 w.answered.new.arg3 _
      (none_at g.F.FnMut w.answered.new.arg2 w.answered.new.arg3 most_cases c.loop.counter c.loop.answered c.loop.reader c.loop.writer w.answered.result (omega (arith, w.loop-test.true))
      w.answered.new.self (answers _ _ _ _ _ _ _ _ w.answered.ensures) (w.in_ok-answered.was ∙ ap Ok w.if-not-branch.true)))
]
