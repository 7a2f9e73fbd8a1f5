-- Each place so far holds how many different counts are below it; the next one more where v is a count.
use mathlib.Core.Path.{◌≡◌, refl, sym, ap, ◌∙◌}
use mathlib.Core.List.{List}
use mathlib.Core.Bool.{Bool, true, false}
use Prim.Native.Nat.{ℕ, ◌+◌, ◌<◌}
use lib.Dec.{eqb}
use mir.Val.{bool_byte}
use lib.ListN.{length, get_or, replicate, length-set}
use Rattle.std.specs.List.{IsAnyAnswer}
use Rattle.relation.specs.Sets.{one_if}
use Rattle.relation.proofs.Rank.{digit_le_one}
use Rattle.relation.proofs.Tested.{some_yes, some_no}
use Rattle.placing.proofs.FillLaws.{Filled, filled_more}
use Rattle.placing.specs.Settling.{is_value, values_below}
use Rattle.placing.specs.Steps.{most_ends}
use Rattle.placing.proofs.GaplessLaws.{values_none, values_le, values_step}
use native.Mathlib.Omega.{arith}
use Rattle.placing.proofs.values_below.Goals as goal

first : (f : ℕ → ℕ) (l : List ℕ) → get_or l 0 0 ≡ f 0 → Filled f l 1
first f l e k h = let z : k ≡ 0 = omega arith in ap (λ (j : ℕ). get_or l j 0) z ∙ e ∙ ap f (sym z)

contained : (xs : List ℕ) (v : ℕ) (r : Bool) → IsAnyAnswer (λ y b. eqb y v ≡ b) xs r → r ≡ is_value (λ p. get_or xs p 0) (length xs) v
contained xs v true w = sym (some_yes (length xs) (λ p. eqb (get_or xs p 0) v) w.0 w.1 (w.2 0))
contained xs v false w = sym (some_no (length xs) (λ p. eqb (get_or xs p 0) v) (λ k h. w k 0 (omega arith) h))

-- what a test counts
digit : (b : Bool) (x : ℕ) → x ≡ bool_byte b → x ≡ one_if b
digit true x e = e
digit false x e = e

pub loop-v-init : goal.loop-v-init
loop-v-init c = (refl, first (values_below (λ p. get_or c.args.counts.now p 0) (length c.args.counts.now)) (replicate (most_ends + 1) 0) (sym (values_none (λ p. get_or c.args.counts.now p 0) (length c.args.counts.now))))

pub overflow_add-belows : goal.overflow_add-belows
overflow_add-belows c =
    let one = digit c.contains.result c.from.result c.from.ensures in
    omega (arith, digit_le_one c.contains.result, c.loop-v.invariant.1 c.loop-v.v-counter (omega arith), values_le (λ p. get_or c.args.counts.now p 0) (length c.args.counts.now) c.loop-v.v-counter)

pub loop-v-preserved : goal.loop-v-preserved
loop-v-preserved c =
    let at : c.loop-v.v-counter + 1 < length c.loop-v.belows = omega arith in
    let here = c.loop-v.invariant.1 c.loop-v.v-counter (omega arith) in (
      simp length-set c.loop-v.invariant.0,
      filled_more (values_below (λ p. get_or c.args.counts.now p 0) (length c.args.counts.now)) c.loop-v.belows (c.loop-v.v-counter + 1) _ at c.loop-v.invariant.1
          (values_step (λ p. get_or c.args.counts.now p 0) (length c.args.counts.now) c.loop-v.v-counter (get_or c.loop-v.belows c.loop-v.v-counter 0) _ c.contains.result c.contains.result here (contained c.args.counts.now c.loop-v.v-counter c.contains.result c.contains.ensures.cases) refl (omega (arith, digit c.contains.result c.from.result c.from.ensures))),
    )
