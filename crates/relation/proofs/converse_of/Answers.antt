-- What is gathered so far is the converse of the relations below r.
use mathlib.Core.Bool.{cond}
use mathlib.Core.Path.{◌≡◌, ap, ap₂, ◌∙◌}
use Prim.Native.Nat.{ℕ, ◌%◌, ◌^◌}
use lib.Bits.{bit_or}
use native.Mathlib.Omega.{arith}
use Rattle.relation.specs.Meaning.{exchanged}
use Rattle.relation.specs.Sets.{member}
use Rattle.relation.specs.Composition.{converse}
use Rattle.relation.proofs.SetLaws.{mark_lt}
use Rattle.relation.proofs.UnionLaws.{union-small, below_first, below_next}
use Rattle.relation.proofs.ExchangeLaws.{exchanged_lt}
use Rattle.relation.proofs.converse_of.Goals as goal

pub loop-r-init : goal.loop-r-init
unfolding converse
loop-r-init c = below_first (λ r. 2 ^ exchanged r) c.args.a

pub mark-requires : goal.mark-requires
mark-requires c = rw c.exchanged.ensures (exchanged_lt c.loop-r.r c.loop-r-test.true)

pub loop-r-preserved : goal.loop-r-preserved
unfolding converse
loop-r-preserved c =
    let marked = c.mark.ensures ∙ ap (λ (s : ℕ). 2 ^ s) c.exchanged.ensures in
    ap₂ bit_or c.loop-r.invariant (c.given-out.ensures ∙ ap (λ (x : ℕ). cond (member c.loop-r.r c.args.a) x 0) marked)
    ∙ below_next (λ r. 2 ^ exchanged r) c.args.a c.loop-r.r c.loop-r-test.true (mark_lt (exchanged c.loop-r.r) (exchanged_lt c.loop-r.r c.loop-r-test.true))

pub returns : goal.returns
unfolding converse
returns c =
    let e : c.loop-r.r ≡ 13 = omega arith in
    c.loop-r.invariant ∙ ap (λ (k : ℕ). converse (c.args.a % 2 ^ k)) e ∙ union-small (λ r. 2 ^ exchanged r) c.args.a
