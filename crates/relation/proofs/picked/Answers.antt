-- Each answer is that of its four digits, and a set that is not marked adds nothing.
use mathlib.Core.Path.{ap, sym, ◌∙◌}
use Prim.Native.Nat.{ℕ}
use lib.Bits.{bit_or, or_zero_l, or_zero_r}
use Rattle.relation.specs.Sets.{member}
use Rattle.relation.proofs.PackedLaws.{picked_by, none_left}
use borrow.Author.Rules.{rules}
use Rattle.relation.proofs.picked.Goals as goal

pub returns-in-0 : goal.returns-in-0
unfolding member
returns-in-0 c = picked_by c.args.n 0 c.args.p c.args.q c.args.v c.args.w c.in-0.is

pub returns-in-1 : goal.returns-in-1
unfolding member
returns-in-1 c = sym (or_zero_r c.args.p) ∙ sym (or_zero_r (bit_or c.args.p 0)) ∙ sym (or_zero_r (bit_or (bit_or c.args.p 0) 0)) ∙ picked_by c.args.n 1 c.args.p c.args.q c.args.v c.args.w c.in-1.is

pub returns-in-2 : goal.returns-in-2
unfolding member
returns-in-2 c = sym (or_zero_l c.args.q) ∙ sym (or_zero_r (bit_or 0 c.args.q)) ∙ sym (or_zero_r (bit_or (bit_or 0 c.args.q) 0)) ∙ picked_by c.args.n 2 c.args.p c.args.q c.args.v c.args.w c.in-2.is

pub returns-in-3 : goal.returns-in-3
unfolding member
returns-in-3 c = sym (or_zero_r (bit_or c.args.p c.args.q)) ∙ sym (or_zero_r (bit_or (bit_or c.args.p c.args.q) 0)) ∙ picked_by c.args.n 3 c.args.p c.args.q c.args.v c.args.w c.in-3.is

pub returns-in-4 : goal.returns-in-4
unfolding member
returns-in-4 c = sym (or_zero_l c.args.v) ∙ sym (or_zero_r (bit_or (bit_or 0 0) c.args.v)) ∙ picked_by c.args.n 4 c.args.p c.args.q c.args.v c.args.w c.in-4.is

pub returns-in-5 : goal.returns-in-5
unfolding member
returns-in-5 c = ap (λ (y : ℕ). bit_or y c.args.v) (sym (or_zero_r c.args.p)) ∙ sym (or_zero_r (bit_or (bit_or c.args.p 0) c.args.v)) ∙ picked_by c.args.n 5 c.args.p c.args.q c.args.v c.args.w c.in-5.is

pub returns-in-6 : goal.returns-in-6
unfolding member
returns-in-6 c = ap (λ (y : ℕ). bit_or y c.args.v) (sym (or_zero_l c.args.q)) ∙ sym (or_zero_r (bit_or (bit_or 0 c.args.q) c.args.v)) ∙ picked_by c.args.n 6 c.args.p c.args.q c.args.v c.args.w c.in-6.is

pub returns-in-7 : goal.returns-in-7
unfolding member
returns-in-7 c = sym (or_zero_r (bit_or (bit_or c.args.p c.args.q) c.args.v)) ∙ picked_by c.args.n 7 c.args.p c.args.q c.args.v c.args.w c.in-7.is

pub returns-in-8 : goal.returns-in-8
unfolding member
returns-in-8 c = sym (or_zero_l c.args.w) ∙ picked_by c.args.n 8 c.args.p c.args.q c.args.v c.args.w c.in-8.is

pub returns-in-9 : goal.returns-in-9
unfolding member
returns-in-9 c = ap (λ (y : ℕ). bit_or y c.args.w) (sym (or_zero_r c.args.p) ∙ sym (or_zero_r (bit_or c.args.p 0))) ∙ picked_by c.args.n 9 c.args.p c.args.q c.args.v c.args.w c.in-9.is

pub returns-in-10 : goal.returns-in-10
unfolding member
returns-in-10 c = ap (λ (y : ℕ). bit_or y c.args.w) (sym (or_zero_l c.args.q) ∙ sym (or_zero_r (bit_or 0 c.args.q))) ∙ picked_by c.args.n 10 c.args.p c.args.q c.args.v c.args.w c.in-10.is

pub returns-in-11 : goal.returns-in-11
unfolding member
returns-in-11 c = ap (λ (y : ℕ). bit_or y c.args.w) (sym (or_zero_r (bit_or c.args.p c.args.q))) ∙ picked_by c.args.n 11 c.args.p c.args.q c.args.v c.args.w c.in-11.is

pub returns-in-12 : goal.returns-in-12
unfolding member
returns-in-12 c = ap (λ (y : ℕ). bit_or y c.args.w) (sym (or_zero_l c.args.v)) ∙ picked_by c.args.n 12 c.args.p c.args.q c.args.v c.args.w c.in-12.is

pub returns-in-13 : goal.returns-in-13
unfolding member
returns-in-13 c = ap (λ (y : ℕ). bit_or y c.args.w) (ap (λ (y : ℕ). bit_or y c.args.v) (sym (or_zero_r c.args.p))) ∙ picked_by c.args.n 13 c.args.p c.args.q c.args.v c.args.w c.in-13.is

pub returns-in-14 : goal.returns-in-14
unfolding member
returns-in-14 c = ap (λ (y : ℕ). bit_or y c.args.w) (ap (λ (y : ℕ). bit_or y c.args.v) (sym (or_zero_l c.args.q))) ∙ picked_by c.args.n 14 c.args.p c.args.q c.args.v c.args.w c.in-14.is

pub returns-in_default : goal.returns-in_default
unfolding member
returns-in_default c = picked_by c.args.n 15 c.args.p c.args.q c.args.v c.args.w (search (rules, none_left))
