-- Any two answers that the statements of converse and compose allow are equal.
use mathlib.Core.Path.{◌≡◌, sym, ◌∙◌}
use Prim.Native.Nat.{ℕ}
use Rattle.std.proofs.Common.{Result}
use Rattle.refusal.specs.declared.Refusal.{Refusal}
use Rattle.refusal.specs.Answered.{said_of}
use Rattle.refusal.proofs.ResultLaws.{said_unique}
use Rattle.relation.specs.Answers.{converse_said, compose_said}

pub converse_unique : (a : ℕ) (r s : Result ℕ Refusal) → said_of r ≡ converse_said a → said_of s ≡ converse_said a → r ≡ s
converse_unique a r s p q = said_unique r s (p ∙ sym q)

pub compose_unique : (a b : ℕ) (r s : Result ℕ Refusal) → said_of r ≡ compose_said a b → said_of s ≡ compose_said a b → r ≡ s
compose_unique a b r s p q = said_unique r s (p ∙ sym q)
