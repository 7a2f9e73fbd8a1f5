-- What is known of a result by its refusal's number.
use mathlib.Core.Path.{◌≡◌, refl, sym, ap, ◌∙◌}
use Prim.Native.Nat.{ℕ}
use native.Mathlib.Omega.{arith}
use Rattle.std.proofs.Common.{Result, Ok, Err}
use Rattle.refusal.specs.Answered.{said_of, refusal_of}
use Rattle.refusal.specs.declared.Refusal.{Refusal}
use Rattle.refusal.proofs.NumberLaws.{number_pos, number_unique}

-- results that say the same
pub said_unique : {A : Type 0} (r s : Result A Refusal) → said_of r ≡ said_of s → r ≡ s
said_unique (Ok a) (Ok b) e = cc
said_unique (Err q) (Err r) e = ap Err (number_unique q r cc)
said_unique (Ok a) (Err r) e = absurd (cc)
said_unique (Err q) (Ok b) e = absurd (cc)

-- no refusal is due where none came
pub none_refused : {A : Type 0} {x : A} (a : ℕ) (j : Result A Refusal) → refusal_of j ≡ a → j ≡ Ok x → a ≡ 0
none_refused a j e f = sym e ∙ ap refusal_of f

-- where nothing is handed back but a refusal, its number says all
pub refusal_unique : (a b : Result (Unit {0}) Refusal) → refusal_of a ≡ refusal_of b → a ≡ b
refusal_unique (Ok u) (Ok v) e = refl
refusal_unique (Ok u) (Err r) e = absurd (omega (arith, number_pos r))
refusal_unique (Err r) (Ok u) e = absurd (omega (arith, number_pos r))
refusal_unique (Err r) (Err s) e = ap Err (number_unique r s e)
