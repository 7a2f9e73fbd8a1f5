-- What a function that can refuse hands back: the number of a refusal, or an answer of its own.
use Rattle.std.specs.Prelude.{cond, ℕ, eqb, Result, Ok, Err}
use Rattle.refusal.specs.Numbers.{number_of}
use Rattle.refusal.specs.declared.Refusal.{Refusal}

pub data Answered (A : Type 0) : Type 0 where
  refused : ℕ → Answered A
  answers : A → Answered A

-- what was handed back, as such
abbrev pub said_of : {A : Type 0} → Result A Refusal → Answered A
said_of (Ok a) = answers a
said_of (Err r) = refused (number_of r)

-- the number of the refusal that was handed back; 0 is none
abbrev pub refusal_of : {A : Type 0} → Result A Refusal → ℕ
refusal_of (Ok a) = 0
refusal_of (Err r) = number_of r

-- the answer where no refusal is due (0), and else the refusal
abbrev pub unless_due : {A : Type 0} → ℕ → A → Answered A
unless_due due a = cond (eqb due 0) (answers a) (refused due)

-- the number of an answer's refusal; 0 is none
abbrev pub refusal_in : {A : Type 0} → Answered A → ℕ
refusal_in (refused k) = k
refusal_in (answers a) = 0

-- of two refusals, looked for one after the other, the first that is due
abbrev pub first_of : ℕ → ℕ → ℕ
first_of a b = cond (eqb a 0) b a
