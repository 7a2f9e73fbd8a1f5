-- Laws of statements: one by its parts, and lists of statements that fit.
use mathlib.Core.Path.{◌≡◌}
use mathlib.Core.List.{List, [], ◌∷◌, ◌++◌}
use Prim.Native.Nat.{ℕ}
use Rattle.statements.specs.Statements.{Statement, AllFit}

-- event i to event j, with the set u
abbrev pub st : ℕ → ℕ → ℕ → Statement
st i u j = record { one = i; set = u; two = j }

pub statement_same : {i u u' j j' : ℕ} → u ≡ u' → j ≡ j' → st i u j ≡ st i u' j'
statement_same p q = cc

pub fit_append : (n : ℕ) (ts us : List Statement) → AllFit n ts → AllFit n us → AllFit n (ts ++ us)
fit_append n [] us p q = q
fit_append n (t ∷ ts) us p q = (p.0, fit_append n ts us p.1 q)
