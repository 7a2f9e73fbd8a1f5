-- What answering case after case does: the calls that were made, in order.
use Rattle.std.specs.Prelude.{◌≡◌, ℕ, suc, Bool, true, false, Result, Ok, Err}
use denote.Ref.{MutBor}
use denote.Param.Members.{Mut, Called}

-- no more cases are answered
abbrev pub most_cases : ℕ
most_cases = 100000

-- what is lent, the reader and the writer, and what is handed back: whether there was a case, or the error, and both
abbrev pub Answerer : Type 0 → Type 0 → Type 0 → Type 0 → Type 1
Answerer F R W E = Mut F (MutBor R × (MutBor W × Unit {0})) (Result Bool E × (MutBor R × (MutBor W × Unit {0})))

-- one call may take the state of all three to another, with this result
pub record Answers {F R W E : Type 0} (g : Answerer F R W E) (f : F) (r : R) (w : W) (said : Result Bool E) (f' : F) (r' : R) (w' : W) : Type 0 where
  pub reader : MutBor R
  pub writer : MutBor W
  pub reader' : MutBor R
  pub writer' : MutBor W
  pub lent : (reader.now ≡ r) × (writer.now ≡ w)
  pub called : Called g f (reader, (writer, tt)) (said, (reader', (writer', tt))) f'
  pub left : (reader'.now ≡ r') × (writer'.now ≡ w')

-- at most `most` calls that each say there was a case, and then, where one was made, a call that says there was none or fails
pub data Answered {F R W E : Type 0} (g : Answerer F R W E) (r' : R) (w' : W) : ℕ → F → R → W → Result (Unit {0}) E → Type 0 where
  all : {f : F} → Answered g r' w' 0 f r' w' (Ok tt)
  none : {n : ℕ} {f f' : F} {r : R} {w : W} → Answers g f r w (Ok false) f' r' w' → Answered g r' w' (suc n) f r w (Ok tt)
  failed : {n : ℕ} {f f' : F} {r : R} {w : W} {e : E} → Answers g f r w (Err e) f' r' w' → Answered g r' w' (suc n) f r w (Err e)
  more : {n : ℕ} {f f₁ : F} {r r₁ : R} {w w₁ : W} {end : Result (Unit {0}) E} → Answers g f r w (Ok true) f₁ r₁ w₁ → Answered g r' w' n f₁ r₁ w₁ end → Answered g r' w' (suc n) f r w end
