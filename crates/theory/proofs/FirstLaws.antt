-- "Comes no later" is an order of scenarios: of two one comes no later, and two of which neither comes later are the same.
use mathlib.Core.Path.{◌≡◌, refl, sym, ◌∙◌}
use mathlib.Core.Logic.{◌⊎◌, inl, inr, ⊎_elim}
use mathlib.Core.List.{List, [], ◌∷◌}
use Prim.Native.Nat.{ℕ, ◌<◌}
use native.Mathlib.Decide.{dec_lt}
use native.Mathlib.Omega.{arith}
use Rattle.theory.specs.Search.{Pair, All, NoLater}

pub no_later_self : (ps : List Pair) (σ : Pair → ℕ) → NoLater ps σ σ
no_later_self [] σ = tt
no_later_self (p ∷ ps) σ = inr (refl, no_later_self ps σ)

pub no_later_either : (ps : List Pair) (σ τ : Pair → ℕ) → NoLater ps σ τ ⊎ NoLater ps τ σ
no_later_either [] σ τ = inl tt
no_later_either (p ∷ ps) σ τ = go (dec_lt (σ p) (τ p)) (dec_lt (τ p) (σ p)) (no_later_either ps σ τ)
  where
    go : Dec (σ p < τ p) → Dec (τ p < σ p) → NoLater ps σ τ ⊎ NoLater ps τ σ → NoLater (p ∷ ps) σ τ ⊎ NoLater (p ∷ ps) τ σ
    go (yes l) d w = inl (inl (omega arith))
    go (no l) (yes m) w = inr (inl (omega arith))
    go (no l) (no m) w = let e : σ p ≡ τ p = omega arith in ⊎_elim (λ v. inl (inr (e, v))) (λ v. inr (inr (sym e, v))) w

pub no_later_then : (ps : List Pair) (σ τ υ : Pair → ℕ) → NoLater ps σ τ → NoLater ps τ υ → NoLater ps σ υ
no_later_then [] σ τ υ x y = tt
no_later_then (p ∷ ps) σ τ υ (inl l) (inl m) = inl (omega arith)
no_later_then (p ∷ ps) σ τ υ (inl l) (inr m) = inl (omega (arith, m.0))
no_later_then (p ∷ ps) σ τ υ (inr l) (inl m) = inl (omega (arith, l.0))
no_later_then (p ∷ ps) σ τ υ (inr l) (inr m) = inr (l.0 ∙ m.0, no_later_then ps σ τ υ l.1 m.1)

pub no_later_both : (ps : List Pair) (σ τ : Pair → ℕ) → NoLater ps σ τ → NoLater ps τ σ → All (λ p. σ p ≡ τ p) ps
no_later_both [] σ τ x y = tt
no_later_both (p ∷ ps) σ τ (inl l) (inl m) = absurd (omega arith)
no_later_both (p ∷ ps) σ τ (inl l) (inr m) = absurd (omega (arith, m.0))
no_later_both (p ∷ ps) σ τ (inr l) (inl m) = absurd (omega (arith, l.0))
no_later_both (p ∷ ps) σ τ (inr l) (inr m) = (l.0, no_later_both ps σ τ l.1 m.1)

-- of the same relations
pub no_later_alike : (ps : List Pair) {σ σ' τ τ' : Pair → ℕ} → ((p : Pair) → σ p ≡ σ' p) → ((p : Pair) → τ p ≡ τ' p) → NoLater ps σ τ → NoLater ps σ' τ'
no_later_alike [] e f w = tt
no_later_alike (p ∷ ps) e f (inl l) = inl (omega (arith, e p, f p))
no_later_alike (p ∷ ps) e f (inr l) = inr (sym (e p) ∙ l.0 ∙ f p, no_later_alike ps e f l.1)
