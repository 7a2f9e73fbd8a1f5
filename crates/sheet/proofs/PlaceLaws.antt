-- Laws of names that are kept by their places.
use mathlib.Core.Path.{◌≡◌, refl, ◌∙◌}
use mathlib.Core.List.{List, [], ◌∷◌, ◌++◌}
use Prim.Native.Nat.{ℕ, zero, suc, ◌<◌}
use native.Mathlib.Omega.{arith}
use native.Mathlib.Decide.{dec_lt}
use lib.ListN.{length, get_or, length-append, get_or-append}
use lib.Seq.{get_or_at}
use Rattle.sheet.specs.Places.{name_at, names_at}

module _ (s places : List ℕ) where
  pub names-length : (k : ℕ) → length (names_at s places k) ≡ k
  unfolding names_at
  names-length zero = refl
  names-length (suc k) = omega (arith, length-append (names_at s places k) (name_at s places k ∷ []), names-length k)

  pub names-at : (k i : ℕ) → i < k → get_or (names_at s places k) i [] ≡ name_at s places i
  unfolding names_at
  names-at zero i h = absurd (omega arith)
  names-at (suc k) i h = by (names-length k) (names-at k i) (dec_lt i k)
    where
      by : length (names_at s places k) ≡ k → (i < k → get_or (names_at s places k) i [] ≡ name_at s places i) → Dec (i < k)
          → get_or (names_at s places k ++ name_at s places k ∷ []) i [] ≡ name_at s places i
      by n f (yes g) = get_or-append (names_at s places k) (name_at s places k ∷ []) [] i (omega arith) ∙ f g
      by n f (no g) =
          let e : i ≡ k = omega arith in
          rw e (get_or_at (names_at s places k) (name_at s places k) [] [] k n)
