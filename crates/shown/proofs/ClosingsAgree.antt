-- Quick and plain closing of one grid leave the same cells and answer alike, unless quick closing pauses.
use mathlib.Core.Path.{◌≡◌, subst}
use mathlib.Core.List.{List}
use Prim.Native.Nat.{ℕ, ◌≤◌}
use Rattle.theory.proofs.EndLaws.{ends_unique}
use Rattle.quick.specs.Answers.{QuickCloses}
use Rattle.std.proofs.Common.{Result, Ok}
use Rattle.refusal.specs.declared.Refusal.{Refusal}
use Rattle.takes.specs.declared.End.{End as QuickEnd}
use Rattle.takes.specs.declared.End.TheVariants.{Paused}
use Rattle.quick.proofs.ShowLaws.{quick_never_pauses}
use Rattle.quick.proofs.KindLaws.{quick_kind, quick_ends}
use Rattle.plain.specs.Answers.{PlainCloses}
use Rattle.plain.specs.declared.End.{End as PlainEnd}
use Rattle.plain.proofs.PlainRight.{plain_kind, plain_ends}

module _ (n limit : ℕ) (g : List ℕ) (r : Result QuickEnd Refusal) (h : List ℕ) (s : Result PlainEnd Refusal) (k : List ℕ) where
  -- whatever the limit, unless paused: the same kind of answer, and the same cells
  pub closings_agree : QuickCloses n limit g r h → PlainCloses n g s k → ((t : ℕ) → r ≡ Ok (Paused t) → ⊥) → (quick_kind r ≡ plain_kind s) × (h ≡ k)
  closings_agree q p np = ends_unique n g (quick_ends n limit g h r q np) (plain_ends n g k s p)

  -- with 6,448 takes or more, always
  pub closings_always_agree : 6448 ≤ limit → QuickCloses n limit g r h → PlainCloses n g s k → (quick_kind r ≡ plain_kind s) × (h ≡ k)
  closings_always_agree l q p =
      closings_agree q p (λ t e. quick_never_pauses n limit g t h l (subst (λ (x : Result QuickEnd Refusal). QuickCloses n limit g x h) e q))
