-- Unless paused, the kind of the answer and the cells are those of the given grid's closing, whatever the limit.
use mathlib.Core.Path.{◌≡◌, refl, ap, sym, ◌∙◌, subst}
use mathlib.Core.List.{List}
use Prim.Native.Nat.{ℕ}
use native.Mathlib.Omega.{arith}
use lib.ListN.{length}
use Rattle.std.specs.Prelude.{Result, Ok, Err}
use Rattle.refusal.specs.Answered.{refused, answers, said_of}
use Rattle.refusal.specs.Numbers.{number_of}
use Rattle.refusal.specs.declared.Refusal.{Refusal}
use Rattle.grid.specs.Cells.{cell}
use Rattle.grid.specs.Accepted.{grid_refusal}
use Rattle.grid.proofs.AcceptedLaws.{accepted-grid}
use Rattle.theory.proofs.EndLaws.{Kind, contradicts, pauses, Largest, EndsAs, refusing, full, emptied, ends_unique}
use Rattle.theory.specs.Allen.{allen}
use Rattle.theory.specs.Closing.{Closing}
use Rattle.theory.specs.Quick.{Ended, contradiction, closed, paused}
use Rattle.takes.specs.declared.End.{End}
use Rattle.takes.specs.declared.End.TheVariants.{Closed, Contradiction, Paused}
use Rattle.quick.specs.Answers.{said_by, quick_rule, QuickCloses}
use Rattle.quick.proofs.RuleLaws.{rule_long}
use Rattle.quick.proofs.ShowLaws.{Ran, by_rule, by_refusal, ran}

-- an answer without its takes
abbrev pub quick_kind : Result End Refusal → Kind
quick_kind (Ok (Closed t)) = Kind.closes
quick_kind (Ok (Contradiction t)) = contradicts
quick_kind (Ok (Paused t)) = pauses
quick_kind (Err x) = Kind.refuses (number_of x)

module _ (n limit : ℕ) (g h : List ℕ) where
  -- the cells are as many as before, and no refusal is due
  largest : (r : Result End Refusal) → ((k : ℕ) → said_of r ≡ refused k → ⊥) → QuickCloses n limit g r h → Closing allen n (cell n g) (cell n h) → Largest n g h
  largest r nr q c = go (ran n limit g r h q)
    where
      go : Ran n limit g r h → Largest n g h
      go (by_rule z s w) = record { none = z; long = ap length w ∙ rule_long n g (accepted-grid n g z) limit; closing = c }
      go (by_refusal p s w) = absurd (nr (grid_refusal n g) s)

  -- a refusal is the one that is due
  refusing_as : (x : Refusal) → Ran n limit g (Err x) h → EndsAs n g (Kind.refuses (number_of x)) h
  refusing_as x (by_rule z s w) = absurd (no_refusal (quick_rule n limit g) s)
    where
      no_refusal : (e : Ended) → refused (number_of x) ≡ answers (said_by e) → ⊥
      no_refusal (contradiction t) s = let y : ◌≡◌ {A = ℕ} 0 1 = cc in omega arith
      no_refusal (closed t k) s = let y : ◌≡◌ {A = ℕ} 0 1 = cc in omega arith
      no_refusal (paused t k) s = let y : ◌≡◌ {A = ℕ} 0 1 = cc in omega arith
  refusing_as x (by_refusal p s w) =
      let same : grid_refusal n g ≡ number_of x = cc in
      subst (λ (k : ℕ). EndsAs n g (Kind.refuses k) h) same (subst (EndsAs n g (Kind.refuses (grid_refusal n g))) (sym w) (refusing p))

  pub quick_ends : (r : Result End Refusal) → QuickCloses n limit g r h → ((t : ℕ) → r ≡ Ok (Paused t) → ⊥) → EndsAs n g (quick_kind r) h
  quick_ends (Ok (Closed t)) q np =
      let c = q.closed t refl in
      full (largest (Ok (Closed t)) (λ k s. let z : ◌≡◌ {A = ℕ} 0 1 = cc in omega arith) q c.largest) c.full
  quick_ends (Ok (Contradiction t)) q np =
      let c = q.contradiction t refl in
      emptied (largest (Ok (Contradiction t)) (λ k s. let z : ◌≡◌ {A = ℕ} 0 1 = cc in omega arith) q c.largest) c.empty
  quick_ends (Ok (Paused t)) q np = absurd (np t refl)
  quick_ends (Err x) q np = refusing_as x (ran n limit g (Err x) h q)

pub limits_agree : (n limit limit' : ℕ) (g : List ℕ) (r s : Result End Refusal) (h k : List ℕ) → QuickCloses n limit g r h → QuickCloses n limit' g s k
    → ((t : ℕ) → r ≡ Ok (Paused t) → ⊥) → ((t : ℕ) → s ≡ Ok (Paused t) → ⊥) → (quick_kind r ≡ quick_kind s) × (h ≡ k)
limits_agree n limit limit' g r s h k p q np nq = ends_unique n g (quick_ends n limit g h r p np) (quick_ends n limit' g k s q nq)
