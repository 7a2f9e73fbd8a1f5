-- From the end of a run to the answer and the cells.
use mathlib.Core.Path.{◌≡◌, refl, ap, sym, ◌∙◌, subst}
use mathlib.Core.Bool.{Bool, true, false}
use mathlib.Core.List.{List}
use Prim.Native.Nat.{ℕ, ◌*◌, ◌≤◌, ◌<◌}
use native.Mathlib.Decide.{ℕ_discrete}
use native.Mathlib.Omega.{arith}
use borrow.Author.Tests.{eq-eqb, ne_eqb}
use lib.Dec.{eqb}
use lib.ListN.{replicate}
use Rattle.std.specs.Prelude.{Result, Ok, Err}
use Rattle.refusal.specs.Answered.{Answered, refused, answers, said_of}
use Rattle.refusal.specs.Numbers.{number_of}
use Rattle.refusal.specs.declared.Refusal.{Refusal}
use Rattle.refusal.proofs.NumberLaws.{number_pos}
use Rattle.refusal.proofs.ResultLaws.{said_unique}
use Rattle.grid.specs.Cells.{some_empty}
use Rattle.grid.specs.Accepted.{Accepted, grid_refusal}
use Rattle.grid.proofs.AcceptedLaws.{accepted-grid}
use Rattle.theory.proofs.QuickLaws.{takes_of}
use Rattle.theory.specs.Allen.{allen}
use Rattle.theory.specs.Line.{all_pairs}
use Rattle.theory.specs.Quick.{Ended, contradiction, closed, paused, run}
use Rattle.takes.specs.Steps.{ended}
use Rattle.takes.specs.declared.End.{End}
use Rattle.takes.specs.declared.End.TheVariants.{Closed, Contradiction, Paused}
use Rattle.quick.specs.Answers.{said_by, cells_by, quick_rule, ClosedInside, EmptyInside, QuickCloses}
use Rattle.quick.specs.Steps.{Shows}
use Rattle.quick.proofs.RuleLaws.{TakesFew, rule_run, rule_closed, rule_contradiction, rule_few, rule_paused}

-- the run from the list of all pairs is the rule's
pub rule_ran : (n limit : ℕ) (g : List ℕ) (b : Bool) → b ≡ some_empty g → b ≡ false → (q : List ℕ) → q ≡ all_pairs n → (r r' : End) (g' : List ℕ)
    → ended r g' ≡ run allen n limit 0 g q → r ≡ r' → quick_rule n limit g ≡ ended r' g'
rule_ran n limit g b s f q e r r' g' p k =
    rule_run n limit g (sym s ∙ f) ∙ ap (run allen n limit 0 g) (sym e) ∙ sym p ∙ ap (λ (x : End). ended x g') k

-- a contradiction leaves zeros
pub shows_contradiction : (n t : ℕ) (r : End) (g : List ℕ) (e : Ended) → e ≡ contradiction t → r ≡ Contradiction t → g ≡ replicate (n * n) 0 → Shows n e r g
shows_contradiction n t r g e q k h = record { answer = k ∙ sym (ap said_by q); cells = h ∙ sym (ap (cells_by n) q) }

-- any other end leaves its cells
pub shows_ended : (n : ℕ) (r : End) (g : List ℕ) (e : Ended) → e ≡ ended r g → ((t : ℕ) → r ≡ Contradiction t → ⊥) → Shows n e r g
shows_ended n r g e q other = record { answer = said r ∙ sym (ap said_by q); cells = cells r other ∙ sym (ap (cells_by n) q) }
  where
    said : (x : End) → x ≡ said_by (ended x g)
    said (Contradiction t) = refl
    said (Closed t) = refl
    said (Paused t) = refl

    cells : (x : End) → ((t : ℕ) → x ≡ Contradiction t → ⊥) → g ≡ cells_by n (ended x g)
    cells (Contradiction t) w = absurd (w t refl)
    cells (Closed t) w = refl
    cells (Paused t) w = refl

-- ---- the public statement

pub refuses : (n limit : ℕ) (g : List ℕ) (r : Refusal) → number_of r ≡ grid_refusal n g → QuickCloses n limit g (Err r) g
refuses n limit g r e =
    let k = number_pos r in
    let no : eqb (grid_refusal n g) 0 ≡ false = ne_eqb (grid_refusal n g) 0 (λ z. omega arith) in
    record {
      answer = simp (no, ← e);
      cells = simp no;
      closed = λ t q. let z : ◌≡◌ {A = ℕ} 0 1 = cc in absurd (omega arith);
      contradiction = λ t q. let z : ◌≡◌ {A = ℕ} 0 1 = cc in absurd (omega arith);
    }

module _ (n limit : ℕ) (g : List ℕ) (a : Accepted n g) (r : End) (g' : List ℕ) (s : Shows n (quick_rule n limit g) r g') where
  -- an answer "closed" is that of a run that closed
  shown_closed : (t : ℕ) → r ≡ Closed t → ClosedInside n g g'
  shown_closed t q = go (quick_rule n limit g) refl (sym s.answer ∙ q) s.cells
    where
      go : (e : Ended) → quick_rule n limit g ≡ e → said_by e ≡ Closed t → g' ≡ cells_by n e → ClosedInside n g g'
      go (contradiction u) k z w = absurd (let y : ◌≡◌ {A = ℕ} 0 1 = cc in omega arith)
      go (closed u h) k z w = subst (ClosedInside n g) (sym w) (rule_closed n g a limit u h k)
      go (paused u h) k z w = absurd (let y : ◌≡◌ {A = ℕ} 0 1 = cc in omega arith)

  shown_contradiction : (t : ℕ) → r ≡ Contradiction t → EmptyInside n g g'
  shown_contradiction t q = go (quick_rule n limit g) refl (sym s.answer ∙ q) s.cells
    where
      go : (e : Ended) → quick_rule n limit g ≡ e → said_by e ≡ Contradiction t → g' ≡ cells_by n e → EmptyInside n g g'
      go (contradiction u) k z w = subst (EmptyInside n g) (sym w) (rule_contradiction n g a limit u k)
      go (closed u h) k z w = absurd (let y : ◌≡◌ {A = ℕ} 0 1 = cc in omega arith)
      go (paused u h) k z w = absurd (let y : ◌≡◌ {A = ℕ} 0 1 = cc in omega arith)

pub closes : (n limit : ℕ) (g : List ℕ) (r : End) (g' : List ℕ) → grid_refusal n g ≡ 0 → Accepted n g → Shows n (quick_rule n limit g) r g'
    → QuickCloses n limit g (Ok r) g'
closes n limit g r g' e a s =
    let yes' : eqb (grid_refusal n g) 0 ≡ true = eq-eqb (grid_refusal n g) 0 e in
    record {
      answer = ap answers s.answer ∙ simp yes';
      cells = s.cells ∙ simp yes';
      closed = λ t q. shown_closed n limit g a r g' s t cc;
      contradiction = λ t q. shown_contradiction n limit g a r g' s t cc;
    }

-- ---- any two outcomes that the statement allows are equal

pub quick_unique : (n limit : ℕ) (g : List ℕ) (r s : Result End Refusal) (h k : List ℕ) → QuickCloses n limit g r h → QuickCloses n limit g s k → (r ≡ s) × (h ≡ k)
quick_unique n limit g r s h k p q = (said_unique r s (p.answer ∙ sym q.answer), p.cells ∙ sym q.cells)

-- ---- what the statement says of the rule

-- an answer is the rule's on a grid without a refusal, or a refusal
pub data Ran (n limit : ℕ) (g : List ℕ) (r : Result End Refusal) (g' : List ℕ) : Type 0 where
  by_rule : grid_refusal n g ≡ 0 → said_of r ≡ answers (said_by (quick_rule n limit g)) → g' ≡ cells_by n (quick_rule n limit g) → Ran n limit g r g'
  by_refusal : 0 < grid_refusal n g → said_of r ≡ refused (grid_refusal n g) → g' ≡ g → Ran n limit g r g'

pub ran : (n limit : ℕ) (g : List ℕ) (r : Result End Refusal) (g' : List ℕ) → QuickCloses n limit g r g' → Ran n limit g r g'
ran n limit g r g' q = go (ℕ_discrete (grid_refusal n g) 0)
  where
    go : Dec (grid_refusal n g ≡ 0) → Ran n limit g r g'
    go (yes z) = let e = eq-eqb (grid_refusal n g) 0 z in by_rule z (q.answer ∙ simp e) (q.cells ∙ simp e)
    go (no nz) = let e = ne_eqb (grid_refusal n g) 0 nz in by_refusal (omega arith) (q.answer ∙ simp e) (q.cells ∙ simp e)

-- ---- takes

abbrev takes_said : Answered End → ℕ
takes_said (answers (Closed t)) = t
takes_said (answers (Contradiction t)) = t
takes_said (answers (Paused t)) = t
takes_said (refused k) = 0

takes_said_lem : (e : Ended) → takes_said (answers (said_by e)) ≡ takes_of e
takes_said_lem (contradiction t) = refl
takes_said_lem (closed t h) = refl
takes_said_lem (paused t h) = refl

module _ (n limit : ℕ) (g : List ℕ) (t : ℕ) (g' : List ℕ) where
  takes-few : (r : Result End Refusal) → takes_said (said_of r) ≡ t → ((k : ℕ) → said_of r ≡ refused k → ⊥) → QuickCloses n limit g r g' → TakesFew n limit t
  takes-few r e nr q = go (ran n limit g r g' q)
    where
      go : Ran n limit g r g' → TakesFew n limit t
      go (by_rule z s w) =
          subst (TakesFew n limit) (sym (takes_said_lem (quick_rule n limit g)) ∙ sym (ap takes_said s) ∙ e) (rule_few n g (accepted-grid n g z) limit)
      go (by_refusal p s w) = absurd (nr (grid_refusal n g) s)

  -- the takes that an answer reports are few
  pub closed-takes : QuickCloses n limit g (Ok (Closed t)) g' → TakesFew n limit t
  closed-takes = takes-few (Ok (Closed t)) refl (λ k s. let z : ◌≡◌ {A = ℕ} 0 1 = cc in omega arith)

  pub contradiction-takes : QuickCloses n limit g (Ok (Contradiction t)) g' → TakesFew n limit t
  contradiction-takes = takes-few (Ok (Contradiction t)) refl (λ k s. let z : ◌≡◌ {A = ℕ} 0 1 = cc in omega arith)

  pub paused-takes : QuickCloses n limit g (Ok (Paused t)) g' → TakesFew n limit t
  paused-takes = takes-few (Ok (Paused t)) refl (λ k s. let z : ◌≡◌ {A = ℕ} 0 1 = cc in omega arith)

  -- paused with exactly the limit, and the limit 6,448 never pauses
  pub paused_limit : QuickCloses n limit g (Ok (Paused t)) g' → (t ≡ limit) × (limit < 6448)
  paused_limit q = go (ran n limit g (Ok (Paused t)) g' q)
    where
      by : (e : Ended) → quick_rule n limit g ≡ e → answers (Paused t) ≡ answers (said_by e) → grid_refusal n g ≡ 0 → (t ≡ limit) × (limit < 6448)
      by (contradiction u) p s z = absurd (let y : ◌≡◌ {A = ℕ} 0 1 = cc in omega arith)
      by (closed u h) p s z = absurd (let y : ◌≡◌ {A = ℕ} 0 1 = cc in omega arith)
      by (paused u h) p s z =
          let same : t ≡ u = cc in
          let w = rule_paused n g (accepted-grid n g z) limit u h p in
          (same ∙ w.0, w.1)

      go : Ran n limit g (Ok (Paused t)) g' → (t ≡ limit) × (limit < 6448)
      go (by_rule z s w) = by (quick_rule n limit g) refl s z
      go (by_refusal p s w) = absurd (let y : ◌≡◌ {A = ℕ} 0 1 = cc in omega arith)

pub quick_never_pauses : (n limit : ℕ) (g : List ℕ) (t : ℕ) (h : List ℕ) → 6448 ≤ limit → QuickCloses n limit g (Ok (Paused t)) h → ⊥
quick_never_pauses n limit g t h l q = omega (arith, l, (paused_limit n limit g t h q).1)
