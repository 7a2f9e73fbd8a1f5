-- What the sweeps leave is the largest closed grid inside; and the public statement.
use mathlib.Core.Path.{◌≡◌, refl, ap, sym, ◌∙◌, subst}
use mathlib.Core.Logic.{inl, inr}
use mathlib.Core.Bool.{Bool, true, false}
use mathlib.Core.List.{List}
use Prim.Native.Nat.{ℕ, ◌*◌, ◌<◌}
use native.Mathlib.Omega.{arith}
use lib.ListN.{length, replicate}
use Rattle.refusal.specs.Numbers.{number_of}
use Rattle.refusal.specs.declared.Refusal.{Refusal}
use Rattle.refusal.proofs.NumberLaws.{number_pos, number_unique}
use Rattle.grid.specs.Cells.{cell, some_empty, EmptyCell}
use Rattle.grid.specs.Accepted.{Accepted, grid_refusal}
use Rattle.grid.proofs.CellLaws.{cell_cleared, cleared_empty}
use Rattle.grid.proofs.AcceptedLaws.{accepted-grid}
use Rattle.theory.specs.Allen.{allen}
use Rattle.theory.specs.Closing.{Closing}
use Rattle.theory.proofs.ClosingLaws.{closing_same}
use Rattle.theory.proofs.EndLaws.{Kind, contradicts, Largest, EndsAs, refusing, full, emptied, ends_unique}
use Rattle.theory.proofs.KeepLaws.{Good}
use Rattle.theory.proofs.PlainLaws.{dead_closing, cuts_good, still-closed}
use Rattle.theory.proofs.FairLaws.{fair_good}
use Rattle.theory.proofs.QuickRight.{empty_right}
use Rattle.theory.proofs.GivenLaws.{fine, fair, hole}
use Rattle.theory.proofs.AllenLaws.{lawful, eq_lawful}
use Rattle.plain.specs.Answers.{PlainCloses}
use Rattle.plain.specs.Routes.{Empties, Sweeps}
use Rattle.plain.specs.declared.End.{End}
use Rattle.plain.specs.declared.End.TheVariants.{Closed, Contradiction}
use Rattle.std.proofs.Common.{Result, Ok, Err}

module _ (n : ℕ) (g : List ℕ) (a : Accepted n g) where
  good : some_empty g ≡ false → Good allen n g g
  good e = fair_good allen lawful n g (fair n g a e)

  none-at-start : some_empty g ≡ true → Closing allen n (cell n g) (λ i j. 0)
  none-at-start e = let h = hole n g a e in empty_right allen lawful n g (fine n g a) h.0 h.1 h.2 h.3 h.4

  -- a cell empty at the start, or a route that leaves nothing: the closing is empty throughout
  none_left : Empties n g → Closing allen n (cell n g) (λ i j. 0)
  none_left (inl e) = none-at-start e
  none_left (inr d) = go (some_empty g) refl
    where
      go : (b : Bool) → some_empty g ≡ b → Closing allen n (cell n g) (λ i j. 0)
      go true e = none-at-start e
      go false e = dead_closing allen lawful n g (good e) d

  some_event : Empties n g → 0 < n
  some_event (inl e) = let h = hole n g a e in omega (arith, h.2)
  some_event (inr d) = omega (arith, d.route.ha)

  module _ (g' : List ℕ) (e : grid_refusal n g ≡ 0) (l : length g' ≡ length g) where
    cleared : Sweeps n g Contradiction g' → PlainCloses n g (Ok Contradiction) g'
    cleared w =
        record {
          refusal = sym e;
          kept = λ k. absurd (omega (arith, k, e));
          long = l;
          largest = λ z.
              subst (λ (x : List ℕ). Closing allen n (cell n g) (cell n x)) (sym w.1)
              (closing_same allen lawful n (cell n g) (λ i j. 0) (cell n (replicate (n * n) 0)) (λ i j hi hj. sym (cell_cleared n (n * n) i j))
              (none_left w.0));
          closed = λ q h. cc;
          contradiction = λ q.
              (subst (EmptyCell n) (sym w.1) (cleared_empty n (some_event w.0)), w.1);
        }

    swept : Sweeps n g Closed g' → PlainCloses n g (Ok Closed) g'
    swept w =
        let G : Good allen n g g' = cuts_good allen lawful n g g (good w.0) w.1 in
        record {
          refusal = sym e;
          kept = λ k. absurd (omega (arith, k, e));
          long = l;
          largest = λ z. still-closed allen lawful n g eq_lawful g' G w.2;
          closed = λ q h. G.full h.0 h.1 h.2 h.3 h.4;
          contradiction = λ q. cc;
        }

    pub closes : (r : End) → Sweeps n g r g' → PlainCloses n g (Ok r) g'
    closes Closed w = swept w
    closes Contradiction w = cleared w

pub refuses : (n : ℕ) (g : List ℕ) (r : Refusal) → number_of r ≡ grid_refusal n g → PlainCloses n g (Err r) g
refuses n g r e =
    record {
      refusal = e;
      kept = λ k. refl;
      long = refl;
      largest = λ z. let p = number_pos r in absurd (omega arith);
      closed = λ q. cc;
      contradiction = λ q. cc;
    }

-- ---- the kind of the answer and the cells are those of the given grid's closing

abbrev pub plain_kind : Result End Refusal → Kind
plain_kind (Ok Closed) = Kind.closes
plain_kind (Ok Contradiction) = contradicts
plain_kind (Err r) = Kind.refuses (number_of r)

module _ (n : ℕ) (g k : List ℕ) where
  largest : (s : Result End Refusal) → grid_refusal n g ≡ 0 → PlainCloses n g s k → Largest n g k
  largest s e p = record { none = e; long = p.long ∙ (accepted-grid n g e).long; closing = p.largest e }

  pub plain_ends : (s : Result End Refusal) → PlainCloses n g s k → EndsAs n g (plain_kind s) k
  plain_ends (Ok Closed) p = full (largest (Ok Closed) (sym p.refusal) p) (p.closed refl)
  plain_ends (Ok Contradiction) p = emptied (largest (Ok Contradiction) (sym p.refusal) p) (p.contradiction refl).0
  plain_ends (Err r) p =
      let due : 0 < grid_refusal n g = omega (arith, p.refusal, number_pos r) in
      subst (λ (x : ℕ). EndsAs n g (Kind.refuses x) k) (sym p.refusal)
      (subst (EndsAs n g (Kind.refuses (grid_refusal n g))) (sym (p.kept due)) (refusing due))

-- ---- any two outcomes that the statement allows are equal

kind_unique : (r s : Result End Refusal) → plain_kind r ≡ plain_kind s → r ≡ s
kind_unique (Ok Closed) (Ok Closed) e = refl
kind_unique (Ok Contradiction) (Ok Contradiction) e = refl
kind_unique (Err r) (Err s) e = ap Err (number_unique r s (cc))
kind_unique (Ok Closed) (Ok Contradiction) e = cc
kind_unique (Ok Closed) (Err s) e = cc
kind_unique (Ok Contradiction) (Ok Closed) e = cc
kind_unique (Ok Contradiction) (Err s) e = cc
kind_unique (Err r) (Ok Closed) e = cc
kind_unique (Err r) (Ok Contradiction) e = cc

pub plain_unique : (n : ℕ) (g : List ℕ) (r s : Result End Refusal) (h k : List ℕ) → PlainCloses n g r h → PlainCloses n g s k → (r ≡ s) × (h ≡ k)
plain_unique n g r s h k p q =
    let u = ends_unique n g (plain_ends n g h r p) (plain_ends n g k s q) in
    (kind_unique r s u.0, u.1)
