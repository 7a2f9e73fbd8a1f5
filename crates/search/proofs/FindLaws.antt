-- From the code's answers to the public statement.
use mathlib.Core.Path.{◌≡◌, refl, sym, ap, subst, ◌∙◌}
use mathlib.Core.Bool.{Bool, true, false, cond}
use mathlib.Core.List.{List}
use Prim.Native.Nat.{ℕ, ◌*◌, ◌≤◌}
use native.Mathlib.Omega.{arith}
use borrow.Author.Tests.{eq-eqb, ne_eqb}
use lib.Dec.{eqb}
use lib.IntN.{ℤ}
use lib.ListN.{length}
use Rattle.refusal.specs.Answered.{Answered, refused, answers, said_of}
use Rattle.refusal.specs.Numbers.{number_of}
use Rattle.refusal.specs.declared.Refusal.{Refusal}
use Rattle.refusal.proofs.NumberLaws.{number_pos}
use Rattle.refusal.proofs.ResultLaws.{said_unique}
use Rattle.refusal.proofs.AnsweredLaws.{first_next, first-none}
use Rattle.grid.specs.Cells.{some_empty}
use Rattle.grid.specs.Accepted.{Accepted, cell_refusal}
use Rattle.grid.proofs.AcceptedLaws.{accepted, never-refused, size-fine}
use Rattle.theory.specs.Allen.{allen}
use Rattle.theory.specs.Search.{Tried, emptied, closed, closes_to, Found, placed, none, gave_up, pairs_from}
use Rattle.theory.specs.Tried.{tried_by}
use Rattle.takes.specs.Steps.{ended}
use Rattle.takes.specs.declared.End.{End}
use Rattle.takes.specs.declared.End.TheVariants.{Closed}
use Rattle.theory.proofs.SearchLaws.{tries_of, tries-within}
use Rattle.placing.specs.Settling.{settles}
use Rattle.placing.specs.Checking.{length_refusal}
use Rattle.placing.proofs.CheckLaws.{lengths, length-right}
use Rattle.search.specs.Rule.{there_at, try_at, search_at, search_of, from_closed}
use Rattle.search.specs.Answers.{search_refusal, said_by, room_by, Looks}
use Rattle.quick.specs.Steps.{ClosedGrid}
use Rattle.search.specs.Steps.{Shows}
use Rattle.search.specs.declared.Looked.{Looked}
use Rattle.std.proofs.Common.{Result, Ok, Err}
use Rattle.search.proofs.TryRight.{whole_searched}
use Rattle.search.proofs.LookLaws.{a-grid}
use Rattle.search.proofs.SearchRight.{first-emptied, first-whole, means}

-- ---- the first closing, and the search from it

module _ (n allowance : ℕ) (g : List ℕ) where
  pub search_empty : Accepted n g → some_empty g ≡ true → search_of n allowance g ≡ none 0
  unfolding search_of
  search_empty a e = ap (from_closed n allowance) (first-emptied n g a e)

  pub search_from_lem : (t : Tried) → t ≡ closes_to allen n g → search_of n allowance g ≡ from_closed n allowance t
  unfolding search_of
  search_from_lem t q = ap (from_closed n allowance) (sym q)

-- the grid that the first closing leaves
pub first_searched : (n : ℕ) (g : List ℕ) → Accepted n g → (e : End) (v : ℕ) (h : List ℕ) → tried_by (ended e h) ≡ closes_to allen n g → e ≡ Closed v → ClosedGrid n h
first_searched n g a e v h q is = whole_searched n h (first-whole n g a h (sym q ∙ a-grid e v h is))

-- ---- the public statement

pub refuses : (n a : ℕ) (g : List ℕ) (room : List ℤ) (r : Refusal) → number_of r ≡ search_refusal n g (length room) → Looks n a g room (Err r) room
refuses n a g room r e =
    let k = number_pos r in
    let off : eqb (search_refusal n g (length room)) 0 ≡ false = ne_eqb (search_refusal n g (length room)) 0 (λ z. omega arith) in
    record { answer = simp (off, ← e); room_after = simp off; means = tt }

-- what is shown of an accepted grid and a room of its length
module _ (n a : ℕ) (g : List ℕ) (room : List ℤ) (acc : Accepted n g) (long : length room ≡ 2 * n) where
  never_due : search_refusal n g (length room) ≡ 0
  unfolding search_refusal
  never_due =
      let w = never-refused n g acc in
      first_next (length_refusal n g (length room)) (cell_refusal n g) (length-right n g (length room) w.0 long) ∙ w.1

  on : eqb (search_refusal n g (length room)) 0 ≡ true
  on = eq-eqb (search_refusal n g (length room)) 0 never_due

  pub looks : (e : Found) (room' : List ℤ) (l : Looked) → search_of n a g ≡ e → Shows n a e room l room' → Looks n a g room (Ok l) room'
  looks e room' l q s =
      let said : said_of (Ok l) ≡ answers (said_by (search_of n a g)) = ap answers (s.answer ∙ sym (ap said_by q)) in
      let after : room' ≡ room_by n (search_of n a g) room = s.room_after ∙ sym (ap (λ (x : Found). room_by n x room) q) in
      record { answer = said ∙ simp on; room_after = after ∙ simp on; means = means n g acc a (search_of n a g) refl (Ok l) room room' said after }

  -- and what such a statement says
  module _ (room' : List ℤ) (ans : Result Looked Refusal) (l : Looks n a g room ans room') where
    pub answer-is : said_of ans ≡ answers (said_by (search_of n a g))
    answer-is = l.answer ∙ simp on

    pub room-is : room' ≡ room_by n (search_of n a g) room
    room-is = l.room_after ∙ simp on

-- no refusal: the grid is accepted, and the room has 2 * n numbers
pub record Taken (n : ℕ) (g : List ℕ) (m : ℕ) : Type 0 where
  pub grid : Accepted n g
  pub room : m ≡ 2 * n

pub taken : (n : ℕ) (g : List ℕ) (m : ℕ) → search_refusal n g m ≡ 0 → Taken n g m
unfolding search_refusal
taken n g m e =
    let w = first-none (length_refusal n g m) (cell_refusal n g) e in
    let l = lengths n g m w.0 in
    record { grid = accepted n g (size-fine n g l.few l.long) w.1; room = l.numbers }

-- ---- any two outcomes that the statement allows are equal

pub looks_unique : (n a : ℕ) (g : List ℕ) (room h k : List ℤ) (r s : Result Looked Refusal) → Looks n a g room r h → Looks n a g room s k → (r ≡ s) × (h ≡ k)
looks_unique n a g room h k r s p q = (said_unique r s (p.answer ∙ sym q.answer), p.room_after ∙ sym q.room_after)

-- ---- the tries are never more than the allowance

-- the tries that an answer reports
abbrev reported : Answered Looked → ℕ
reported (answers l) = l.tries
reported (refused k) = 0

pub search_within : (n a : ℕ) (g : List ℕ) → tries_of (search_of n a g) ≤ a
unfolding search_of search_at
search_within n a g = go (closes_to allen n g)
  where
    go : (o : Tried) → tries_of (from_closed n a o) ≤ a
    go emptied = omega arith
    go (closed h) = tries-within (there_at n) (try_at n) (settles n) a (pairs_from n 0 1) h 0 (omega arith)

reported_within : (n a : ℕ) (g : List ℕ) → reported (answers (said_by (search_of n a g))) ≤ a
reported_within n a g = subst (λ (t : ℕ). t ≤ a) (same (search_of n a g)) (search_within n a g)
  where
    same : (e : Found) → tries_of e ≡ reported (answers (said_by e))
    same (placed t h) = refl
    same (none t) = refl
    same (gave_up t) = refl

pub looks_within : (n a : ℕ) (g : List ℕ) (room room' : List ℤ) (ans : Result Looked Refusal) → Looks n a g room ans room' → (l : Looked) → ans ≡ Ok l → l.tries ≤ a
looks_within n a g room room' ans looks l e =
    subst (λ (u : ℕ). u ≤ a) (ap (λ (x : Result Looked Refusal). reported (said_of x)) e)
    (subst (λ (s : Answered Looked). reported s ≤ a) (sym looks.answer) (by (eqb (search_refusal n g (length room)) 0)))
  where
    by : (b : Bool) → reported (cond b (answers (said_by (search_of n a g))) (refused (search_refusal n g (length room)))) ≤ a
    by true = reported_within n a g
    by false = omega arith
