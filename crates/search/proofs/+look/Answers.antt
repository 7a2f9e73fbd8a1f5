-- The relations left at a cell, from the grid as it stood, come to the whole; the call for the next cell has fewer cells left.
use mathlib.Core.Path.{refl, sym, ap, ◌∙◌}
use Prim.Native.Nat.{◌*◌}
use native.Mathlib.Omega.{arith}
use borrow.Author.Rules.{rules}
use lib.ListN.{length, take}
use Rattle.search.proofs.RuleLaws.{from_end, from_spent, from_past, after_next, square}
use Rattle.search.proofs.LookLaws.{there-is, triable, next_searched, look-start, look-end, turn-emptied, turn-none, turn-kept, shows_gave_up, shows_none, shows_passed, shows_next, step-at, tries_left, stands_in}
use Rattle.search.proofs.+look.Goals as goal

pub returns-then-at-eq0-clause-shows : goal.returns-then-at-eq0-clause-shows
returns-then-at-eq0-clause-shows t c = shows_passed _ _ _ _ _ _ _ _ c.pass_decided-at.ensures (look-end _ _ _ _ _ _ _ _ (c.pass_decided-at.ensures.stands.at.count ∙ c.if-at-eq0.true) c.pass_decided-at.ensures.stands.within c.settled.ensures)

pub loop-r-init : goal.loop-r-init
loop-r-init t c =
    let w = stands_in _ _ _ c.pass_decided-at.ensures.stands (omega (arith, c.if-at-eq0.false)) in
    (c.pass_decided-at.ensures.stands.within, refl, look-start _ _ _ _ _ _ _ (after_next _ _ _ c.pass_decided-at.ensures.stands.at.upper w.1).pairs, c.requires.0, search rules)

pub loop-r-preserved-then-not-has : goal.loop-r-preserved-then-not-has
loop-r-preserved-then-not-has t c = (
  c.loop-r.invariant.0,
  c.loop-r.invariant.1,
  sym (from_past _ _ _ _ _ _ _ _ _ c.loop-r-test.true (there-is _ _ _ _ _ _ _ _ c.get.ensures c.has.ensures c.if-not-has.true) refl) ∙ c.loop-r.invariant.2,
  c.loop-r.invariant.3,
  c.loop-r.invariant.4,
)

pub returns-then-tries-allowance-clause-shows : goal.returns-then-tries-allowance-clause-shows
returns-then-tries-allowance-clause-shows t c =
    let there = there-is _ _ _ _ _ _ _ _ c.get.ensures c.has.ensures c.if-not-has.false in
    shows_passed _ _ _ _ _ _ _ _ c.pass_decided-at.ensures
    (shows_gave_up _ _ _ _ _ _ _ c.loop-r.invariant.1 c.loop-r.invariant.0 refl (sym c.loop-r.invariant.2 ∙ from_spent _ _ _ _ _ _ _ _ c.loop-r-test.true there c.if-tries-allowance.true) refl)

pub attempt-requires : goal.attempt-requires
attempt-requires t c = (
  c.loop-r.invariant.3,
  triable _ _ _ _ _ c.requires.2 c.pass_decided-at.ensures.stands (omega (arith, c.if-at-eq0.false)) c.loop-r-test.true (there-is _ _ _ _ _ _ _ _ c.get.ensures c.has.ensures c.if-not-has.false),
  record { few = c.requires.1.at.few; fits = omega (arith, c.loop-r.invariant.4, (square _ c.requires.1.at.few).1) },
)

pub loop-r-preserved-in_default : goal.loop-r-preserved-in_default
loop-r-preserved-in_default t c =
    let there = there-is _ _ _ _ _ _ _ _ c.get.ensures c.has.ensures c.if-not-has.false in (
      omega (arith, tries_left _ _ c.loop-r.invariant.0 c.if-tries-allowance.false),
      c.loop-r.invariant.1,
      sym (turn-emptied _ _ _ _ _ (take (c.args.n * c.args.n) c.attempt.new.cut) _ _ c.attempt.result c.loop-r-test.true there c.if-tries-allowance.false c.attempt.ensures.tried (search rules)) ∙ c.loop-r.invariant.2,
      c.attempt.ensures.idle,
      c.attempt.auto.cut ∙ c.loop-r.invariant.4,
    )

pub look-below-requires : goal.look-below-requires
look-below-requires t c =
    let w = stands_in _ _ _ c.pass_decided-at.ensures.stands (omega (arith, c.if-at-eq0.false)) in
    let there = there-is _ _ _ _ _ _ _ _ c.get.ensures c.has.ensures c.if-not-has.false in (
      omega (arith, c.if-at-eq0.false, c.pass_decided-at.ensures.fewer, c.next.ensures.left),
      (
        c.attempt.ensures.idle,
        record { at = step-at _ _ _ _ c.next.ensures c.pass_decided-at.ensures.stands.at w.1; within = omega (arith, c.next.ensures.tries, tries_left _ _ c.loop-r.invariant.0 c.if-tries-allowance.false) },
        next_searched _ _ _ _ _ _ _ _ (triable _ _ _ _ _ c.requires.2 c.pass_decided-at.ensures.stands (omega (arith, c.if-at-eq0.false)) c.loop-r-test.true there) c.attempt.ensures.tried c.in-Closed.is,
        ap length c.loop-r.invariant.1 ∙ c.requires.3,
      ),
    )

pub returns-in_default-outcome : goal.returns-in_default-outcome
returns-in_default-outcome t c =
    let there = there-is _ _ _ _ _ _ _ _ c.get.ensures c.has.ensures c.if-not-has.false in
    let next = shows_next _ _ _ _ c.next.ensures _ _ _ _ _ c.look-below.ensures.shows in record {
      shows = shows_passed _ _ _ _ _ _ _ _ c.pass_decided-at.ensures
          (turn-kept _ _ _ _ _ _ _ _ _ c.loop-r-test.true there c.if-tries-allowance.false c.attempt.ensures.tried _ _ _ _ c.in-Closed.is next (search rules) _ _ c.loop-r.invariant.2 c.loop-r.invariant.1);
      idle = c.look-below.ensures.idle;
    }

pub loop-r-preserved : goal.loop-r-preserved
loop-r-preserved t c =
    let there = there-is _ _ _ _ _ _ _ _ c.get.ensures c.has.ensures c.if-not-has.false in
    let below = shows_next _ _ _ _ c.next.ensures _ _ _ _ _ c.look-below.ensures.shows in
    let turn = turn-none _ _ _ _ _ _ _ _ _ c.loop-r-test.true there c.if-tries-allowance.false c.attempt.ensures.tried _ _ _ _ c.in-Closed.is below c.in-None.is _ refl in (
      c.look-below.ensures.shows.within,
      turn.1 ∙ c.loop-r.invariant.1,
      sym turn.0 ∙ c.loop-r.invariant.2,
      c.look-below.ensures.idle,
      c.attempt.auto.cut ∙ c.loop-r.invariant.4,
    )

pub returns-clause-shows : goal.returns-clause-shows
returns-clause-shows t c =
    shows_passed _ _ _ _ _ _ _ _ c.pass_decided-at.ensures
    (shows_none _ _ _ _ _ _ _ c.loop-r.invariant.1 c.loop-r.invariant.0 refl (sym c.loop-r.invariant.2 ∙ from_end _ _ _ _ _ _ _ _ (omega arith)) refl)
