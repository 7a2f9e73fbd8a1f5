-- The grid is closed first, and the search goes on from there.
use mathlib.Core.Path.{refl, sym, ap, ◌∙◌}
use Prim.Native.Nat.{◌*◌}
use lib.ListN.{take}
use Rattle.theory.specs.Search.{none}
use Rattle.theory.proofs.GivenLaws.{fair}
use Rattle.search.specs.Rule.{from_closed}
use Rattle.search.proofs.RuleLaws.{square, at_first}
use Rattle.search.proofs.LookLaws.{no_grid, a-grid, shows_none}
use Rattle.search.proofs.FindLaws.{search_empty, search_from_lem, first_searched, looks}
use native.Mathlib.Omega.{arith}
use borrow.Author.Rules.{rules}
use Rattle.search.proofs.search_accepted.Goals as goal

pub returns-then-some_empty : goal.returns-then-some_empty
returns-then-some_empty c =
    looks _ _ _ _ c.requires.0 c.requires.1 (none 0) _ _ (search_empty _ _ _ c.requires.0 (sym c.some_empty.ensures ∙ c.if-some_empty.true))
    (shows_none _ _ 0 (none 0) _ _ _ refl (omega arith) refl refl refl)

pub close_copy-requires : goal.close_copy-requires
close_copy-requires c = (search rules, c.requires.0.long, fair _ _ c.requires.0 (sym c.some_empty.ensures ∙ c.if-some_empty.false), record { few = c.requires.0.few; fits = (square _ c.requires.0.few).1 })

pub returns-in_default : goal.returns-in_default
returns-in_default c =
    looks _ _ _ _ c.requires.0 c.requires.1 (none 0) _ _
    (search_from_lem _ _ _ _ c.close_copy.ensures.closed
    ∙ ap (from_closed _ _) (no_grid c.close_copy.result (take (c.args.n * c.args.n) c.close_copy.new.work) (search rules)))
    (shows_none _ _ 0 (none 0) _ _ _ refl (omega arith) refl refl refl)

pub look-requires : goal.look-requires
look-requires c = (
  c.close_copy.ensures.idle,
  record { at = at_first _ c.requires.0.few; within = omega arith },
  first_searched _ _ c.requires.0 c.close_copy.result _ (take (c.args.n * c.args.n) c.close_copy.new.work) c.close_copy.ensures.closed c.in-Closed.is,
  c.requires.1,
)

pub returns : goal.returns
returns c =
    looks _ _ _ _ c.requires.0 c.requires.1 _ _ _
    (search_from_lem _ _ _ _ c.close_copy.ensures.closed
    ∙ ap (from_closed _ _) (a-grid c.close_copy.result _ (take (c.args.n * c.args.n) c.close_copy.new.work) c.in-Closed.is))
    c.look.ensures.shows
