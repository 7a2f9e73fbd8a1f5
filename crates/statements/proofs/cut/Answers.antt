-- The new set is the old cell cut by the statement's, and `put_both` turns it round for the mirror.
use mathlib.Core.Path.{◌∙◌, ap}
use Prim.Native.Nat.{ℕ}
use lib.Bits.{bit_and}
use Rattle.relation.specs.Composition.{converse}
use Rattle.grid.specs.Cells.{put_both}
use Rattle.statements.specs.Grid.{cut_by}
use Rattle.statements.proofs.cut.Goals as goal

pub returns : goal.returns
unfolding cut_by
returns c =
    c.put_both.ensures ∙ ap (λ (x : ℕ). put_both converse c.args.n c.args.g.now c.args.i c.args.j (bit_and x c.args.set)) c.get-old.ensures
