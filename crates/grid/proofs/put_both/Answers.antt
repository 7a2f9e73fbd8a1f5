-- The set is put, and then its converse in the mirrored cell.
use Rattle.relation.specs.Composition.{converse}
use Rattle.grid.proofs.CellLaws.{both_put}
use Rattle.grid.proofs.put_both.Goals as goal

pub returns : goal.returns
returns c =
    both_put converse c.args.n c.args.i c.args.j c.args.a c.converse_of-turned.result _ _ _ c.put.ensures c.converse_of-turned.ensures
    c.put-2.ensures
