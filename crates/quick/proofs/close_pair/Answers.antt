-- The cell is cut, and the pair alone waits: the grid was closed, so the takes from there close it.
use mathlib.Core.Path.{ap, ap₂, ◌∙◌}
use Rattle.theory.specs.Line.{joins}
use Rattle.theory.specs.Quick.{run}
use Rattle.quick.proofs.PairLaws.{cut_fair, closes_by_pair, pair_waits}
use Rattle.quick.proofs.close_pair.Goals as goal

pub takes-requires : goal.takes-requires
takes-requires c =
    rw (c.write_cut.ensures.cells, c.write_cut.ensures.joined, c.requires.0) (cut_fair _ _ _ _ _ c.requires.1, pair_waits _ _ _ _ _ c.requires.1)

pub returns-clause-closed : goal.returns-clause-closed
returns-clause-closed c =
    closes_by_pair _ _ _ _ _ c.requires.1 _
    (c.takes.ensures.end ∙ ap₂ (run _ _ _ _) c.write_cut.ensures.cells (c.write_cut.ensures.joined ∙ ap (joins _) c.requires.0))
