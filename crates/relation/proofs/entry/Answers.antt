-- The typed table is that of the definition.
use mathlib.Core.Path.{refl}
use Rattle.relation.specs.Composition.{table, entry}
use Rattle.relation.proofs.entry.Goals as goal

pub returns : goal.returns
unfolding entry table
returns c = refl
