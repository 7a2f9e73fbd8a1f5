-- The table is the words of the definition.
use mathlib.Core.Path.{refl}
use Rattle.words.specs.Words.{words, meaning}
use Rattle.words.proofs.WordLaws.{meaning_found}
use Rattle.words.proofs.meaning_of.Goals as goal

pub returns : goal.returns
unfolding words meaning
returns c = meaning_found c.args.w.now _ c.look_up.result c.look_up.ensures refl
