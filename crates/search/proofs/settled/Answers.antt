-- The test that was made is the one that the rule asks.
use mathlib.Core.Path.{refl}
use Rattle.search.proofs.RuleLaws.{settles-placed, settles-none}
use Rattle.search.proofs.settled.Goals as goal

pub returns-then-settle : goal.returns-then-settle
returns-then-settle c = settles-placed _ _ _ _ _ _ _ c.settle.ensures c.if-settle.true refl refl

pub returns-else-settle : goal.returns-else-settle
returns-else-settle c = settles-none _ _ _ _ _ _ _ c.settle.ensures c.if-settle.false refl refl
