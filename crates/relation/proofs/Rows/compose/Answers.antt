-- The rows that the set marks, joined, and the row of eq.
use mathlib.Core.Path.{ap₂, ◌∙◌}
use lib.Bits.{bit_and, bit_or}
use Rattle.relation.proofs.PackedLaws.{folds, composed_apart, with_eq}
use Rattle.relation.proofs.Rows.compose.Goals as goal

pub returns : goal.returns
returns c =
    let r = c.args.self.now in
    let x = bit_or (bit_or (bit_and r.low c.marked.result) (bit_and r.middle c.marked-2.result)) (bit_and r.high c.marked-3.result) in
    ap₂ bit_or (folds x ∙ composed_apart _ _ _ _ _ _ _ _ r.right.low r.right.middle r.right.high c.marked.ensures c.marked-2.ensures c.marked-3.ensures) c.given.ensures
    ∙ with_eq _ _
