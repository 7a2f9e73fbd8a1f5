-- A first part that ends before the text, and a second that ends with it.
use Prim.Native.Nat.{◌<◌}
use lib.ListN.{length}
use native.Mathlib.Omega.{arith}
use Rattle.text.proofs.PartLaws.{one-part, two-parts, many_parts}
use Rattle.text.proofs.two_parts.Goals as goal

pub returns-then-k-s : goal.returns-then-k-s
returns-then-k-s c = one-part c.args.c c.args.s.now c.part_end-k.result c.part_end-k.ensures (omega arith)

pub returns-then-e-s : goal.returns-then-e-s
returns-then-e-s c =
    let h : c.part_end-k.result < length c.args.s.now = omega arith in
    (h, two-parts c.args.c c.args.s.now c.part_end-k.result c.part_end-k.ensures c.part_end-e.result h c.part_end-e.ensures (omega arith))

pub returns-else-e-s : goal.returns-else-e-s
returns-else-e-s c =
    let h : c.part_end-k.result < length c.args.s.now = omega arith in
    many_parts c.args.c c.args.s.now c.part_end-k.result c.part_end-k.ensures c.part_end-e.result h c.part_end-e.ensures (omega arith)
