-- By the first comparison, by the first two, or by all four.
use mathlib.Core.Path.{◌≡◌, ap, ap₂, ◌∙◌}
use lib.IntN.{ℤ}
use lib.Signed.{lt_z}
use Rattle.relation.specs.Comparing.{Order, less, same, more, rel_from, rel_by}
use Rattle.relation.proofs.Order.{cmp}
use Rattle.placing.proofs.SignedLaws.{told}
use Rattle.placing.proofs.relation_of.Goals as goal

by_first : (a b c d : ℤ) (p : Order) → p ≡ cmp b c → rel_from p (cmp d a) (cmp a c) (cmp b d) ≡ rel_by lt_z a b c d
by_first a b c d p e = ap (λ (x : Order). rel_from x (cmp d a) (cmp a c) (cmp b d)) e

by-second : (a b c d : ℤ) (p q : Order) → p ≡ cmp b c → q ≡ cmp d a → rel_from p q (cmp a c) (cmp b d) ≡ rel_by lt_z a b c d
by-second a b c d p q e f = ap₂ (λ (x y : Order). rel_from x y (cmp a c) (cmp b d)) e f

pub returns-in-Less-default : goal.returns-in-Less-default
returns-in-Less-default c = by_first c.args.a c.args.b c.args.c c.args.d less (told c.args.b c.args.c _ c.ranges.b.sfits c.ranges.c.sfits c.in-Less-default.ensures)

pub returns-in-Greater-Less : goal.returns-in-Greater-Less
returns-in-Greater-Less c = by-second c.args.a c.args.b c.args.c c.args.d more less (told c.args.b c.args.c _ c.ranges.b.sfits c.ranges.c.sfits c.in-Greater-Less.ensures) (told c.args.d c.args.a _ c.ranges.d.sfits c.ranges.a.sfits c.in-Greater-Less.ensures')

pub returns-in-Greater-Equal : goal.returns-in-Greater-Equal
returns-in-Greater-Equal c = by-second c.args.a c.args.b c.args.c c.args.d more same (told c.args.b c.args.c _ c.ranges.b.sfits c.ranges.c.sfits c.in-Greater-Equal.ensures) (told c.args.d c.args.a _ c.ranges.d.sfits c.ranges.a.sfits c.in-Greater-Equal.ensures')

pub returns-in-Greater-Greater : goal.returns-in-Greater-Greater
returns-in-Greater-Greater c =
    c.sharing.ensures
    ∙ ap₂ (λ (x y : Order). rel_from more more x y) (told c.args.a c.args.c _ c.ranges.a.sfits c.ranges.c.sfits c.cmp-in-Greater-Greater.ensures) (told c.args.b c.args.d _ c.ranges.b.sfits c.ranges.d.sfits c.cmp-in-Greater-Greater-2.ensures)
    ∙ by-second c.args.a c.args.b c.args.c c.args.d more more (told c.args.b c.args.c _ c.ranges.b.sfits c.ranges.c.sfits c.in-Greater-Greater.ensures) (told c.args.d c.args.a _ c.ranges.d.sfits c.ranges.a.sfits c.in-Greater-Greater.ensures')
