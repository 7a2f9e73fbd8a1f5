-- The contents are refused, or they leave the bodies, which say the rest over the grid filled.
use mathlib.Core.Path.{subst}
use mathlib.Core.List.{List}
use Prim.Native.Nat.{ℕ}
use denote.Ref.{Bor}
use Rattle.std.specs.Prelude.{Ok}
use Rattle.words.specs.Words.{words}
use Rattle.sheet.specs.Steps.{ContentsRead}
use Rattle.sheet.proofs.SheetLaws.{sheet-says}
use Rattle.sheet.proofs.lines_into.Goals as goal

pub returns : goal.returns
returns c =
    let it = c.contents_of.new.contents in
    let read = subst (λ (s : Bor (List ℕ)). ContentsRead words s c.args.n c.args.start it c.in_ok-bodies.bodies) c.begun-contents.ensures.0 c.in_ok-bodies.ensures in
    sheet-says words c.args.s c.fill_start.new.g c.bodies_of.new.g c.args.n c.args.start it c.in_ok-bodies.bodies read c.fill_start.ensures (Ok tt) c.in_ok-bodies_of.ensures
