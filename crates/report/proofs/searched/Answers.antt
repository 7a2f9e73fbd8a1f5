-- A sheet is refused as the reader says; an accepted one is searched in its own grid.
use mathlib.Core.Path.{◌∙◌}
use native.Mathlib.Omega.{arith}
use lib.Seq.{length-take-le}
use Rattle.sheet.proofs.SheetRight.{into_accepted}
use Rattle.report.proofs.FoundLaws.{came}
use Rattle.report.proofs.searched.Goals as goal

pub search_accepted-looked-requires : goal.search_accepted-looked-requires
search_accepted-looked-requires c =
    (into_accepted _ _ _ c.in_ok-contents.ensures, length-take-le _ _ (omega (arith, c.in_ok-contents.contents.few)))

pub returns : goal.returns
returns c =
    let room = length-take-le _ c.args.numbers.now (omega (arith, c.in_ok-contents.contents.few)) in
    came _ _ _ _ _ _ _ _ c.in_ok-contents.ensures room (c.search_accepted-looked.auto.room ∙ room) c.search_accepted-looked.ensures
