-- Each turn puts one byte more of the text.
use Rattle.report.proofs.AddsLaws.{adds-more}
use Rattle.report.proofs.page.Page.bytes.Goals as goal

pub loop-b-preserved : goal.loop-b-preserved
loop-b-preserved c = adds-more c.args.text.now c.loop-b.b-index c.loop-b-test.true c.loop-b.invariant c.byte.ensures
