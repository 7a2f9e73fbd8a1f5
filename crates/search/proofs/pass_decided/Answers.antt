-- What the search comes to stays the same from cell to cell.
use mathlib.Core.Path.{sym, ◌∙◌}
use Rattle.search.proofs.LookLaws.{alone_stands, alone_goes_on}
use native.Mathlib.Omega.{arith}
use Rattle.search.proofs.pass_decided.Goals as goal

pub loop-at-preserved : goal.loop-at-preserved
loop-at-preserved c =
    let alone = sym c.without_lowest.ensures ∙ c.if-without_lowest-ne0.false in
    record {
      stands = alone_stands _ _ _ c.requires.1 _ _ c.loop-at.invariant.stands c.loop-at-test.true c.if-at-allowance.false c.next-at.ensures _ c.get-set.ensures alone;
      fewer = omega (arith, c.next-at.ensures.left, c.loop-at.invariant.fewer);
      same = alone_goes_on _ _ _ c.requires.1 _ _ c.loop-at.invariant.stands c.loop-at-test.true c.if-at-allowance.false c.next-at.ensures _ c.get-set.ensures alone ∙ c.loop-at.invariant.same;
    }
