-- The cuts from the first event on come to those from where it stands.
use mathlib.Core.Path.{◌≡◌, subst}
use Prim.Native.Nat.{◌+◌, ◌*◌}
use native.Mathlib.Omega.{arith}
use Rattle.takes.specs.Steps.{Passes}
use Rattle.takes.proofs.StepsLaws.{first_quiet, first-changes, second_quiet, second-changes, passes-more}
use Rattle.takes.proofs.Take.cut_from.Goals as goal

pub returns-then-first-ki : goal.returns-then-first-ki
returns-then-first-ki c =
    record {
      passes = c.loop-k.invariant;
      before = omega (arith, c.loop-k-test.true);
      changes = first-changes _ _ c.requires.2 _ c.requires.0 _ c.loop-k-test.true _ _ _ c.get-ki.ensures c.get-kj.ensures c.compose.ensures c.if-first-ki.true _ c.converse_of.ensures;
    }

pub returns-then-second-kj : goal.returns-then-second-kj
returns-then-second-kj c =
    let quiet = first_quiet _ _ c.requires.2 _ c.requires.0 _ c.loop-k-test.true _ _ _ c.get-ki.ensures c.get-kj.ensures c.compose.ensures c.if-first-ki.false in
    record {
      passes = passes-more _ _ _ _ _ _ (omega (arith, c.loop-k-test.true)) c.loop-k.invariant quiet;
      before = omega (arith, c.loop-k-test.true);
      changes = second-changes _ _ c.requires.2 _ c.requires.0 _ c.loop-k-test.true _ _ _ c.get-ki.ensures c.get-kj.ensures c.compose-in-loop-k.ensures c.if-second-kj.true;
    }

pub loop-k-preserved : goal.loop-k-preserved
loop-k-preserved c =
    let first_still = first_quiet _ _ c.requires.2 _ c.requires.0 _ c.loop-k-test.true _ _ _ c.get-ki.ensures c.get-kj.ensures c.compose.ensures c.if-first-ki.false in
    let second_still = second_quiet _ _ c.requires.2 _ c.requires.0 _ c.loop-k-test.true _ _ _ c.get-ki.ensures c.get-kj.ensures c.compose-in-loop-k.ensures c.if-second-kj.false in
    let first = passes-more _ _ _ _ _ _ (omega (arith, c.loop-k-test.true)) c.loop-k.invariant first_still in
    let second = passes-more _ _ _ _ _ _ (omega (arith, c.loop-k-test.true)) first second_still in
    let e : c.loop-k.k * 2 + 1 + 1 ≡ (c.loop-k.k + 1) * 2 = omega arith in
    subst (Passes _ _ _ _ _) e second
