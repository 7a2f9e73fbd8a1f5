use mathlib.Core.Path.{◌≡◌, refl, ◌∙◌, ap}
use mathlib.Core.List.{List, [], ◌++◌}
use Prim.Native.Nat.{ℕ, ◌+◌, ◌<◌}
use native.Mathlib.Omega.{arith}
use borrow.Author.Rules.{rules}
use lib.ListN.{drop, get_or, replicate}
use Rattle.words.specs.Words.{words}
use Rattle.statements.specs.Grid.{cut_all}
use Rattle.statements.proofs.GridLaws.{cut-append}
use Rattle.sheet.specs.Sheet.{owners, bodies}
use Rattle.sheet.specs.Steps.{parts_from, names, counts}
use Rattle.sheet.specs.declared.Place.{Place}
use Rattle.sheet.specs.declared.contents.Contents.{Contents}
use Rattle.sheet.proofs.ContentsLaws.{counts-length}
use Rattle.sheet.proofs.BodyLaws.{bodies_cong, owners-next, bodies_done, bodies_over}
use Rattle.sheet.proofs.bodies_of.Invariants.{SoFar}
use Rattle.sheet.proofs.bodies_of.Goals as goal

-- the events of the lines after this body
abbrev rest : Contents → ℕ → List ℕ
rest it i = owners (i + 1) (drop (i + 1) (counts it))

-- the reading stands at this body
here : (it : Contents) (start : ℕ) (g₀ g : List ℕ) (p : Place) (i : ℕ) (v : SoFar it start g₀ g p i) → i < it.n
    → bodies words (names it) (counts it) (owners 0 (counts it)) [] (parts_from it.sheet.now start) (it.n + 2)
    ≡ bodies words (names it) (counts it) (replicate (get_or (counts it) i 0) i ++ rest it i) v.new (parts_from it.sheet.now p.at) p.line
here it start g₀ g p i v h = v.says ∙ bodies_cong words (names it) (counts it) (owners-next i (counts it) (omega (arith, counts-length it))) refl refl refl

pub loop-i-init : goal.loop-i-init
unfolding cut_all
loop-i-init c =
    record {
      inside = c.requires.1;
      short = let f = c.args.contents.now.few in omega arith;
      long = refl;
      new = [];
      grid = refl;
      says = refl;
    }

pub loop-i-preserved : goal.loop-i-preserved
loop-i-preserved c =
    let it = c.args.contents.now in
    let I = c.loop-i.invariant in
    let y = c.in_ok-place.ensures in
    record {
      inside = y.inside;
      short = y.few;
      long = c.body_of.auto.g ∙ I.long;
      new = I.new ++ y.new;
      grid = y.grid ∙ ap (λ (g : List ℕ). cut_all it.n g y.new) I.grid ∙ cut-append it.n c.args.g.now I.new y.new;
      says = here it c.args.start _ _ c.loop-i.place c.loop-i.i I c.loop-i-test.true ∙ y.says (rest it c.loop-i.i) I.new;
    }

pub returns-in_err-place : goal.returns-in_err-place
returns-in_err-place c =
    let it = c.args.contents.now in
    let I = c.loop-i.invariant in
    let y = here it c.args.start _ _ c.loop-i.place c.loop-i.i I c.loop-i-test.true ∙ c.in_err-place.ensures (rest it c.loop-i.i) I.new in
    search rules

pub returns-then-place-contents : goal.returns-then-place-contents
returns-then-place-contents c =
    let it = c.args.contents.now in
    let I = c.loop-i.invariant in
    let many = counts-length it in
    record {
      new = I.new;
      grid = I.grid;
      says = I.says ∙ bodies_done words (names it) (counts it) c.loop-i.i I.new it.sheet.now c.loop-i.place.at c.loop-i.place.line (omega arith) (omega arith);
    }

pub returns-else-place-contents : goal.returns-else-place-contents
returns-else-place-contents c =
    let it = c.args.contents.now in
    let I = c.loop-i.invariant in
    let many = counts-length it in
    I.says ∙ bodies_over words (names it) (counts it) c.loop-i.i I.new it.sheet.now c.loop-i.place.at c.loop-i.place.line (omega arith) (omega (arith, I.inside))
