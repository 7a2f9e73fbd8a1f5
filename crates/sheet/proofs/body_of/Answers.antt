use mathlib.Core.Path.{◌≡◌, refl, sym, ◌∙◌, ap}
use mathlib.Core.List.{List, [], ◌∷◌, ◌++◌, append-nil, append_assoc}
use Prim.Native.Nat.{ℕ, suc, ◌+◌, ◌-◌, ◌≤◌, ◌<◌}
use native.Mathlib.Omega.{arith}
use native.Mathlib.Nat.{sub-zero}
use lib.ListN.{length, get_or, replicate}
use Rattle.words.specs.Words.{words}
use Rattle.statements.specs.Statements.{Statement}
use Rattle.statements.specs.Grid.{cut_by, cut_all}
use Rattle.statements.proofs.StatementLaws.{st, statement_same}
use Rattle.statements.proofs.GridLaws.{cut-length, cut-more}
use Rattle.sheet.specs.Sheet.{bodies}
use Rattle.sheet.specs.Steps.{parts_from, names, counts}
use Rattle.sheet.specs.declared.Place.{Place}
use Rattle.sheet.specs.declared.contents.Entry.{Entry}
use Rattle.sheet.specs.declared.contents.Contents.{Contents}
use Rattle.sheet.proofs.ContentsLaws.{names-length, count-at}
use Rattle.sheet.proofs.BodyLaws.{bodies_stop, bodies_read, bodies_cong}
use Rattle.sheet.proofs.body_of.Invariants.{SoFar}
use Rattle.sheet.proofs.body_of.Goals as goal

-- so many lines
listed : (it : Contents) (i : ℕ) (e : Entry) (p : Place) (os : List ℕ) (sts : List Statement) → i < it.n
    → bodies words (names it) (counts it) (replicate (get_or (counts it) i 0) i ++ os) sts (parts_from it.sheet.now p.at) p.line
    ≡ bodies words (names it) (counts it) (replicate (get_or it.entries i e).statements i ++ os) sts (parts_from it.sheet.now p.at) p.line
listed it i e p os sts h = bodies_cong words (names it) (counts it) (ap (λ (k : ℕ). replicate k i ++ os) (count-at it i e h)) refl refl refl

-- the lines of this event after this one, and those of the events after it
abbrev rest : ℕ → ℕ → ℕ → List ℕ → List ℕ
rest lines k i os = replicate (lines - (k + 1)) i ++ os

-- the reading stands at this line
here : (it : Contents) (i lines : ℕ) (p : Place) (g₀ g : List ℕ) (a k : ℕ) (v : SoFar it i lines p g₀ g a k) → k < lines
    → (os : List ℕ) (sts : List Statement)
    → bodies words (names it) (counts it) (replicate lines i ++ os) sts (parts_from it.sheet.now p.at) p.line
    ≡ bodies words (names it) (counts it) (i ∷ rest lines k i os) (sts ++ v.new) (parts_from it.sheet.now a) (p.line + k)
here it i lines p g₀ g a k v h os sts =
    let q : lines - k ≡ suc (lines - (k + 1)) = omega arith in
    v.says os sts ∙ bodies_cong words (names it) (counts it) (ap (λ (x : ℕ). replicate x i ++ os) q) refl refl refl

pub loop-k-init : goal.loop-k-init
unfolding cut_all
loop-k-init c =
    record {
      inside = c.requires.inside.0;
      short = omega arith;
      long = refl;
      new = [];
      grid = refl;
      says = λ os sts. bodies_cong words _ _ (rw sub-zero) (sym (append-nil sts)) refl (omega arith);
    }

pub statement_line-requires : goal.statement_line-requires
statement_line-requires c = c.loop-k.invariant.inside

pub cut-requires : goal.cut-requires
cut-requires c =
    let it = c.args.contents.now in
    (it.few, c.requires.i_lt_n.0, omega (arith, c.in-Ok.ensures.inside, names-length it), omega (arith, c.loop-k.invariant.long, c.requires.i_lt_n.1))

pub loop-k-preserved : goal.loop-k-preserved
loop-k-preserved c =
    let it = c.args.contents.now in
    let i = c.args.i in
    let I = c.loop-k.invariant in
    let w = c.in-Ok.ensures in
    let x = st i c.in-Ok.set c.in-Ok.j in
    record {
      inside = w.ends.high;
      short = omega (arith, I.short, w.ends.low);
      long = ap length c.cut.ensures ∙ cut-length it.n c.loop-k.g x ∙ I.long;
      new = I.new ++ x ∷ [];
      grid = c.cut.ensures ∙ ap (λ (g : List ℕ). cut_by it.n g x) I.grid ∙ sym (cut-more it.n c.args.g.now I.new x);
      says = λ os sts.
          here it i _ c.args.start _ _ _ _ I c.loop-k-test.true os sts
          ∙ bodies_read words (names it) (counts it) i (rest _ c.loop-k.k i os) (sts ++ I.new) (parts_from it.sheet.now c.loop-k.a) (c.args.start.line + c.loop-k.k) w.sound
          ∙ bodies_cong words (names it) (counts it) refl
          (append_assoc sts I.new _ ∙ ap (λ (t : Statement). sts ++ (I.new ++ t ∷ [])) (statement_same w.set w.other))
          w.ends.rest
          (omega arith);
    }

pub returns-in-Err : goal.returns-in-Err
returns-in-Err c =
    let it = c.args.contents.now in
    let i = c.args.i in
    λ os sts.
    listed it i _ c.args.start os sts c.requires.i_lt_n.0
    ∙ here it i _ c.args.start _ _ _ _ c.loop-k.invariant c.loop-k-test.true os sts
    ∙ bodies_stop words (names it) (counts it) i (rest _ c.loop-k.k i os) (sts ++ c.loop-k.invariant.new) (parts_from it.sheet.now c.loop-k.a) (c.args.start.line + c.loop-k.k) c.in-Err.why
    c.in-Err.ensures

spent : (lines k : ℕ) → lines ≤ k → lines - k ≡ 0
spent lines k h = omega arith

pub returns : goal.returns
returns c =
    let it = c.args.contents.now in
    let i = c.args.i in
    let I = c.loop-k.invariant in
    record {
      inside = I.inside;
      few = omega (arith, I.short);
      new = I.new;
      grid = I.grid;
      says = λ os sts.
          listed it i _ c.args.start os sts c.requires.i_lt_n.0
          ∙ I.says os sts
          ∙ bodies_cong words (names it) (counts it) (ap (λ (x : ℕ). replicate x i ++ os) (spent _ _ c.loop-k-test.false)) refl refl (omega arith);
    }
