-- Each line lists one event more, or is the first that is refused.
use mathlib.Core.Path.{◌≡◌, refl, sym, ◌∙◌, ap, subst}
use mathlib.Core.List.{List, [], ◌∷◌, ◌++◌}
use Prim.Native.Nat.{ℕ, suc, ◌+◌, ◌-◌}
use native.Mathlib.Omega.{arith}
use lib.ListN.{length}
use denote.Ref.{Bor}
use Rattle.words.specs.Words.{words}
use Rattle.sheet.specs.Answers.{name_start}
use Rattle.sheet.specs.Parts.{PartFrom, InSheet}
use Rattle.sheet.specs.Steps.{parts_from, Ends, names, counts}
use Rattle.sheet.proofs.LineLaws.{begins_next}
use Rattle.sheet.proofs.ContentsLaws.{contents_stop, contents_read, contents_done, contents_cong, begun-names, begun-counts, begun-stand, added-n, added-names, added-counts, added-stand}
use Rattle.sheet.proofs.BodyLaws.{bodies_cong}
use Rattle.sheet.proofs.contents_of.Goals as goal

pub loop-i-init : goal.loop-i-init
loop-i-init c =
    let it = c.args.contents.now in
    let b = c.requires.0 in
    let z : c.args.n - 0 ≡ c.args.n = omega arith in
    record {
      keeps = record { sheet = refl; events = b; stand = begun-stand it it.sheet b };
      begins = c.requires.2;
      says = rw (z, begun-names it b, begun-counts it b);
    }

pub entry_line-requires : goal.entry_line-requires
entry_line-requires c = let I = c.loop-i.invariant in omega (arith, I.begins.inside, ap (λ (s : Bor (List ℕ)). length s.now) I.keeps.sheet)

pub add-requires : goal.add-requires
add-requires c = record { room = omega (arith, c.loop-i.invariant.keeps.events); part = c.in-Ok.ensures.part }

pub loop-i-preserved : goal.loop-i-preserved
loop-i-preserved c =
    let I = c.loop-i.invariant in
    let s = c.args.contents.now.sheet in
    let it = c.loop-i.contents in
    let to = c.add.new.self in
    let i = c.loop-i.i in
    let a = c.loop-i.a in
    let e = c.in-Ok.ensures in
    let q = c.add.ensures.more in
    let more : c.args.n - i ≡ suc (c.args.n - (i + 1)) = omega arith in
    let ends = subst (λ (x : Bor (List ℕ)). Ends x.now a c.in-Ok.next) I.keeps.sheet e.ends in
    let part = subst (λ (x : Bor (List ℕ)). InSheet x c.in-Ok.entry) I.keeps.sheet e.part in
    let at : c.in-Ok.entry.start ≡ name_start s.now it.n = e.start ∙ sym (ap (name_start s.now) I.keeps.events ∙ I.begins.bytes) in
    record {
      keeps = record {
        sheet = c.add.ensures.same ∙ I.keeps.sheet;
        events = omega (arith, added-n it to c.in-Ok.entry q, I.keeps.events);
        stand = added-stand it to c.in-Ok.entry q s I.keeps.stand (record { part = subst (λ (x : ℕ). PartFrom s x c.in-Ok.entry.name) at part.from; start = at; within = part.within });
      };
      begins = begins_next s.now (i + 1) a c.in-Ok.next I.begins ends;
      says =
          I.says
          ∙ contents_read words (c.args.n - i) (c.args.n - (i + 1)) more (names it) (counts it) (parts_from s.now a) (i + 2) (rw I.keeps.sheet at e.sound)
          ∙ contents_cong words (c.args.n - (i + 1))
          (ap (λ (x : List ℕ). names it ++ x ∷ []) (rw I.keeps.sheet at e.name) ∙ sym (added-names it to c.in-Ok.entry q))
          (ap (λ (x : ℕ). counts it ++ x ∷ []) (rw I.keeps.sheet at e.count) ∙ sym (added-counts it to c.in-Ok.entry q))
          ends.rest
          (omega arith);
    }

pub returns-in-Err : goal.returns-in-Err
returns-in-Err c =
    let I = c.loop-i.invariant in
    let s = c.args.contents.now.sheet in
    let it = c.loop-i.contents in
    let i = c.loop-i.i in
    let more : c.args.n - i ≡ suc (c.args.n - (i + 1)) = omega arith in
    I.says
    ∙ contents_stop words (c.args.n - i) (c.args.n - (i + 1)) more (names it) (counts it) (parts_from s.now c.loop-i.a) (i + 2) c.in-Err.why (rw I.keeps.sheet at c.in-Err.ensures)

pub returns : goal.returns
returns c =
    let I = c.loop-i.invariant in
    let s = c.args.contents.now.sheet in
    let it = c.loop-i.contents in
    record {
      inside = I.begins.inside;
      keeps = record { sheet = I.keeps.sheet; events = omega (arith, I.keeps.events); stand = I.keeps.stand };
      says =
          I.says
          ∙ contents_done words (c.args.n - c.loop-i.i) (omega arith) (names it) (counts it) (parts_from s.now c.loop-i.a) (c.loop-i.i + 2)
          ∙ bodies_cong words (names it) (counts it) refl refl (ap (λ (x : Bor (List ℕ)). parts_from x.now c.loop-i.a) (sym I.keeps.sheet)) (omega (arith, I.keeps.events));
    }
