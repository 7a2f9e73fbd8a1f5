-- An odd cut is looked at by itself, and the rest from the next event on.
use native.Mathlib.Omega.{arith}
use Rattle.takes.proofs.StepsLaws.{second_quiet, odd_finds, even_finds}
use Rattle.takes.proofs.Take.next_cut.Goals as goal
use Rattle.takes.proofs.Take.next_cut.Goals.{else-c-eq1, then-c-eq1+else-set-kj}

pub returns : goal.returns
returns c =
    elim c.if-c-eq1.branch [
      | then-c-eq1+else-set-kj w ↦
          odd_finds _ _ _ _ _ _ c.cut_from.ensures w.if-c-eq1.true (omega (arith, w.if-c-eq1.true, c.requires.1))
          (second_quiet _ _ c.requires.2 _ c.requires.0 _ (omega (arith, w.if-c-eq1.true, c.requires.1)) _ _ _ w.get-ki.ensures w.get-kj.ensures w.compose.ensures w.if-set-kj.false)
      | else-c-eq1 w ↦ even_finds _ _ _ _ _ _ c.cut_from.ensures w.if-c-eq1.false
    ]
