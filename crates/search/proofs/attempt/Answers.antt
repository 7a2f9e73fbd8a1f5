-- The copy is the grid; its pair is cut to the relation's mark and closed from there.
use mathlib.Core.Path.{◌≡◌, sym, ap, ◌∙◌, subst}
use mathlib.Core.List.{List}
use Prim.Native.Nat.{ℕ, ◌*◌, ◌≤◌}
use lib.ListN.{length, take}
use lib.Seq.{length-take-le, take_at}
use Rattle.grid.proofs.CellLaws.{copied_front}
use Rattle.theory.specs.Tried.{tried_by}
use Rattle.takes.specs.Steps.{ended}
use Rattle.quick.specs.Steps.{Cuttable}
use Rattle.search.specs.Rule.{try_at}
use Rattle.search.proofs.LookLaws.{triable_cut, try_made}
use native.Mathlib.Omega.{arith}
use Rattle.search.proofs.attempt.Goals as goal

pub close_pair-requires : goal.close_pair-requires
close_pair-requires c =
    let m = c.args.grid.n * c.args.grid.n in
    let same : take m c.copy.new.to ≡ c.args.grid.cells.now = ap (take m) c.copy.ensures ∙ copied_front c.args.grid.cells.now c.args.cut.now m c.requires.1.grid.accepted.long in
    (c.requires.0, subst (Cuttable c.args.grid.n c.args.i c.args.j c.mark.result) (sym same) (triable_cut _ _ _ _ _ _ c.mark.ensures c.requires.1))

pub returns-clause-tried : goal.returns-clause-tried
returns-clause-tried c =
    let m = c.args.grid.n * c.args.grid.n in
    let fits : m ≤ length c.copy.new.to = omega (arith, c.copy.auto.to, c.requires.2.fits) in
    let same : take m c.copy.new.to ≡ c.args.grid.cells.now = ap (take m) c.copy.ensures ∙ copied_front c.args.grid.cells.now c.args.cut.now m c.requires.1.grid.accepted.long in
    ap (λ (l : List ℕ). tried_by (ended c.close_pair.result l)) (take_at _ _ _ (c.close_pair.auto.g ∙ length-take-le m c.copy.new.to fits))
    ∙ c.close_pair.ensures.closed ∙ try_made _ _ _ c.args.r _ _ c.mark.ensures ∙ ap (try_at c.args.grid.n (c.args.i, c.args.j) c.args.r) same
