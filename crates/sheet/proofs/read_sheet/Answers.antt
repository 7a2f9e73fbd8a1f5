-- The room is written only after the whole sheet was read into a grid of its own.
use mathlib.Core.Path.{◌∙◌, ap}
use mathlib.Core.List.{List, ◌++◌}
use Prim.Native.Nat.{ℕ, ◌*◌}
use lib.ListN.{length, drop}
use borrow.Author.Tests.{eq-eqb}
use Rattle.sheet.specs.Answers.{room_cells}
use Rattle.sheet.proofs.ContentsLaws.{names-length}
use Rattle.sheet.proofs.read_sheet.Goals as goal

pub returns : goal.returns
returns c =
    let room = c.args.room.now in
    let n = c.in_ok-n.field-0.n in
    let e = eq-eqb (length room) room_cells c.if-room-ne-ROOM_CELLS.false in
    let m = names-length c.in_ok-n.field-0 in
    -- the sheet is accepted
    let read = c.in_ok-n.ensures in
    record {
      answer = rw (e, read.says, m);
      room = rw (e, read.says, m) (c.copy.ensures ∙ ap (λ (x : List ℕ). x ++ drop (n * n) room) read.grid);
    }
