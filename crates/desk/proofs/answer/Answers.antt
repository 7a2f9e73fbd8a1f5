-- The report fits the room by what is required of it; what was read, reported and written is what the calls say.
use Rattle.std.proofs.Common.{◌≡◌, ◌≤◌, ◌<◌, ℕ, List, length, take, sym, refl, ◌∙◌, subst, length-take-le, arith, rules, Option, Result}
use Rattle.std.specs.Result.{OnOk}
use Rattle.std.proofs.lemmas.Result.{IfOk-at_ok, on_ok_weaker}
use Rattle.desk.specs.Reports.{most_read, Report, Reports, Answers}
use Rattle.std.specs.Io.KnownBytes.{Appends, Consumes, IsAtEnd}
use denote.Ref.{Bor, MutBor}
use Rattle.desk.proofs.answer.Goals as goal

reports : {F : Type 0} (g : Report F) (f : F) (p : Bor (List ℕ)) (q q' : MutBor (List ℕ)) (n : ℕ) → g.post f (p, (q, tt)) (n, (q', tt)) → Reports g f p.now q.now n q'.now
reports g f p q q' n h = record { shown = p; lent = q; left = q'; shows = refl; lends = refl; met = h; leaves = refl }

on_ok_same : {T E P Q : Type 0} (r s : Result T E) → r ≡ s → (P → Q) → OnOk r P → OnOk s Q
on_ok_same {T} {E} {P} {Q} r s same f h = subst (λ x. OnOk x Q) same (on_ok_weaker r f h)

-- what was read of a room of so many bytes is the whole input where it does not fill the room
answers : {F : Type 0} (g : Report F) (f : F) (m n : ℕ) (before after held holds : Option (List ℕ)) (got room room' : List ℕ) →
    length got ≡ most_read → m ≤ length got → Consumes before after (take m got) → (m < length got → IsAtEnd after) →
    Reports g f (take m got) room n room' → Appends held holds (take n room') → Answers g f before after room room' held holds
answers g f m n before after held holds got room room' all within read end reported written =
    let len = length-take-le m got within in
    record { sheet = take m got; read = read; whole = λ short. end (omega (arith, len, short, all)); n = n; reported = reported; written = written }

pub slice_bounds-write_all-end : goal.slice_bounds-write_all-end
slice_bounds-write_all-end g c =
    let fits : c.report-len.result ≤ length c.args.room.now = c.requires.fits.at _ _ _ (reports _ _ _ _ _ _ c.report-len.ensures) in
    omega (arith, fits, c.report-len.auto.arg3)

pub slice_bounds-write_all-end-2 : goal.slice_bounds-write_all-end-2
slice_bounds-write_all-end-2 g c = sym (length-take-le _ _ (slice_bounds-write_all-end g c))

pub returns : goal.returns
returns g c =
    let came = c.inspect_err.ensures.value ∙ c.in_ok-n.was in
    let ensures = c.read_sheet.ensures in
    let reported = reports g.F.FnOnce c.args.report _ _ _ _ c.report-len.ensures in
    let done = answers g.F.FnOnce c.args.report c.in_ok-n.n c.report-len.result (g.R.Read.remaining c.args.reader.now) (g.R.Read.remaining c.read_sheet.new.reader)
    (g.W.Write.contents c.args.writer.now) (g.W.Write.contents c.write_all.new.self) c.read_sheet.new.room c.args.room.now c.report-len.new.arg3
    (search rules) (IfOk-at_ok _ came ensures.bound).0 (IfOk-at_ok _ came ensures.bytes) (IfOk-at_ok _ came ensures.end) reported in
    record { written = on_ok_same c.write_all.result c.inspect_err-2.result c.inspect_err-2.ensures.value done c.write_all.ensures.bytes }
