-- An entry says where its name lies. Where there is no event i, the front of the sheet is handed back, with no byte.
use mathlib.Core.Path.{◌≡◌, refl, sym}
use mathlib.Core.List.{[]}
use native.Mathlib.Omega.{arith}
use lib.ListN.{get_or, get_or-eq_default}
use Rattle.std.proofs.lemmas.Option.{slice_get_within}
use Rattle.sheet.specs.Steps.{entries_of, names, starts}
use Rattle.sheet.proofs.ContentsLaws.{entries-length, names-length, starts-length, entry-part}
use Rattle.sheet.proofs.contents.Contents.name.Goals as goal

pub returns-then-i-self : goal.returns-then-i-self
returns-then-i-self c = entry-part c.args.self.now c.args.i _ c.if-i-self.true

pub returns-else-i-self : goal.returns-else-i-self
returns-else-i-self c =
    let it = c.args.self.now in
    let m = names-length it in
    let zero : get_or (starts it) c.args.i 0 ≡ 0 = get_or-eq_default (starts it) 0 (omega (arith, starts-length it)) in
    record {
      bytes = sym (get_or-eq_default (names it) [] (omega arith));
      event = λ e q. absurd (omega (arith, slice_get_within (entries_of it) c.args.i e q, entries-length it));
      memory = refl;
      start = omega (arith, zero);
      none = λ h. record { memory = refl; start = omega arith };
    }
