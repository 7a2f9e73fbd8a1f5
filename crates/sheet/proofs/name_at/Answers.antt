-- The places say where the name of event i begins and ends.
use mathlib.Core.Path.{◌≡◌, refl, sym, ◌∙◌, ap}
use mathlib.Core.List.{[]}
use Prim.Native.Nat.{ℕ, ◌+◌, ◌-◌}
use native.Mathlib.Omega.{arith}
use lib.ListN.{take, drop, get_or-eq_default}
use borrow.Author.Tests.{lt-ltb, le-ltb}
use Rattle.sheet.specs.Places.{start_at, length_at, names_at}
use Rattle.sheet.proofs.PlaceLaws.{names-length, names-at}
use Rattle.sheet.proofs.name_at.Goals as goal

pub returns-then-i-n : goal.returns-then-i-n
returns-then-i-n c =
    let a = start_at c.args.places.now c.args.i in
    let l = length_at c.args.places.now c.args.i in
    let q : a + l - a ≡ l = omega arith in
    record {
      bytes = ap (λ (k : ℕ). take k (drop a c.args.s.now)) q ∙ sym (names-at c.args.s.now c.args.places.now c.args.n c.args.i c.if-i-n.true);
      memory = refl;
      start = rw (lt-ltb c.args.i c.args.n c.if-i-n.true);
    }

pub returns-else-i-n : goal.returns-else-i-n
returns-else-i-n c =
    let m = names-length c.args.s.now c.args.places.now c.args.n in
    record {
      bytes = sym (get_or-eq_default (names_at c.args.s.now c.args.places.now c.args.n) [] (omega arith));
      memory = refl;
      start = rw (le-ltb c.args.i c.args.n c.if-i-n.false) (omega arith);
    }
