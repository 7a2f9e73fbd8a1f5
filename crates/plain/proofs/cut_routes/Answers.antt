-- The cuts so far, and then this one. After it, there is a route ahead that changes its cell, or all are cut.
use mathlib.Core.Path.{sym, ◌∙◌, subst}
use mathlib.Core.List.{List}
use native.Mathlib.Omega.{arith}
use Prim.Native.Nat.{ℕ}
use Rattle.std.specs.Prelude.{Option, Some, None, Ok}
use Rattle.theory.specs.Sweeps.{none, more}
use Rattle.theory.proofs.AllenLaws.{lawful}
use Rattle.theory.proofs.PlainLaws.{cuts_fair, dead_then}
use Rattle.plain.specs.Routes.{CutsFrom, Finds}
use Rattle.plain.proofs.RouteLaws.{then_cut, dead_end, shrinks, half-same}
use Rattle.plain.proofs.cut_routes.Invariants.{Ahead}
use Rattle.plain.proofs.cut_routes.Goals as goal

ahead : (n m b k : ℕ) (g g' : List ℕ) (r : Option (ℕ × ℕ)) → Finds n m b g' k r → CutsFrom n m b g (Ok tt) g' → Ahead n m b g g' r
ahead n m b k g g' (Some f) h p = (h.1, h.2)
ahead n m b k g g' None h p = p

pub loop-route-init : goal.loop-route-init
loop-route-init c = let f = c.requires.4 in (none, c.requires.0, (f.1, f.2))

pub returns-then-set-eq0 : goal.returns-then-set-eq0
returns-then-set-eq0 c =
    let p = c.requires in
    let cuts = c.loop-route.invariant.0 in
    let f = subst (Ahead c.args.n c.args.m c.args.b c.args.g.now c.loop-route.g) c.in-Some.is c.loop-route.invariant.2 in
    dead_then _ _ _ _ cuts (dead_end _ _ _ _ _ _ (cuts_fair _ lawful _ _ p.5 cuts) f.1 f.0 p.1 p.2 p.3 c.if-set-eq0.true)

pub next_route-route-requires : goal.next_route-route-requires
next_route-route-requires c =
    let p = c.requires in
    let cuts = c.loop-route.invariant.0 in
    let F = cuts_fair _ lawful _ _ p.5 cuts in
    let f = subst (Ahead c.args.n c.args.m c.args.b c.args.g.now c.loop-route.g) c.in-Some.is c.loop-route.invariant.2 in
    let s = shrinks _ _ _ _ _ _ F f.1 f.0 p.1 p.2 p.3 _ c.put_both.ensures c.if-set-eq0.false in
    let G = (cuts_fair _ lawful _ _ F (more none s)).fine in (
      c.loop-route.invariant.1 ∙ sym (half-same _ _ _ _ _ _ F f.1 f.0 p.1 p.2 p.3 _ c.put_both.ensures),
      p.1,
      p.2,
      omega (arith, f.0),
      record { few = G.few; fits = G.fits },
    )

pub loop-route-preserved : goal.loop-route-preserved
loop-route-preserved c =
    let p = c.requires in
    let cuts = c.loop-route.invariant.0 in
    let F = cuts_fair _ lawful _ _ p.5 cuts in
    let f = subst (Ahead c.args.n c.args.m c.args.b c.args.g.now c.loop-route.g) c.in-Some.is c.loop-route.invariant.2 in
    let s = shrinks _ _ _ _ _ _ F f.1 f.0 p.1 p.2 p.3 _ c.put_both.ensures c.if-set-eq0.false in (
      more cuts s,
      c.loop-route.invariant.1 ∙ sym (half-same _ _ _ _ _ _ F f.1 f.0 p.1 p.2 p.3 _ c.put_both.ensures),
      ahead _ _ _ _ _ _ _ c.next_route-route.ensures (then_cut _ _ _ _ _ p.5 cuts s),
    )
