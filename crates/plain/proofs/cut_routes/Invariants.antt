use mathlib.Core.Path.{◌≡◌}
use mathlib.Core.List.{List}
use Prim.Native.Nat.{ℕ, ◌<◌, ◌-◌}
use Rattle.std.specs.Prelude.{Option, Some, None, Ok}
use Rattle.grid.specs.Cells.{cell}
use Rattle.theory.specs.Allen.{allen}
use Rattle.theory.specs.Sweeps.{Cuts}
use Rattle.plain.specs.Routes.{Changes, CutsFrom}
use Rattle.plain.proofs.cut_routes.Given as goal

-- a route is there to be cut, or all are cut
abbrev pub Ahead : ℕ → ℕ → ℕ → List ℕ → List ℕ → Option (ℕ × ℕ) → Type 0
Ahead n m b g g' (Some f) = (f.0 < b) × Changes n m b g' f.0 f.1
Ahead n m b g g' None = CutsFrom n m b g (Ok tt) g'

-- the events from the route's on
abbrev pub left : ℕ → Option (ℕ × ℕ) → ℕ
left b (Some f) = b - f.0
left b None = 0

abbrev pub invariant-loop-route : goal.invariant-loop-route
invariant-loop-route l = Cuts allen l.n l.initial.g l.g × (l.rows.set ≡ cell l.n l.g l.m l.b) × Ahead l.n l.m l.b l.initial.g l.g l.route

abbrev pub decreases-loop-route : goal.decreases-loop-route
decreases-loop-route l = left l.b l.route
