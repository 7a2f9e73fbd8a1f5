-- The lines of the events, put in one after the other.
use mathlib.Core.Path.{◌≡◌, ◌∙◌, ap}
use mathlib.Core.List.{List, []}
use Prim.Native.Nat.{ℕ, ◌+◌, ◌*◌}
use native.Mathlib.Numerals.{add-one}
use lib.IntN.{ℤ}
use lib.ListN.{get_or}
use Rattle.placing.specs.Placing.{at, natural_of}
use Rattle.placing.proofs.SignedLaws.{back, Small, back_is}
use Rattle.report.specs.Report.{event_line, event_lines}
use Rattle.report.specs.Steps.{Adds}
use Rattle.report.specs.declared.page.Page.{Page}
use Rattle.report.proofs.AddsLaws.{adds_none, adds_then}

pub adds_no_line : (p : Page) (names : List (List ℕ)) (xs : List ℤ) → Adds p p (event_lines names xs 0)
unfolding event_lines
adds_no_line p names xs = adds_none p

pub adds-line : {old mid new : Page} (names : List (List ℕ)) (xs : List ℤ) (k : ℕ) (name : List ℕ) (start end : ℕ)
    → name ≡ get_or names k [] → start ≡ natural_of (at xs (2 * k)) → end ≡ natural_of (at xs (2 * k + 1))
    → Adds old mid (event_lines names xs k) → Adds mid new (event_line name start end) → Adds old new (event_lines names xs (k + 1))
unfolding event_lines
adds-line names xs k name start end p q r u v = rw (add-one k, ← p, ← q, ← r) (adds_then u v)

-- a number of the placing, as it is handed to a call
pub natural-is : (x : ℤ) → Small x → (k : ℕ) → k ≡ natural_of (back x) → k ≡ natural_of x
natural-is x h k e = e ∙ ap natural_of (back_is x h)
