-- What only the inner functions of this crate cite.
use Rattle.std.specs.Prelude.{◌≡◌, List, ℕ, ◌*◌, ◌≤◌, ◌<◌, get_or, ℤ}
use Rattle.std.specs.declared.cmp.Ordering.{Ordering}
use Rattle.std.specs.declared.cmp.Ordering.TheVariants.{Less, Equal, Greater}
use Rattle.relation.specs.Comparing.{Order, less, same, more}
use Rattle.placing.specs.Placing.{at}
use Rattle.placing.specs.Settling.{ends_before, values_below, gapless_end}

-- how two numbers compare, in the words of Comparing
abbrev pub order_of : Ordering → Order
order_of Less = less
order_of Equal = same
order_of Greater = more

-- how many ends are before each of the 2 * n ends
pub record Counts (n : ℕ) (g counts : List ℕ) : Type 0 where
  pub each : (p : ℕ) → p < 2 * n → get_or counts p 0 ≡ ends_before n g p

-- the most ends that a placing has
abbrev pub most_ends : ℕ
most_ends = 64

-- how many different values are below each number, up to as many as there are counts
pub record Belows (m : ℕ) (counts belows : List ℕ) : Type 0 where
  pub each : (v : ℕ) → v ≤ m → get_or belows v 0 ≡ values_below (λ p. get_or counts p 0) m v

-- the numbers of the 2 * n ends
pub record Numbers (n : ℕ) (g : List ℕ) (xs : List ℤ) : Type 0 where
  pub each : (p : ℕ) → p < 2 * n → at xs p ≡ gapless_end n g p
