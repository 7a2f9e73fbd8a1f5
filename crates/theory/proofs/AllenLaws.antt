-- The thirteen relations keep every law that closing uses.
use mathlib.Core.Path.{◌≡◌, refl, ap, ◌∙◌}
use mathlib.Core.List.{List}
use Prim.Native.Nat.{ℕ, ◌<◌}
use native.Mathlib.Omega.{arith}
use lib.Dec.{lit<}
use lib.Bits.{bit_and, and_comm, and_self, and_zero_r, and_le_r}
use lib.Count.{ones}
use Rattle.relation.specs.Composition.{converse, compose}
use Rattle.relation.proofs.SetLaws.{and_inside, inside_and}
use Rattle.relation.proofs.ExchangeLaws.{converse-none, converse_and}
use Rattle.relation.proofs.Laws.{compose_lt, compose_mono, compose-converse, compose-none-left, compose-none-right, compose-eq-left, compose-eq-right, compose-all-left, compose-all-right, eq-inside}
use Rattle.grid.specs.Cells.{cell}
use Rattle.theory.specs.Quick.{cut_to}
use Rattle.theory.specs.Fair.{Fair}
use Rattle.theory.specs.Allen.{allen}
use Rattle.theory.proofs.Lawful.{Lawful, OfSets, EqLawful}
use Rattle.theory.proofs.TakeLaws.{Sized}
use Rattle.theory.proofs.MeetLaws.{and_assoc, ones_less, ones_most}

pub lawful : Lawful allen
lawful =
    record {
      meet_comm = and_comm;
      meet_assoc = and_assoc;
      meet_self = and_self;
      meet_zero = and_zero_r;
      conv_zero = converse-none;
      conv-meet = converse_and;
      comp_mono = λ i k j a b a' b' p q.
          inside_and (compose a b) (compose a' b') (compose_lt a b) (compose_mono a a' b b' (and_inside a a' p) (and_inside b b' q));
      comp_zero_l = λ i k j b. compose-none-left b;
      comp_zero_r = λ i k j a. compose-none-right a;
      conv-comp = λ i k j a b. compose-converse a b;
    }

-- a set inside all sets is below 8192
pub top_lt : (a : ℕ) → bit_and a 8191 ≡ a → a < 8192
top_lt a e = omega (arith, and_le_r a 8191)

pub of_sets : OfSets allen
of_sets = record { members = and_inside; inside = inside_and; small = λ a b e h. omega (arith, and_le_r a b) }

pub eq_lawful : EqLawful allen
eq_lawful =
    record {
      eq_l = λ i j a t. ap (bit_and a) (compose-eq-left a (top_lt a t)) ∙ and_self a;
      eq_r = λ i j a t. ap (bit_and a) (compose-eq-right a (top_lt a t)) ∙ and_self a;
      eq_in = λ i j a t nz. inside_and 4096 (compose a (converse a)) (lit< tt) (eq-inside a nz (top_lt a t));
    }

-- the members of a set are counted by its ones
pub sized : Sized allen ones
sized = record { less = ones_less; most = λ i j a t. ones_most a t }

-- what is left of (a, b), from the cells read
pub left_is : (n a m b : ℕ) (g : List ℕ) (ab am mb y : ℕ) → ab ≡ cell n g a b → am ≡ cell n g a m → mb ≡ cell n g m b → y ≡ compose am mb → bit_and ab y ≡ cut_to allen (cell n g) a m b
left_is n a m b g ab am mb y e₁ e₂ e₃ e₄ = rw (e₄, e₁, e₂, e₃) refl

-- where nothing is said of one half of a route, it leaves its cell as it is
module _ (n : ℕ) (g : List ℕ) (F : Fair allen n g) (a m b : ℕ) (ha : a < n) (hm : m < n) (hb : b < n) where
  small : (x y : ℕ) → x < n → y < n → cell n g x y < 8192
  small x y hx hy = top_lt (cell n g x y) (F.fine.topped x y hx hy)

  pub past_first : cell n g a m ≡ 8191 → cut_to allen (cell n g) a m b ≡ cell n g a b
  past_first all =
      ap (λ (x : ℕ). bit_and (cell n g a b) (compose x (cell n g m b))) all
      ∙ ap (bit_and (cell n g a b)) (compose-all-left (cell n g m b) (F.full m b hm hb) (small m b hm hb)) ∙ F.fine.topped a b ha hb

  pub past_second : cell n g m b ≡ 8191 → cut_to allen (cell n g) a m b ≡ cell n g a b
  past_second all =
      ap (λ (x : ℕ). bit_and (cell n g a b) (compose (cell n g a m) x)) all
      ∙ ap (bit_and (cell n g a b)) (compose-all-right (cell n g a m) (F.full a m ha hm) (small a m ha hm)) ∙ F.fine.topped a b ha hb
