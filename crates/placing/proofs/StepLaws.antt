-- What the steps of settling give: from the counts of the ends to their numbers, and from the numbers to the answer and the room.
use mathlib.Core.Path.{◌≡◌, sym, ap, ap₂, ◌∙◌}
use mathlib.Core.Bool.{Bool, true, false, cond, not, ◌&&◌}
use mathlib.Core.List.{List}
use Prim.Native.Nat.{ℕ, ◌*◌, ◌≤◌, ◌<◌}
use native.Mathlib.Omega.{arith}
use lib.ListN.{length, get_or, take}
use lib.Seq.{length-take-le, get_or-take}
use lib.IntN.{ℤ, pos}
use Rattle.placing.specs.Placing.{at}
use Rattle.placing.specs.Checking.{some_late}
use Rattle.placing.specs.Settling.{end_before, ends_before, values_below, end_number, gapless_end, placing_of, some_missed, settles, Settled}
use Rattle.placing.specs.Steps.{most_ends, Counts, Belows, Numbers}
use Rattle.placing.proofs.CountLaws.{count_le}
use Rattle.placing.proofs.GaplessLaws.{values_le, values_same}
use Rattle.placing.proofs.PlacingLaws.{Alike, alike_equal, late_alike, missed_alike}
use Rattle.placing.proofs.SettleLaws.{is-list_of}

-- the number of end p, as it is looked up
pub record LookedUp (n : ℕ) (g counts belows : List ℕ) (p : ℕ) : Type 0 where
  pub count_le : get_or counts p 0 ≤ most_ends
  pub number_le : get_or belows (get_or counts p 0) 0 ≤ most_ends
  pub is : get_or belows (get_or counts p 0) 0 ≡ end_number n g p

pub looked_up : (n : ℕ) (g counts belows : List ℕ) → n ≤ 32 → 2 * n ≤ length counts → Counts n g counts
    → Belows (length (take (2 * n) counts)) (take (2 * n) counts) belows → (p : ℕ) → p < 2 * n → LookedUp n g counts belows p
unfolding ends_before end_number
looked_up n g counts belows few fits C B p h =
    let e = C.each p h in
    let k : length (take (2 * n) counts) ≡ 2 * n = length-take-le (2 * n) counts fits in
    let l : get_or counts p 0 ≤ 2 * n = omega (arith, count_le (λ q. end_before n g q p) (2 * n)) in
    let b = B.each (get_or counts p 0) (omega arith) in
    record {
      count_le = omega arith;
      number_le = omega (arith, values_le (λ q. get_or (take (2 * n) counts) q 0) (length (take (2 * n) counts)) (get_or counts p 0));
      is =
          b ∙ ap (λ (m : ℕ). values_below (λ q. get_or (take (2 * n) counts) q 0) m (get_or counts p 0)) k
          ∙ values_same (2 * n) (λ q. get_or (take (2 * n) counts) q 0) (ends_before n g) (λ q i. get_or-take (2 * n) counts q 0 i ∙ C.each q i) (get_or counts p 0)
          ∙ ap (λ (v : ℕ). values_below (ends_before n g) (2 * n) v) e;
    }

-- the first 2 * n numbers are the placing
first-placing : (n : ℕ) (g : List ℕ) (xs : List ℤ) → 2 * n ≤ length xs → Numbers n g xs → take (2 * n) xs ≡ placing_of n g
unfolding placing_of
first-placing n g xs l N =
    is-list_of (2 * n) (gapless_end n g) (take (2 * n) xs) (length-take-le (2 * n) xs l) (λ p h. get_or-take (2 * n) xs p (pos 0) h ∙ N.each p h)

unsettled : (n : ℕ) (g : List ℕ) (room : List ℤ) → settles n g ≡ false → Settled n g room room false
unsettled n g room s = record { answer = sym s; room_after = sym (ap (λ (x : Bool). cond x (placing_of n g) room) s) }

-- ---- the answer, from the two tests of the numbers

module _ (n : ℕ) (g : List ℕ) (xs : List ℤ) (N : Numbers n g xs) where
  numbers_alike : Alike n (gapless_end n g) (at xs)
  numbers_alike = alike_equal n (gapless_end n g) (at xs) (λ p h. sym (N.each p h))

  settles_tests : settles n g ≡ (not (some_late n (at xs)) && not (some_missed n g (at xs)))
  unfolding settles
  settles_tests =
      ap₂ (λ (x y : Bool). not x && not y) (late_alike n (gapless_end n g) (at xs) numbers_alike)
      (missed_alike n (gapless_end n g) (at xs) numbers_alike g)

  pub late_unsettled : (room : List ℤ) → some_late n (at xs) ≡ true → Settled n g room room false
  late_unsettled room e =
      unsettled n g room (settles_tests ∙ ap (λ (x : Bool). not x && not (some_missed n g (at xs))) e)

  pub missed_unsettled : (room : List ℤ) → some_late n (at xs) ≡ false → some_missed n g (at xs) ≡ true → Settled n g room room false
  missed_unsettled room l e = unsettled n g room (settles_tests ∙ ap₂ (λ (x y : Bool). not x && not y) l e)

  pub copied_settled : (room after : List ℤ) → 2 * n ≤ length xs → some_late n (at xs) ≡ false → some_missed n g (at xs) ≡ false
      → after ≡ take (2 * n) xs → Settled n g room after true
  copied_settled room after size l e q =
      let s = settles_tests ∙ ap₂ (λ (x y : Bool). not x && not y) l e in
      record {
        answer = sym s;
        room_after = q ∙ first-placing n g xs size N ∙ sym (ap (λ (x : Bool). cond x (placing_of n g) room) s);
      }
