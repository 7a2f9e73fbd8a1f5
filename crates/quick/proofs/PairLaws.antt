-- Takes, however many, say what closing leaves: from all pairs, and from the one pair that was cut in a closed grid.
use mathlib.Core.Path.{◌≡◌, refl, sym, ap, ◌∙◌}
use mathlib.Core.List.{List, [], ◌∷◌}
use Prim.Native.Nat.{ℕ, ◌*◌, ◌<◌}
use native.Mathlib.Omega.{arith}
use lib.Count.{ones}
use lib.ListN.{length}
use Rattle.relation.specs.Composition.{converse}
use Rattle.relation.proofs.ExchangeLaws.{converse_lt, converse_twice}
use Rattle.grid.specs.Cells.{cell, put_both}
use Rattle.theory.specs.Allen.{allen}
use Rattle.theory.specs.Fair.{Fair}
use Rattle.theory.specs.Line.{Pairs, pair_of, all_pairs, joins, occurs}
use Rattle.theory.specs.Quick.{Ended, run}
use Rattle.theory.specs.Search.{closes_to}
use Rattle.theory.specs.Tried.{enough, tried_by}
use Rattle.theory.proofs.AllenLaws.{lawful, of_sets, eq_lawful, sized, top_lt}
use Rattle.theory.proofs.ClosesLaws.{closes_all, closes_one}
use Rattle.theory.proofs.FairLaws.{put_fair}
use Rattle.theory.proofs.GivenLaws.{fine}
use Rattle.theory.proofs.LineLaws.{occurs_nil, pair_ok, pairs-joins}
use Rattle.theory.proofs.MeetLaws.{sub_top}
use Rattle.quick.specs.Steps.{ClosedGrid, Cuttable}

pub closes_by_takes : (n : ℕ) (g : List ℕ) → Fair allen n g → length g ≡ n * n → closes_to allen n g ≡ tried_by (run allen n enough 0 g (all_pairs n))
closes_by_takes n g F long = closes_all allen lawful eq_lawful of_sets n ones sized (λ i j. top_lt) g F long

pub closed_fair : (n : ℕ) (g : List ℕ) → ClosedGrid n g → Fair allen n g
closed_fair n g C = record { fine = fine n g C.accepted; full = C.full }

joins_alone : (p : ℕ) → joins p [] ≡ p ∷ []
unfolding joins occurs
joins_alone p = refl

module _ (n i j v : ℕ) (g : List ℕ) (C : Cuttable n i j v g) where
  abbrev cut : List ℕ
  cut = put_both converse n g i j v

  small : v < 8192
  small = of_sets.small v (cell n g i j) C.inside (omega (arith, C.grid.accepted.small i j C.from C.to))

  -- the cut, as it was written
  pub cut_fair : Fair allen n cut
  cut_fair =
      put_fair allen lawful n g (closed_fair n g C.grid) i j C.from C.to C.apart v (sub_top v (omega (arith, small)))
      (sub_top (converse v) (omega (arith, converse_lt v))) (converse_twice v small) C.some

  -- and the takes from it
  pub closes_by_pair : (e : Ended) → e ≡ run allen n enough 0 cut (joins (pair_of i j) []) → tried_by e ≡ closes_to allen n cut
  closes_by_pair e f =
      ap tried_by (f ∙ ap (run allen n enough 0 cut) (joins_alone (pair_of i j)))
      ∙ sym (closes_one allen lawful eq_lawful of_sets n ones sized (λ x y. top_lt) g (closed_fair n g C.grid) C.grid.accepted.long C.grid.closed i j
      C.from C.to C.apart v C.inside (converse_twice v small) C.some)

  -- the pair alone waits
  pub pair_waits : Pairs n (joins (pair_of i j) [])
  pair_waits = pairs-joins n (pair_of i j) [] (pair_ok n i j C.grid.accepted.few C.from C.to C.apart) (λ p h. absurd (omega (arith, h, occurs_nil p)))
