-- A try of the search keeps the laws that the theory of searching asks of a closing.
use mathlib.Core.Path.{◌≡◌, refl, sym, ap, subst, ◌∙◌}
use mathlib.Core.Bool.{true}
use mathlib.Core.Logic.{◌⊎◌, inl, inr, ⊎_elim}
use mathlib.Core.List.{List, [], ◌∷◌}
use Prim.Native.Nat.{ℕ, ◌*◌, ◌^◌, ◌<◌}
use native.Mathlib.Decide.{ℕ_discrete, dec_lt}
use native.Mathlib.Omega.{arith}
use lib.Bits.{bit_and, and_self}
use lib.Count.{ones}
use lib.Dec.{T, lit<}
use lib.ListN.{length}
use lib.Pow.{pow_pos}
use Rattle.relation.specs.Comparing.{rel_of}
use Rattle.relation.specs.Meaning.{Event, exchanged}
use Rattle.relation.specs.Sets.{member}
use Rattle.relation.specs.Composition.{converse}
use Rattle.relation.proofs.Tested.{T_of, of_T}
use Rattle.relation.proofs.Rank.{In as Among, here, there}
use Rattle.relation.proofs.SetLaws.{mark_lt}
use Rattle.relation.proofs.Relations.{rel_of_lt}
use Rattle.relation.proofs.ExchangeLaws.{exchanged_lt, rel_of-back, converse_twice, converse-mark}
use Rattle.grid.specs.Cells.{cell, put_both}
use Rattle.grid.proofs.CellLaws.{put_both-length, put_both-same, cell_both_here, cell_both_mirror, cell_both_other}
use Rattle.theory.specs.Allen.{allen}
use Rattle.theory.specs.Closing.{Closed, Closing, Within}
use Rattle.theory.specs.Fair.{Fair}
use Rattle.theory.specs.Line.{pair_of}
use Rattle.theory.specs.Quick as quick
use Rattle.theory.specs.Search.{Pair, emptied, closed, closes_to}
use Rattle.theory.specs.Tried.{enough, tried_by}
use Rattle.theory.proofs.AllenLaws.{lawful, of_sets, eq_lawful, sized, top_lt}
use Rattle.theory.proofs.ClosingLaws.{sub_trans}
use Rattle.theory.proofs.KeepLaws.{Good}
use Rattle.theory.proofs.FairLaws.{good_fair}
use Rattle.theory.proofs.LargestLaws.{closes_same}
use Rattle.theory.proofs.ClosesLaws.{closes_one}
use Rattle.theory.proofs.SettledLaws.{Resting, Right, LeavesGood, run_good}
use Rattle.theory.proofs.TakeLaws.{LeavesLong, run_long}
use Rattle.theory.proofs.TryLaws.{cut_inside, resting, try_right}
use Rattle.theory.proofs.PlacedLaws.{member_only, mark-inside, inside-mark, only_mark, Uses, meets_uses, uses_meets, uses_more, closing_uses, closes_some}
use Rattle.theory.proofs.SearchLaws.{Searchable}
use Rattle.quick.proofs.PairLaws.{closed_fair}
use Rattle.placing.specs.Settling.{settles}
use Rattle.placing.proofs.SettleLaws.{Decided, settled-meets, unsettled_none}
use Rattle.search.specs.Rule.{there_at, try_at}
use Rattle.quick.specs.Steps.{ClosedGrid}

-- ---- the grids that are searched

-- a cell above the diagonal
abbrev pub Upper : ℕ → Pair → Type 0
Upper n p = (p.0 < p.1) × (p.1 < n)

-- the pair has one relation
abbrev pub Single : ℕ → Pair → List ℕ → Type 0
Single n p g = (r : ℕ) × (r < 13) × (cell n g p.0 p.1 ≡ 2 ^ r)

-- closed, without empty cells
pub record Whole (n : ℕ) (g : List ℕ) : Type 0 where
  pub fair : Fair allen n g
  pub closed : Closed allen n (cell n g)
  pub long : length g ≡ n * n

-- and each cell is decided or among those of ps
pub record Ready (n : ℕ) (ps : List Pair) (g : List ℕ) : Type 0 where
  pub whole : Whole n g
  pub decided : (q : Pair) → Upper n q → Among q ps ⊎ Single n q g

-- a list with something among it is not empty
among_some : {q : Pair} {ps : List Pair} → Among q ps → 0 < length ps
among_some here = omega arith
among_some (there w) = omega (arith, among_some w)

-- the grid that the code holds
pub searched_whole : (n : ℕ) (g : List ℕ) → ClosedGrid n g → Whole n g
searched_whole n g S = record { fair = closed_fair n g S; closed = S.closed; long = S.accepted.long }

pub whole_searched : (n : ℕ) (g : List ℕ) → Whole n g → ClosedGrid n g
whole_searched n g W =
    record {
      accepted =
          record {
            few = W.fair.fine.few;
            long = W.long;
            small = λ i j hi hj. omega (arith, top_lt (cell n g i j) (W.fair.fine.topped i j hi hj));
            diagonal = W.fair.fine.diagonal;
            mirrored = W.fair.fine.mirrored;
          };
      full = W.fair.full;
      closed = W.closed;
    }

-- a try with the one relation that is there cuts nothing
pub try_same : (n i j r : ℕ) (g : List ℕ) → ClosedGrid n g → i < n → j < n → cell n g i j ≡ 2 ^ r → try_at n (i, j) r g ≡ closed g
unfolding try_at
try_same n i j r g S hi hj e =
    ap (closes_to allen n) (put_both-same converse n g i j (2 ^ r) (sym e) (ap converse (sym e) ∙ sym (S.accepted.mirrored i j hi hj)))
    ∙ closes_same allen lawful of_sets n g (λ a b ha hb. omega (arith, S.accepted.small a b ha hb)) S.accepted.long S.full S.closed

-- ---- one try, from a grid that is searched

module _ (n : ℕ) (p : Pair) (r : ℕ) (g : List ℕ) (ok : Upper n p) (lt : r < 13) (is : there_at n p r g ≡ true) (W : Whole n g) where
  abbrev cut : List ℕ
  cut = put_both converse n g p.0 p.1 (2 ^ r)

  hi : p.0 < n
  hi = omega (arith, ok.0, ok.1)

  apart : p.0 ≡ p.1 → ⊥
  apart e = omega (arith, ok.0)

  in_cell : bit_and (2 ^ r) (cell n g p.0 p.1) ≡ 2 ^ r
  unfolding there_at
  in_cell = mark-inside r (cell n g p.0 p.1) lt (T_of is)

  back : converse (converse (2 ^ r)) ≡ 2 ^ r
  back = converse_twice (2 ^ r) (mark_lt r lt)

  some : 2 ^ r ≡ 0 → ⊥
  some z = omega (arith, pow_pos r)

  within : Within allen n (cell n cut) (cell n g)
  within = cut_inside allen lawful n g W.fair p.0 p.1 hi ok.1 apart (2 ^ r) in_cell back

  cut_small : (i j : ℕ) → i < n → j < n → cell n cut i j < 8192
  cut_small i j hi hj =
      of_sets.small (cell n cut i j) (cell n g i j) (within i j hi hj) (top_lt (cell n g i j) (W.fair.fine.topped i j hi hj))

  here_cut : cell n cut p.0 p.1 ≡ 2 ^ r
  here_cut = cell_both_here converse n g W.fair.fine.fits p.0 p.1 (2 ^ r) hi ok.1 apart

  -- the takes from the one pair that was cut
  abbrev takes : quick.Ended
  takes = quick.run allen n enough 0 cut (pair_of p.0 p.1 ∷ [])

  -- the grid was closed before, so they are enough
  pub try_short : try_at n p r g ≡ tried_by takes
  unfolding try_at
  try_short =
      closes_one allen lawful eq_lawful of_sets n ones sized (λ i j. top_lt) g W.fair W.long W.closed p.0 p.1 hi ok.1 apart (2 ^ r) in_cell back some

  rest : Resting allen n cut cut (pair_of p.0 p.1 ∷ [])
  rest = resting allen lawful n g W.fair p.0 p.1 hi ok.1 apart (2 ^ r) in_cell back some W.closed

  -- what a try leaves
  record Left (g' : List ℕ) : Type 0 where
    closing : Closing allen n (cell n cut) (cell n g')
    good : Good allen n cut g'
    long : length g' ≡ n * n

  left : (g' : List ℕ) → try_at n p r g ≡ closed g' → Left g'
  left g' z = go takes refl (sym try_short ∙ z)
    where
      go : (e : quick.Ended) → takes ≡ e → tried_by e ≡ closed g' → Left g'
      go (quick.contradiction t) q z = absurd (let y : ◌≡◌ {A = ℕ} 0 1 = cc in omega arith)
      go (quick.closed t h) q z =
          let k : h ≡ g' = cc in
          subst Left k
          (record {
            closing =
                subst (Right allen n cut) q
                (try_right allen lawful n g W.fair p.0 p.1 hi ok.1 apart (2 ^ r) in_cell back some W.closed eq_lawful enough);
            good = subst (LeavesGood allen n cut) q (run_good allen lawful n W.fair.fine.few cut enough 0 cut (pair_of p.0 p.1 ∷ []) rest);
            long =
                subst (LeavesLong (n * n)) q
                (run_long allen lawful n W.fair.fine.few cut (n * n) enough 0 cut (pair_of p.0 p.1 ∷ []) rest
                (put_both-length converse n g p.0 p.1 (2 ^ r) ∙ W.long));
          })
      go (quick.paused t h) q z = absurd (let y : ◌≡◌ {A = ℕ} 0 1 = cc in omega arith)

  -- a placing with relation r for the pair uses the cut grid too
  uses_cut : (P : ℕ → Event) → Uses n P (cell n g) → rel_of (P p.0) (P p.1) ≡ r → Uses n P (cell n cut)
  uses_cut P u e a b ha hb = go (ℕ_discrete a p.0) (ℕ_discrete b p.1) (ℕ_discrete a p.1) (ℕ_discrete b p.0)
    where
      this : a ≡ p.0 → b ≡ p.1 → T (member (rel_of (P a) (P b)) (cell n cut a b))
      this q w = rw (q, w, here_cut, e) (inside-mark r (2 ^ r) lt (and_self (2 ^ r)))

      that : a ≡ p.1 → b ≡ p.0 → T (member (rel_of (P a) (P b)) (cell n cut a b))
      that q w =
          rw (q, w, cell_both_mirror converse n g W.fair.fine.fits p.0 p.1 (2 ^ r) hi ok.1, rel_of-back (P p.0) (P p.1), e, converse-mark r lt)
          (inside-mark (exchanged r) (2 ^ exchanged r) (exchanged_lt r lt) (and_self (2 ^ exchanged r)))

      kept : ((a ≡ p.0) × (b ≡ p.1) → ⊥) → ((a ≡ p.1) × (b ≡ p.0) → ⊥) → T (member (rel_of (P a) (P b)) (cell n cut a b))
      kept q w = rw (cell_both_other converse n g W.fair.fine.fits p.0 p.1 (2 ^ r) hi ok.1 a b hb q w) (u a b ha hb)

      last : ((a ≡ p.0) × (b ≡ p.1) → ⊥) → Dec (a ≡ p.1) → Dec (b ≡ p.0) → T (member (rel_of (P a) (P b)) (cell n cut a b))
      last q (yes v) (yes w) = that v w
      last q (yes v) (no w) = kept q (λ z. w z.1)
      last q (no v) w = kept q (λ z. v z.0)

      go : Dec (a ≡ p.0) → Dec (b ≡ p.1) → Dec (a ≡ p.1) → Dec (b ≡ p.0) → T (member (rel_of (P a) (P b)) (cell n cut a b))
      go (yes q) (yes w) d f = this q w
      go (yes q) (no w) d f = last (λ z. w z.1) d f
      go (no q) w d f = last (λ z. q z.0) d f

  -- ---- the laws, of this try

  pub try_keeps : (P : ℕ → Event) (g' : List ℕ) → Uses n P (cell n g) → rel_of (P p.0) (P p.1) ≡ r → try_at n p r g ≡ closed g' → Uses n P (cell n g')
  try_keeps P g' u e q = closing_uses n P (cell n cut) (cell n g') (left g' q).closing (uses_cut P u e)

  pub try_never : (P : ℕ → Event) → Uses n P (cell n g) → rel_of (P p.0) (P p.1) ≡ r → try_at n p r g ≡ emptied → ⊥
  unfolding try_at
  try_never P u e q = closes_some n P cut cut_small (uses_cut P u e) q

  pub try_inside : (g' : List ℕ) → try_at n p r g ≡ closed g' → Within allen n (cell n g') (cell n g)
  try_inside g' q a b ha hb =
      sub_trans allen lawful (cell n g' a b) (cell n cut a b) (cell n g a b) ((left g' q).closing.inside a b ha hb) (within a b ha hb)

  -- the pair has relation r alone
  try_chosen : (g' : List ℕ) → try_at n p r g ≡ closed g' → cell n g' p.0 p.1 ≡ 2 ^ r
  try_chosen g' q =
      only_mark r (cell n g' p.0 p.1) lt
      (subst (λ (x : ℕ). bit_and (cell n g' p.0 p.1) x ≡ cell n g' p.0 p.1) here_cut ((left g' q).closing.inside p.0 p.1 hi ok.1))
      ((left g' q).good.full p.0 p.1 hi ok.1)

  pub try_relation : (P : ℕ → Event) (g' : List ℕ) → try_at n p r g ≡ closed g' → Uses n P (cell n g') → rel_of (P p.0) (P p.1) ≡ r
  try_relation P g' q u =
      member_only r (rel_of (P p.0) (P p.1)) lt (rel_of_lt (P p.0) (P p.1))
      (subst (λ (x : ℕ). T (member (rel_of (P p.0) (P p.1)) x)) (try_chosen g' q) (u p.0 p.1 hi ok.1))

  pub try_whole : (g' : List ℕ) → try_at n p r g ≡ closed g' → Whole n g'
  try_whole g' q =
      let l = left g' q in
      record { fair = good_fair allen lawful n cut g' W.fair.fine.few l.good; closed = l.closing.closed; long = l.long }

  pub try_ready : (ps : List Pair) → ((q : Pair) → Upper n q → Among q (p ∷ ps) ⊎ Single n q g) → (g' : List ℕ) → try_at n p r g ≡ closed g' → Ready n ps g'
  try_ready ps before g' q = record { whole = try_whole g' q; decided = decided }
    where
      stays : (s : Pair) → Upper n s → Single n s g → Single n s g'
      stays s o w =
          let h : s.0 < n = omega (arith, o.0, o.1) in (
            w.0,
            w.1,
            only_mark w.0 (cell n g' s.0 s.1) w.1
                (subst (λ (x : ℕ). bit_and (cell n g' s.0 s.1) x ≡ cell n g' s.0 s.1) w.2 (try_inside g' q s.0 s.1 h o.1))
                ((left g' q).good.full s.0 s.1 h o.1),
          )

      first_or : (s : Pair) → Among s (p ∷ ps) → (s ≡ p) ⊎ Among s ps
      first_or s here = inl refl
      first_or s (there w) = inr w

      decided : (s : Pair) → Upper n s → Among s ps ⊎ Single n s g'
      decided s o =
          ⊎_elim
          (λ w. ⊎_elim (λ e. inr (subst (λ (x : Pair). Single n x g') (sym e) (r, lt, try_chosen g' q))) (λ v. inl v) (first_or s w))
          (λ w. inr (stays s o w)) (before s o)

-- ---- past the last cell

module _ (n : ℕ) (g : List ℕ) (R : Ready n [] g) where
  single : (i j : ℕ) → i < j → j < n → (r : ℕ) × (r < 13) × (cell n g i j ≡ 2 ^ r)
  single i j h k = ⊎_elim (λ w. absurd (omega (arith, among_some w))) (λ w. w) (R.decided (i, j) (h, k))

  pub ready_decided : Decided n g
  ready_decided =
      record {
        single = λ i j hi hj. each i j hi hj (dec_lt i j) (dec_lt j i);
        diagonal = R.whole.fair.fine.diagonal;
        mirrored = R.whole.fair.fine.mirrored;
      }
    where
      each : (i j : ℕ) → i < n → j < n → Dec (i < j) → Dec (j < i) → (r : ℕ) × (r < 13) × (cell n g i j ≡ 2 ^ r)
      each i j hi hj (yes l) d = single i j l hj
      each i j hi hj (no l) (yes m) =
          let w = single j i m hi in
          (exchanged w.0, exchanged_lt w.0 w.1, R.whole.fair.fine.mirrored j i hj hi ∙ ap converse w.2 ∙ converse-mark w.0 w.1)
      each i j hi hj (no l) (no m) = let e : j ≡ i = omega arith in (12, lit< tt, ap (cell n g i) e ∙ R.whole.fair.fine.diagonal i hi)

-- ---- all the laws

is-there : (n : ℕ) (P : ℕ → Event) (p : Pair) (g : List ℕ) → Upper n p → Uses n P (cell n g) → there_at n p (rel_of (P p.0) (P p.1)) g ≡ true
unfolding there_at
is-there n P p g ok u =
    of_T (member (rel_of (P p.0) (P p.1)) (cell n g p.0 p.1)) (u p.0 p.1 (omega (arith, ok.0, ok.1)) ok.1)

pub searchable : (n : ℕ) → Searchable (there_at n) (try_at n) (settles n) (ℕ → Event) (λ P p. rel_of (P p.0) (P p.1)) (λ P g. Uses n P (cell n g)) (Upper n) (Ready n)
searchable n =
    record {
      small = λ P p. rel_of_lt (P p.0) (P p.1);
      has = λ P p ps g ok R u. is-there n P p g ok u;
      keeps = λ P p ps g g' ok R u q.
          try_keeps n p (rel_of (P p.0) (P p.1)) g ok (rel_of_lt (P p.0) (P p.1)) (is-there n P p g ok u) R.whole P g' u refl q;
      never = λ P p ps g ok R u q.
          try_never n p (rel_of (P p.0) (P p.1)) g ok (rel_of_lt (P p.0) (P p.1)) (is-there n P p g ok u) R.whole P u refl q;
      good = λ p ps r g g' ok lt is R q. try_ready n p r g ok lt is R.whole ps R.decided g' q;
      inside = λ P p ps r g g' ok lt is R q u. uses_more n P (cell n g') (cell n g) (try_inside n p r g ok lt is R.whole g' q) u;
      chosen = λ P p ps r g g' ok lt is R q u. try_relation n p r g ok lt is R.whole P g' q u;
      fit = λ g R e. let m = settled-meets n g e in (m.placing, meets_uses n g m.placing m.meets);
      unfit = λ g R e P u. unsettled_none n g (ready_decided n g R) e P (uses_meets n g P u);
    }
