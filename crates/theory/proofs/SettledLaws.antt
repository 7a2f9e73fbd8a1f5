-- When nothing waits the grid is closed: what each cut, turn, take and run keeps.
use mathlib.Core.Path.{◌≡◌, sym, ◌∙◌}
use mathlib.Core.Logic.{◌⊎◌, inl, inr, ⊎_elim}
use mathlib.Core.List.{List, [], ◌∷◌}
use Prim.Native.Nat.{ℕ, zero, suc, ◌+◌, ◌/◌, ◌%◌, ◌≤◌, ◌<◌}
use native.Mathlib.Omega.{arith}
use native.Mathlib.Decide.{ℕ_discrete}
use Rattle.grid.specs.Cells.{cell, put_both}
use Rattle.theory.specs.Calculus.{Calculus, Sub}
use Rattle.theory.specs.Closing.{Closed, Closing}
use Rattle.theory.specs.Line.{IsPair, Pairs, joins, pair_of, occurs}
use Rattle.theory.specs.Quick.{cut_to, Out, dead, going, and_then, cut, cut_back, turn, turns, take, run, go_on, Ended, contradiction, closed, paused}
use Rattle.theory.specs.Sweeps.{Distinct}
use Rattle.theory.proofs.ClosingLaws.{IsCut, cut-within, mirror_cut, reached_closed, sub_trans, sub_meet_r}
use Rattle.theory.proofs.KeepLaws.{Good, Came, same, emptied, shrank, came, is_cut, good_shrank, good_dead}
use Rattle.theory.proofs.Lawful.{Lawful, EqLawful}
use Rattle.theory.proofs.LineLaws.{joins-keeps, joins_here, pairs-joins, occurs-cons-same, occurs-cons-other, occurs_nil, pair_comm, pair_same, pair_swap, pair-second, pair-events, pair_ok}
use Rattle.theory.proofs.QuickLaws.{turn_skip_i, turn_skip_j, turn_is}

-- (a, b) lies inside what (a, c) with (c, b) allows
abbrev pub Via : Calculus → ℕ → List ℕ → ℕ → ℕ → ℕ → Type 0
Via A n g a b c = Sub A (cell n g a b) (A.comp a c b (cell n g a c) (cell n g c b))

-- routes with two equal events always hold, so those over three different ones are enough
pub closed-apart : (A : Calculus) → EqLawful A → (n : ℕ) (g₀ g : List ℕ) → Good A n g₀ g → ((i j k : ℕ) → Distinct n i j k → Via A n g i j k)
    → Closed A n (cell n g)
closed-apart A E n g₀ g G apart i j k hi hj hk = go (ℕ_discrete i k) (ℕ_discrete k j) (ℕ_discrete i j)
  where
    go : Dec (i ≡ k) → Dec (k ≡ j) → Dec (i ≡ j) → Via A n g i j k
    go (yes p) d e = rw (← p, G.diagonal i hi) (E.eq_l i j (cell n g i j) (G.topped i j hi hj))
    go (no p) (yes q) e = rw (q, G.diagonal j hj) (E.eq_r i j (cell n g i j) (G.topped i j hi hj))
    go (no p) (no q) (yes e) = rw (← e, G.diagonal i hi, G.reached.mirrored i k hi hk) (E.eq_in i k (cell n g i k) (G.topped i k hi hk) (G.full i k hi hk))
    go (no p) (no q) (no e) = apart i j k (record { ha = hi; hb = hj; hc = hk; ab = e; bc = λ z. q (sym z); ac = p })

abbrev pub Waits : List ℕ → ℕ → ℕ → Type 0
Waits q a b = 0 < occurs (pair_of a b) q

-- the route from a to b over c holds, or one of its two pairs waits
abbrev pub Served : Calculus → ℕ → List ℕ → List ℕ → ℕ → ℕ → ℕ → Type 0
Served A n g q a b c = Via A n g a b c ⊎ (Waits q a c ⊎ Waits q c b)

abbrev pub Settled : Calculus → ℕ → List ℕ → List ℕ → Type 0
Settled A n g q = (a b c : ℕ) → Distinct n a b c → Served A n g q a b c

-- in the take of (i, j), before turn k: the turns from k on are owed
abbrev pub Owed : ℕ → ℕ → ℕ → ℕ → ℕ → ℕ → Type 0
Owed i j k a b c = ((pair_of a c ≡ pair_of i j) × (k ≤ b)) ⊎ ((pair_of c b ≡ pair_of i j) × (k ≤ a))

abbrev pub Mid : Calculus → ℕ → ℕ → ℕ → ℕ → List ℕ → List ℕ → Type 0
Mid A n i j k g q = (a b c : ℕ) → Distinct n a b c → Served A n g q a b c ⊎ Owed i j k a b c

-- what a cut of (x, y) over m keeps, and what it brings
pub record Stepped (A : Calculus) (n : ℕ) (g₀ g q g' q' : List ℕ) (x m y : ℕ) : Type 0 where
  pub good : Good A n g₀ g'
  pub pairs : Pairs n q'
  pub served : (a b c : ℕ) → Distinct n a b c → Served A n g q a b c → Served A n g' q' a b c
  pub there : Via A n g' x y m
  pub back : Via A n g' y x m

abbrev pub After : Calculus → ℕ → List ℕ → List ℕ → List ℕ → ℕ → ℕ → ℕ → Out → Type 0
After A n g₀ g q x m y dead = Closing A n (cell n g₀) (λ i j. 0)
After A n g₀ g q x m y (going g' q') = Stepped A n g₀ g q g' q' x m y

module _ (A : Calculus) (L : Lawful A) (n : ℕ) (few : n ≤ 32) (g₀ g q : List ℕ) (G : Good A n g₀ g) (Q : Pairs n q) (x m y : ℕ) (d : Distinct n x y m) where
  abbrev v : ℕ
  v = cut_to A (cell n g) x m y

  abbrev g' : List ℕ
  g' = put_both A.conv n g x y v

  abbrev q' : List ℕ
  q' = joins (pair_of x y) q

  cutted : IsCut A n (cell n g) (cell n g') x m y
  cutted = is_cut A L n g₀ g G x m y d.ha d.hc d.hb d.ab

  -- a cell of another pair is as it was
  other : (a b : ℕ) → a < n → b < n → (pair_of a b ≡ pair_of x y → ⊥) → cell n g' a b ≡ cell n g a b
  other a b ha hb ne = cutted.rest a b ha hb (λ w. ne (pair_same w.0 w.1)) (λ w. ne (pair_swap w.0 w.1))

  waits_here : (a b : ℕ) → pair_of a b ≡ pair_of x y → Waits q' a b
  waits_here a b e = rw e (joins_here (pair_of x y) q)

  served_via : (a b c : ℕ) → Distinct n a b c → Via A n g a b c → Dec (pair_of a c ≡ pair_of x y) → Dec (pair_of c b ≡ pair_of x y) → Served A n g' q' a b c
  served_via a b c t w (yes e) f = inr (inl (waits_here a c e))
  served_via a b c t w (no e) (yes f) = inr (inr (waits_here c b f))
  served_via a b c t w (no e) (no f) =
      inl
      (rw (other a c t.ha t.hc e, other c b t.hc t.hb f)
      (sub_trans A L _ _ _ (cut-within A L n (cell n g) (cell n g') x m y d.ha d.hc d.hb G.reached.mirrored cutted a b t.ha t.hb) w))

  served_shrank : (a b c : ℕ) → Distinct n a b c → Served A n g q a b c → Served A n g' q' a b c
  served_shrank a b c t (inl w) = served_via a b c t w (ℕ_discrete (pair_of a c) (pair_of x y)) (ℕ_discrete (pair_of c b) (pair_of x y))
  served_shrank a b c t (inr (inl w)) = inr (inl (joins-keeps (pair_of x y) q (pair_of a c) w))
  served_shrank a b c t (inr (inr w)) = inr (inr (joins-keeps (pair_of x y) q (pair_of c b) w))

  mirror_is : A.conv v ≡ A.meet (cell n g y x) (A.comp y m x (cell n g y m) (cell n g m x))
  mirror_is = mirror_cut A L n (cell n g) (cell n g') x m y d.ha d.hc d.hb G.reached.mirrored cutted

  bx : x < 32
  bx = omega (arith, d.ha, few)

  by : y < 32
  by = omega (arith, d.hb, few)

  bm : m < 32
  bm = omega (arith, d.hc, few)

  -- the two pairs of the route are not the pair that is cut
  not_xm : pair_of x m ≡ pair_of x y → ⊥
  not_xm e = d.bc (sym (pair-second x m y bx bm by e))

  not_my : pair_of m y ≡ pair_of x y → ⊥
  not_my e = d.ac (sym (pair-second y m x by bm bx (pair_comm y m ∙ e ∙ pair_comm x y)))

  there_shrank : Via A n g' x y m
  there_shrank = rw (other x m d.ha d.hc not_xm, other m y d.hc d.hb not_my, cutted.here) (sub_meet_r A L _ _)

  back_shrank : Via A n g' y x m
  back_shrank =
      rw (other y m d.hb d.hc (λ e. not_my (pair_comm m y ∙ e)), other m x d.hc d.ha (λ e. not_xm (pair_comm x m ∙ e)), cutted.mirror, mirror_is)
      (sub_meet_r A L _ _)

  pairs_shrank : Pairs n q'
  pairs_shrank = pairs-joins n (pair_of x y) q (pair_ok n x y few d.ha d.hb d.ab) Q

  back-same : v ≡ cell n g x y → Via A n g y x m
  back-same e = cc (mirror_is, G.reached.mirrored x y d.ha d.hb)

  after : {o : Out} → Came A n x m y g q o → After A n g₀ g q x m y o
  after (same e) = record { good = G; pairs = Q; served = λ a b c t s. s; there = e; back = back-same e }
  after (emptied z) = good_dead A L n g₀ g G x m y d.ha d.hc d.hb d.ab z
  after (shrank ne nz) =
      record {
        good = good_shrank A L n g₀ g G x m y d.ha d.hc d.hb d.ab nz;
        pairs = pairs_shrank;
        served = served_shrank;
        there = there_shrank;
        back = back_shrank;
      }

  pub cut_ok : After A n g₀ g q x m y (cut A n x m y g q)
  cut_ok = after (came A n x m y g q)

-- after turn k of the take of (i, j)
pub record Between (A : Calculus) (n : ℕ) (g₀ : List ℕ) (i j k : ℕ) (g q : List ℕ) : Type 0 where
  pub good : Good A n g₀ g
  pub pairs : Pairs n q
  pub mid : Mid A n i j k g q

abbrev pub Turned : Calculus → ℕ → List ℕ → ℕ → ℕ → ℕ → Out → Type 0
Turned A n g₀ i j k dead = Closing A n (cell n g₀) (λ a b. 0)
Turned A n g₀ i j k (going g q) = Between A n g₀ i j k g q

-- between takes
pub record Resting (A : Calculus) (n : ℕ) (g₀ g q : List ℕ) : Type 0 where
  pub good : Good A n g₀ g
  pub pairs : Pairs n q
  pub settled : Settled A n g q

abbrev pub Taken : Calculus → ℕ → List ℕ → Out → Type 0
Taken A n g₀ dead = Closing A n (cell n g₀) (λ a b. 0)
Taken A n g₀ (going g q) = Resting A n g₀ g q

module _ (A : Calculus) (L : Lawful A) (n : ℕ) (few : n ≤ 32) (g₀ : List ℕ) (i j : ℕ) (hi : i < n) (hj : j < n) (ij : i ≡ j → ⊥) where
  small : (a : ℕ) → a < n → a < 32
  small a h = omega arith

  events : (a c : ℕ) → a < n → c < n → pair_of a c ≡ pair_of i j → ((a ≡ i) × (c ≡ j)) ⊎ ((a ≡ j) × (c ≡ i))
  events a c ha hc e = pair-events a c i j (small a ha) (small c hc) (small i hi) (small j hj) e

  -- a third event is neither i nor j
  third : (a b c k : ℕ) → a < n → c < n → (a ≡ b → ⊥) → (b ≡ c → ⊥) → pair_of a c ≡ pair_of i j → (k ≡ i) ⊎ (k ≡ j) → b ≡ k → ⊥
  third a b c k ha hc ab bc e w p = go (events a c ha hc e) w
    where
      go : ((a ≡ i) × (c ≡ j)) ⊎ ((a ≡ j) × (c ≡ i)) → (k ≡ i) ⊎ (k ≡ j) → ⊥
      go (inl u) (inl z) = ab (u.0 ∙ sym z ∙ sym p)
      go (inl u) (inr z) = bc (p ∙ z ∙ sym u.1)
      go (inr u) (inl z) = bc (p ∙ z ∙ sym u.1)
      go (inr u) (inr z) = ab (u.0 ∙ sym z ∙ sym p)

  mid_skip : (k : ℕ) (g q : List ℕ) → (k ≡ i) ⊎ (k ≡ j) → Mid A n i j k g q → Mid A n i j (suc k) g q
  mid_skip k g q w M a b c t = go (M a b c t)
    where
      go : Served A n g q a b c ⊎ Owed i j k a b c → Served A n g q a b c ⊎ Owed i j (suc k) a b c
      go (inl s) = inl s
      go (inr (inl o)) =
          let ne : b ≡ k → ⊥ = third a b c k t.ha t.hc t.ab t.bc o.0 w in
          inr (inl (o.0, omega (arith, o.1)))
      go (inr (inr o)) =
          let ne : a ≡ k → ⊥ = third c a b k t.hc t.hb (λ e. t.ac (sym e)) t.ab o.0 w in
          inr (inr (o.0, omega (arith, o.1)))

  module _ (k : ℕ) (hk : k < n) (ki : k ≡ i → ⊥) (kj : k ≡ j → ⊥) where
    d₁ : Distinct n i k j
    d₁ = record { ha = hi; hb = hk; hc = hj; ab = λ e. ki (sym e); bc = kj; ac = ij }

    d₂ : Distinct n k j i
    d₂ = record { ha = hk; hb = hj; hc = hi; ab = kj; bc = λ e. ij (sym e); ac = ki }

    module _ (g q g₁ q₁ g₂ q₂ : List ℕ) (s₁ : Stepped A n g₀ g q g₁ q₁ i j k) (s₂ : Stepped A n g₀ g₁ q₁ g₂ q₂ k i j) where
      out_owed : (a b c : ℕ) → Distinct n a b c → Owed i j k a b c → Served A n g₂ q₂ a b c ⊎ Owed i j (suc k) a b c
      out_owed a b c t (inl o) = go (ℕ_discrete b k) (events a c t.ha t.hc o.0)
        where
          go : Dec (b ≡ k) → ((a ≡ i) × (c ≡ j)) ⊎ ((a ≡ j) × (c ≡ i)) → Served A n g₂ q₂ a b c ⊎ Owed i j (suc k) a b c
          go (yes p) (inl u) = inl (rw (u.0, p, u.1) (s₂.served i k j d₁ (inl s₁.there)))
          go (yes p) (inr u) = inl (rw (u.0, p, u.1) (inl s₂.back))
          go (no p) u = inr (inl (o.0, omega (arith, o.1)))
      out_owed a b c t (inr o) = go (ℕ_discrete a k) (events c b t.hc t.hb o.0)
        where
          go : Dec (a ≡ k) → ((c ≡ i) × (b ≡ j)) ⊎ ((c ≡ j) × (b ≡ i)) → Served A n g₂ q₂ a b c ⊎ Owed i j (suc k) a b c
          go (yes p) (inl u) = inl (rw (p, u.1, u.0) (inl s₂.there))
          go (yes p) (inr u) = inl (rw (p, u.1, u.0) (s₂.served k i j (record { ha = hk; hb = hi; hc = hj; ab = ki; bc = ij; ac = kj }) (inl s₁.back)))
          go (no p) u = inr (inr (o.0, omega (arith, o.1)))

      mid_turn : Mid A n i j k g q → Mid A n i j (suc k) g₂ q₂
      mid_turn M a b c t = go (M a b c t)
        where
          go : Served A n g q a b c ⊎ Owed i j k a b c → Served A n g₂ q₂ a b c ⊎ Owed i j (suc k) a b c
          go (inl s) = inl (s₂.served a b c t (s₁.served a b c t s))
          go (inr o) = out_owed a b c t o

    second : (g q g₁ q₁ : List ℕ) → Mid A n i j k g q → Stepped A n g₀ g q g₁ q₁ i j k → (o : Out) → After A n g₀ g₁ q₁ k i j o → Turned A n g₀ i j (suc k) o
    second g q g₁ q₁ M s₁ dead z = z
    second g q g₁ q₁ M s₁ (going g₂ q₂) s₂ = record { good = s₂.good; pairs = s₂.pairs; mid = mid_turn g q g₁ q₁ g₂ q₂ s₁ s₂ M }

    -- the second cut: what was served is, and (k, j) joins if it shrank
    back_ok : (g q : List ℕ) → Good A n g₀ g → Pairs n q → After A n g₀ g q k i j (cut_back A n i j k g q)
    back_ok g q G Q = cut_ok A L n few g₀ g q G Q k i j d₂

    first : (g q : List ℕ) → Mid A n i j k g q → (o : Out) → After A n g₀ g q i j k o → Turned A n g₀ i j (suc k) (and_then o (cut_back A n i j k))
    first g q M dead z = z
    first g q M (going g₁ q₁) s₁ = second g q g₁ q₁ M s₁ (cut_back A n i j k g₁ q₁) (back_ok g₁ q₁ s₁.good s₁.pairs)

  turn_ok : (k : ℕ) → k < n → (g q : List ℕ) → Between A n g₀ i j k g q → Turned A n g₀ i j (suc k) (turn A n i j k g q)
  turn_ok k hk g q B = go (ℕ_discrete k i) (ℕ_discrete k j)
    where
      go : Dec (k ≡ i) → Dec (k ≡ j) → Turned A n g₀ i j (suc k) (turn A n i j k g q)
      go (yes p) e = rw (turn_skip_i A n i j k g q p) (record { good = B.good; pairs = B.pairs; mid = mid_skip k g q (inl p) B.mid })
      go (no p) (yes e) = rw (turn_skip_j A n i j k g q p e) (record { good = B.good; pairs = B.pairs; mid = mid_skip k g q (inr e) B.mid })
      go (no p) (no e) = rw (turn_is A n i j k g q p e) (first k hk p e g q B.mid (cut A n i j k g q) (cut_ok A L n few g₀ g q B.good B.pairs i j k (d₁ k hk p e)))

  mid_end : (g q : List ℕ) → Mid A n i j n g q → Settled A n g q
  mid_end g q M a b c t = go (M a b c t)
    where
      go : Served A n g q a b c ⊎ Owed i j n a b c → Served A n g q a b c
      go (inl s) = s
      go (inr (inl o)) = absurd (omega (arith, o.1, t.hb))
      go (inr (inr o)) = absurd (omega (arith, o.1, t.ha))

  turns_ok : (f k : ℕ) → k + f ≡ n → (g q : List ℕ) → Between A n g₀ i j k g q → Taken A n g₀ (turns A n i j f k g q)
  unfolding turns
  turns_ok zero k e g q B =
      let z : k ≡ n = omega arith in
      record { good = B.good; pairs = B.pairs; settled = mid_end g q (rw z at B.mid) }
  turns_ok (suc f) k e g q B = go (turn A n i j k g q) (turn_ok k (omega arith) g q B) (turns_ok f (suc k) (omega arith))
    where
      go : (o : Out) → Turned A n g₀ i j (suc k) o → ((g q : List ℕ) → Between A n g₀ i j (suc k) g q → Taken A n g₀ (turns A n i j f (suc k) g q)) → Taken A n g₀ (and_then o (turns A n i j f (suc k)))
      go dead z r = z
      go (going g' q') B' r = r g' q' B'

-- the first pair is taken
mid_start : (A : Calculus) (n p : ℕ) → n ≤ 32 → IsPair n p → (g q : List ℕ) → Settled A n g (p ∷ q) → Mid A n (p / 32) (p % 32) 0 g q
mid_start A n p few ok g q S a b c t = go (S a b c t)
  where
    number : p ≡ pair_of (p / 32) (p % 32)
    number = omega arith

    waits : (x : ℕ) → 0 < occurs x (p ∷ q) → Dec (x ≡ p) → (x ≡ p) ⊎ (0 < occurs x q)
    waits x h (yes e) = inl e
    waits x h (no ne) = inr (rw (occurs-cons-other x p q ne) at h)

    go : Served A n g (p ∷ q) a b c → Served A n g q a b c ⊎ Owed (p / 32) (p % 32) 0 a b c
    go (inl v) = inl (inl v)
    go (inr (inl w)) = ⊎_elim (λ e. inr (inl (e ∙ number, omega arith))) (λ h. inl (inr (inl h))) (waits (pair_of a c) w (ℕ_discrete (pair_of a c) p))
    go (inr (inr w)) = ⊎_elim (λ e. inr (inr (e ∙ number, omega arith))) (λ h. inl (inr (inr h))) (waits (pair_of c b) w (ℕ_discrete (pair_of c b) p))

-- all that wait after the first are pairs too
pub pairs-rest : (n p : ℕ) (q : List ℕ) → Pairs n (p ∷ q) → Pairs n q
pairs-rest n p q Q x h = Q x (go (ℕ_discrete x p))
  where
    go : Dec (x ≡ p) → 0 < occurs x (p ∷ q)
    go (yes e) = rw e (omega (arith, occurs-cons-same p q))
    go (no ne) = rw (occurs-cons-other x p q ne) h

pub take_ok : (A : Calculus) → Lawful A → (n : ℕ) → n ≤ 32 → (g₀ g : List ℕ) (p : ℕ) (q : List ℕ) → Resting A n g₀ g (p ∷ q) → Taken A n g₀ (take A n p g q)
unfolding take
take_ok A L n few g₀ g p q R =
    let ok : IsPair n p = R.pairs p (omega (arith, occurs-cons-same p q)) in
    turns_ok A L n few g₀ (p / 32) (p % 32) (omega (arith, ok)) (omega (arith, ok)) (λ e. omega (arith, ok)) n 0 (omega arith) g q
    (record { good = R.good; pairs = pairs-rest n p q R.pairs; mid = mid_start A n p few ok g q R.settled })

-- nothing waits: closed
resting_closed : (A : Calculus) → EqLawful A → (n : ℕ) (g₀ g : List ℕ) → Resting A n g₀ g [] → Closed A n (cell n g)
resting_closed A E n g₀ g R = closed-apart A E n g₀ g R.good (λ i j k d. via i j k (R.settled i j k d))
  where
    via : (i j k : ℕ) → Served A n g [] i j k → Via A n g i j k
    via i j k (inl v) = v
    via i j k (inr (inl w)) = absurd (omega (arith, w, occurs_nil (pair_of i k)))
    via i j k (inr (inr w)) = absurd (omega (arith, w, occurs_nil (pair_of k j)))

-- how a run ends
abbrev pub Right : Calculus → ℕ → List ℕ → Ended → Type 0
Right A n g₀ (contradiction t) = Closing A n (cell n g₀) (λ a b. 0)
Right A n g₀ (closed t g) = Closing A n (cell n g₀) (cell n g)
Right A n g₀ (paused t g) = Good A n g₀ g

module _ (A : Calculus) (L : Lawful A) (E : EqLawful A) (n : ℕ) (few : n ≤ 32) (g₀ : List ℕ) where
  at_rest : (t : ℕ) (g : List ℕ) → Resting A n g₀ g [] → Right A n g₀ (closed t g)
  at_rest t g R = reached_closed A L n (cell n g₀) (cell n g) R.good.reached (resting_closed A E n g₀ g R)

  pub run_ok : (f t : ℕ) (g q : List ℕ) → Resting A n g₀ g q → Right A n g₀ (run A n f t g q)
  unfolding run
  run_ok zero t g [] R = at_rest t g R
  run_ok zero t g (p ∷ q) R = R.good
  run_ok (suc f) t g [] R = at_rest t g R
  run_ok (suc f) t g (p ∷ q) R = go (take A n p g q) (take_ok A L n few g₀ g p q R) (run_ok f (suc t))
    where
      go : (o : Out) → Taken A n g₀ o → ((g q : List ℕ) → Resting A n g₀ g q → Right A n g₀ (run A n f (suc t) g q)) → Right A n g₀ (go_on o (contradiction (suc t)) (run A n f (suc t)))
      go dead z r = z
      go (going g' q') R' r = r g' q' R'

-- what a run leaves keeps what every cut keeps
abbrev pub LeavesGood : Calculus → ℕ → List ℕ → Ended → Type 0
LeavesGood A n g₀ (contradiction t) = Unit {0}
LeavesGood A n g₀ (closed t g) = Good A n g₀ g
LeavesGood A n g₀ (paused t g) = Good A n g₀ g

module _ (A : Calculus) (L : Lawful A) (n : ℕ) (few : n ≤ 32) (g₀ : List ℕ) where
  pub run_good : (f t : ℕ) (g q : List ℕ) → Resting A n g₀ g q → LeavesGood A n g₀ (run A n f t g q)
  unfolding run
  run_good zero t g [] R = R.good
  run_good zero t g (p ∷ q) R = R.good
  run_good (suc f) t g [] R = R.good
  run_good (suc f) t g (p ∷ q) R = go (take A n p g q) (take_ok A L n few g₀ g p q R) (run_good f (suc t))
    where
      go : (o : Out) → Taken A n g₀ o → ((g q : List ℕ) → Resting A n g₀ g q → LeavesGood A n g₀ (run A n f (suc t) g q))
          → LeavesGood A n g₀ (go_on o (contradiction (suc t)) (run A n f (suc t)))
      go dead z r = tt
      go (going g' q') R' r = r g' q' R'
