-- A take, cut by cut: what is left of it, done from here, is the whole.
use mathlib.Core.Path.{◌≡◌, refl, ap, sym, ◌∙◌, subst}
use mathlib.Core.List.{List}
use Prim.Native.Nat.{ℕ, zero, suc, ◌+◌, ◌-◌, ◌*◌, ◌/◌, ◌%◌, ◌<◌}
use native.Mathlib.Omega.{arith}
use native.Mathlib.Decide.{ℕ_discrete}
use borrow.Author.Tests.{eq-eqb, ne_eqb}
use Rattle.grid.specs.Cells.{cell, put_both}
use Rattle.theory.specs.Calculus.{Calculus}
use Rattle.theory.specs.Quick.{cut_to, Out, dead, going, and_then, cut, cut_back, turn, turns}
use Rattle.theory.specs.Cuts.{from_of, via_of, to_of, cut_at, cuts, cuts_from}
use Rattle.theory.proofs.Lawful.{Lawful}
use Rattle.theory.proofs.ClosingLaws.{mirror_cut, mirror_back}
use Rattle.theory.proofs.KeepLaws.{Good, Came, same, emptied, shrank, came, is_cut, good_shrank}
use Rattle.theory.proofs.QuickLaws.{going-grid, cut-still, turn_is, turn_skip_i, turn_skip_j}

-- the first cut at k, and the second
module _ (i j k : ℕ) where
  pub first-from : from_of i (k * 2) ≡ i
  first-from = simp (eq-eqb (k * 2 % 2) 0 (omega arith))

  pub first_via : via_of i j (k * 2) ≡ j
  first_via = simp (eq-eqb (k * 2 % 2) 0 (omega arith))

  pub first_to : to_of j (k * 2) ≡ k
  first_to = let e : k * 2 / 2 ≡ k = omega arith in simp (eq-eqb (k * 2 % 2) 0 (omega arith), e)

  pub second_from : from_of i (k * 2 + 1) ≡ k
  second_from = let e : (k * 2 + 1) / 2 ≡ k = omega arith in simp (ne_eqb ((k * 2 + 1) % 2) 0 (λ z. omega arith), e)

  pub second_via : via_of i j (k * 2 + 1) ≡ i
  second_via = simp (ne_eqb ((k * 2 + 1) % 2) 0 (λ z. omega arith))

  pub second-to : to_of j (k * 2 + 1) ≡ j
  second-to = simp (ne_eqb ((k * 2 + 1) % 2) 0 (λ z. omega arith))

module _ (A : Calculus) (n i j c : ℕ) (g q : List ℕ) where
  pub cut_skip_i : c / 2 ≡ i → cut_at A n i j c g q ≡ going g q
  unfolding cut_at
  cut_skip_i e = simp (eq-eqb (c / 2) i e)

  pub cut_skip_j : (c / 2 ≡ i → ⊥) → c / 2 ≡ j → cut_at A n i j c g q ≡ going g q
  unfolding cut_at
  cut_skip_j ne e = simp (ne_eqb (c / 2) i ne, eq-eqb (c / 2) j e)

  pub cut_made : (c / 2 ≡ i → ⊥) → (c / 2 ≡ j → ⊥) → cut_at A n i j c g q ≡ cut A n (from_of i c) (via_of i j c) (to_of j c) g q
  unfolding cut_at
  cut_made ni nj = simp (ne_eqb (c / 2) i ni, ne_eqb (c / 2) j nj)

  -- a cut that leaves its cell as it is
  pub cut-at-still : cut_to A (cell n g) (from_of i c) (via_of i j c) (to_of j c) ≡ cell n g (from_of i c) (to_of j c) → cut_at A n i j c g q ≡ going g q
  cut-at-still e = go (ℕ_discrete (c / 2) i) (ℕ_discrete (c / 2) j)
    where
      go : Dec (c / 2 ≡ i) → Dec (c / 2 ≡ j) → cut_at A n i j c g q ≡ going g q
      go (yes u) v = cut_skip_i u
      go (no u) (yes v) = cut_skip_j u v
      go (no u) (no v) = cut_made u v ∙ cut-still A n (from_of i c) (via_of i j c) (to_of j c) g q e

-- two steps and a third, from the first on
and_then_lem : (o : Out) (f h : List ℕ → List ℕ → Out) → and_then (and_then o f) h ≡ and_then o (λ g q. and_then (f g q) h)
and_then_lem dead f h = refl
and_then_lem (going g q) f h = refl

-- the same next step
then_same : (o : Out) (f h : List ℕ → List ℕ → Out) → ((g q : List ℕ) → f g q ≡ h g q) → and_then o f ≡ and_then o h
then_same dead f h e = refl
then_same (going g q) f h e = e g q

module _ (A : Calculus) (n i j k : ℕ) where
  first : k * 2 / 2 ≡ k
  first = omega arith

  second : (k * 2 + 1) / 2 ≡ k
  second = omega arith

  first-is : (k ≡ i → ⊥) → (k ≡ j → ⊥) → (g q : List ℕ) → cut_at A n i j (k * 2) g q ≡ cut A n i j k g q
  first-is ni nj g q =
      cut_made A n i j (k * 2) g q (λ e. ni (sym first ∙ e)) (λ e. nj (sym first ∙ e))
      ∙ rw (first-from i j k, first_via i j k, first_to i j k) refl

  second_is : (k ≡ i → ⊥) → (k ≡ j → ⊥) → (g q : List ℕ) → cut_at A n i j (k * 2 + 1) g q ≡ cut_back A n i j k g q
  second_is ni nj g q =
      cut_made A n i j (k * 2 + 1) g q (λ e. ni (sym second ∙ e)) (λ e. nj (sym second ∙ e))
      ∙ rw (second_from i j k, second_via i j k, second-to i j k) refl

  -- a turn is its two cuts
  turn-cuts : (g q : List ℕ) → turn A n i j k g q ≡ and_then (cut_at A n i j (k * 2) g q) (cut_at A n i j (k * 2 + 1))
  turn-cuts g q = go (ℕ_discrete k i) (ℕ_discrete k j)
    where
      none : ((c : ℕ) → c / 2 ≡ k → cut_at A n i j c g q ≡ going g q) → going g q ≡ and_then (cut_at A n i j (k * 2) g q) (cut_at A n i j (k * 2 + 1))
      none s = sym (ap (λ (o : Out). and_then o (cut_at A n i j (k * 2 + 1))) (s (k * 2) first) ∙ s (k * 2 + 1) second)

      go : Dec (k ≡ i) → Dec (k ≡ j) → turn A n i j k g q ≡ and_then (cut_at A n i j (k * 2) g q) (cut_at A n i j (k * 2 + 1))
      go (yes u) v = turn_skip_i A n i j k g q u ∙ none (λ c e. cut_skip_i A n i j c g q (e ∙ u))
      go (no u) (yes v) = turn_skip_j A n i j k g q u v ∙ none (λ c e. cut_skip_j A n i j c g q (λ x. u (sym e ∙ x)) (e ∙ v))
      go (no u) (no v) =
          turn_is A n i j k g q u v
          ∙ sym (ap (λ (o : Out). and_then o (cut_at A n i j (k * 2 + 1))) (first-is u v g q) ∙ then_same (cut A n i j k g q) (cut_at A n i j (k * 2 + 1)) (cut_back A n i j k) (second_is u v))

-- two cuts, and what comes after them
two-cuts : (A : Calculus) (n i j f c : ℕ) (next : List ℕ → List ℕ → Out) → ((g q : List ℕ) → cuts A n i j f (suc (suc c)) g q ≡ next g q) → (g q : List ℕ)
    → cuts A n i j (suc (suc f)) c g q ≡ and_then (and_then (cut_at A n i j c g q) (cut_at A n i j (c + 1))) next
unfolding cuts
two-cuts A n i j f c next e g q =
    let s : suc c ≡ c + 1 = omega arith in
    then_same (cut_at A n i j c g q) _ _ (λ h p. then_same (cut_at A n i j (suc c) h p) _ next e ∙ ap (λ (d : ℕ). and_then (cut_at A n i j d h p) next) s)
    ∙ sym (and_then_lem (cut_at A n i j c g q) (cut_at A n i j (c + 1)) next)

-- f turns are twice as many cuts
cuts-turns : (A : Calculus) (n i j f k : ℕ) (g q : List ℕ) → cuts A n i j (f * 2) (k * 2) g q ≡ turns A n i j f k g q
unfolding cuts turns
cuts-turns A n i j zero k g q = refl
cuts-turns A n i j (suc f) k g q =
    let e : suc f * 2 ≡ suc (suc (f * 2)) = omega arith in
    let s : suc (suc (k * 2)) ≡ suc k * 2 = omega arith in
    ap (λ (m : ℕ). cuts A n i j m (k * 2) g q) e
    ∙ two-cuts A n i j (f * 2) (k * 2) (turns A n i j f (suc k)) (λ h p. ap (λ (c : ℕ). cuts A n i j (f * 2) c h p) s ∙ cuts-turns A n i j f (suc k) h p) g q
    ∙ sym (ap (λ (o : Out). and_then o (turns A n i j f (suc k))) (turn-cuts A n i j k g q))

-- what is left is the whole at first, nothing at the end, and in between the next cut and the rest
pub cuts-all : (A : Calculus) (n i j : ℕ) (g q : List ℕ) → cuts_from A n i j 0 g q ≡ turns A n i j n 0 g q
cuts-all A n i j g q = ap (λ (f : ℕ). cuts A n i j f 0 g q) (omega arith) ∙ cuts-turns A n i j n 0 g q

pub cuts-none : (A : Calculus) (n i j c : ℕ) (g q : List ℕ) → c ≡ n * 2 → cuts_from A n i j c g q ≡ going g q
unfolding cuts
cuts-none A n i j c g q h = let e : n * 2 - c ≡ 0 = omega arith in rw e refl

module _ (A : Calculus) (n i j c : ℕ) (g q : List ℕ) (h : c < n * 2) where
  cuts-step : cuts_from A n i j c g q ≡ and_then (cut_at A n i j c g q) (cuts_from A n i j (c + 1))
  unfolding cuts
  cuts-step =
      let e : n * 2 - c ≡ suc (n * 2 - (c + 1)) = omega arith in
      let s : c + 1 ≡ suc c = omega arith in
      rw (e, s)

  pub cuts-dead : cut_at A n i j c g q ≡ dead → cuts_from A n i j c g q ≡ dead
  cuts-dead e = cuts-step ∙ ap (λ (o : Out). and_then o (cuts_from A n i j (c + 1))) e

  pub cuts-going : (g' q' : List ℕ) → cut_at A n i j c g q ≡ going g' q' → cuts_from A n i j c g q ≡ cuts_from A n i j (c + 1) g' q'
  cuts-going g' q' e = cuts-step ∙ ap (λ (o : Out). and_then o (cuts_from A n i j (c + 1))) e

-- ---- what a cut in the take of (i, j) keeps: what every cut keeps, and the pair itself

pub record Keeps (A : Calculus) (n i j : ℕ) (g₀ g g' : List ℕ) : Type 0 where
  pub good : Good A n g₀ g'
  pub pair : cell n g' i j ≡ cell n g i j
  pub mirror : cell n g' j i ≡ cell n g j i

abbrev tag : Out → ℕ
tag dead = 0
tag (going g q) = 1

module _ (A : Calculus) (L : Lawful A) (n i j : ℕ) (hi : i < n) (hj : j < n) (ne : i ≡ j → ⊥) (g₀ g : List ℕ) (G : Good A n g₀ g) where
  keeps_same : (g' : List ℕ) → g ≡ g' → Keeps A n i j g₀ g g'
  keeps_same g' e = subst (Keeps A n i j g₀ g) e (record { good = G; pair = refl; mirror = refl })

  -- a cut of another cell
  keeps_cut : (a m b : ℕ) → a < n → m < n → b < n → (a ≡ b → ⊥) → ((i ≡ a) × (j ≡ b) → ⊥) → ((i ≡ b) × (j ≡ a) → ⊥) → (q g' q' : List ℕ) → cut A n a m b g q ≡ going g' q' → Keeps A n i j g₀ g g'
  keeps_cut a m b ha hm hb apart p r q g' q' e = go (cut A n a m b g q) (came A n a m b g q) e
    where
      go : (o : Out) → Came A n a m b g q o → o ≡ going g' q' → Keeps A n i j g₀ g g'
      go _ (same s) f = keeps_same g' (going-grid _ _ _ _ f)
      go _ (emptied z) f = absurd (let y : ◌≡◌ {A = ℕ} 0 1 = ap tag f in omega arith)
      go _ (shrank less some) f =
          let c = is_cut A L n g₀ g G a m b ha hm hb apart in
          subst (Keeps A n i j g₀ g) (going-grid _ _ _ _ f)
          (record {
            good = good_shrank A L n g₀ g G a m b ha hm hb apart some;
            pair = c.rest i j hi hj p r;
            mirror = c.rest j i hj hi (λ w. r (w.1, w.0)) (λ w. p (w.1, w.0));
          })

  pub keeps-at : (c : ℕ) → c < n * 2 → (q g' q' : List ℕ) → cut_at A n i j c g q ≡ going g' q' → Keeps A n i j g₀ g g'
  keeps-at c hc q g' q' e = go (ℕ_discrete (c / 2) i) (ℕ_discrete (c / 2) j)
    where
      go : Dec (c / 2 ≡ i) → Dec (c / 2 ≡ j) → Keeps A n i j g₀ g g'
      go (yes u) v = keeps_same g' (going-grid _ _ _ _ (sym (cut_skip_i A n i j c g q u) ∙ e))
      go (no u) (yes v) = keeps_same g' (going-grid _ _ _ _ (sym (cut_skip_j A n i j c g q u v) ∙ e))
      go (no u) (no v) = made (ℕ_discrete (c % 2) 0)
        where
          made : Dec (c % 2 ≡ 0) → Keeps A n i j g₀ g g'
          made (yes z) =
              keeps_cut i j (c / 2) hi hj (omega arith) (λ x. u (sym x)) (λ w. v (sym w.1)) (λ w. u (sym w.0)) q g' q'
              (sym (cut_made A n i j c g q u v ∙ rw (eq-eqb (c % 2) 0 z) refl) ∙ e)
          made (no z) =
              keeps_cut (c / 2) i j (omega arith) hi hj v (λ w. u (sym w.0)) (λ w. ne w.0) q g' q'
              (sym (cut_made A n i j c g q u v ∙ rw (ne_eqb (c % 2) 0 z) refl) ∙ e)

-- ---- the first cut at k, seen from k

-- (i, k) is cut to the converse of what (k, j) with (j, i) leaves of (k, i)
module _ (A : Calculus) (L : Lawful A) (n i j k : ℕ) (hi : i < n) (hj : j < n) (hk : k < n) (g₀ g : List ℕ) (G : Good A n g₀ g) (ki : k ≡ i → ⊥) where
  pub turned_cut : A.conv (cut_to A (cell n g) k j i) ≡ cut_to A (cell n g) i j k
  turned_cut = mirror_cut A L n (cell n g) (cell n (put_both A.conv n g k i (cut_to A (cell n g) k j i))) k j i hk hj hi G.reached.mirrored (is_cut A L n g₀ g G k j i hk hj hi ki)

  pub turned_back : A.conv (cut_to A (cell n g) i j k) ≡ cut_to A (cell n g) k j i
  turned_back = ap A.conv (sym turned_cut) ∙ mirror_back A L n (cell n g) (cell n (put_both A.conv n g k i (cut_to A (cell n g) k j i))) k j i hk hj hi G.reached.mirrored (is_cut A L n g₀ g G k j i hk hj hi ki)

  -- so the one leaves its cell as it is just where the other does
  pub turned_still : cut_to A (cell n g) k j i ≡ cell n g k i → cut_to A (cell n g) i j k ≡ cell n g i k
  turned_still e = sym turned_cut ∙ ap A.conv e ∙ sym (G.reached.mirrored k i hk hi)

  pub turned_less : (cut_to A (cell n g) k j i ≡ cell n g k i → ⊥) → cut_to A (cell n g) i j k ≡ cell n g i k → ⊥
  turned_less ne e = ne (sym turned_back ∙ ap A.conv e ∙ sym (G.reached.mirrored i k hi hk))
