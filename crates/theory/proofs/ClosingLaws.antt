-- What any run of cuts keeps, and that the largest closed grid inside is the only one.
use mathlib.Core.Path.{◌≡◌, ap, sym, ◌∙◌, subst, subst₃}
use Prim.Native.Nat.{ℕ, ◌<◌}
use native.Mathlib.Decide.{ℕ_discrete}
use Rattle.theory.specs.Calculus.{Calculus, Sub}
use Rattle.theory.specs.Closing.{Cells, Within, Closed, Closing}
use Rattle.theory.specs.Quick.{cut_to}
use Rattle.theory.proofs.Lawful.{Lawful}

abbrev pub Mirrored : Calculus → ℕ → Cells → Type 0
Mirrored A n G = (i j : ℕ) → i < n → j < n → G j i ≡ A.conv (G i j)

-- G' is G with v put in cell (i, k) and, turned round, in its mirror
pub record IsPut (A : Calculus) (n : ℕ) (G G' : Cells) (i k v : ℕ) : Type 0 where
  pub here : G' i k ≡ v
  pub mirror : G' k i ≡ A.conv v
  pub rest : (a b : ℕ) → a < n → b < n → ((a ≡ i) × (b ≡ k) → ⊥) → ((a ≡ k) × (b ≡ i) → ⊥) → G' a b ≡ G a b

-- G' is G with cell (i, k) cut to what (i, j) with (j, k) allows, and its mirror
abbrev pub IsCut : Calculus → ℕ → Cells → Cells → ℕ → ℕ → ℕ → Type 0
IsCut A n G G' i j k = IsPut A n G G' i k (cut_to A G i j k)

-- what any run of cuts keeps
pub record Reached (A : Calculus) (n : ℕ) (G₀ G : Cells) : Type 0 where
  pub mirrored : Mirrored A n G
  pub inside : Within A n G G₀
  pub keeps : (D : Cells) → Closed A n D → Within A n D G₀ → Within A n D G

module _ (A : Calculus) (L : Lawful A) where
  pub sub_refl : (a : ℕ) → Sub A a a
  sub_refl a = L.meet_self a

  pub sub_trans : (a b c : ℕ) → Sub A a b → Sub A b c → Sub A a c
  sub_trans a b c p q = cc (L.meet_assoc a b c)

  pub sub_antisym : (a b : ℕ) → Sub A a b → Sub A b a → a ≡ b
  sub_antisym a b p q = cc (L.meet_comm a b)

  pub sub_meet_l : (a b : ℕ) → Sub A (A.meet a b) a
  sub_meet_l a b = cc (L.meet_comm (A.meet a b) a, L.meet_assoc a a b, L.meet_self a)

  pub sub_meet_r : (a b : ℕ) → Sub A (A.meet a b) b
  sub_meet_r a b = cc (L.meet_assoc a b b, L.meet_self b)

  pub sub_meet : (d a b : ℕ) → Sub A d a → Sub A d b → Sub A d (A.meet a b)
  sub_meet d a b p q = cc (L.meet_assoc d a b)

  pub sub-zero : (a : ℕ) → Sub A a 0 → a ≡ 0
  sub-zero a p = cc (L.meet_zero a)

  pub conv_mono : (a b : ℕ) → Sub A a b → Sub A (A.conv a) (A.conv b)
  conv_mono a b p = sym (L.conv-meet a b) ∙ ap A.conv p

  module _ (n : ℕ) where
    pub closing_unique : (G C C' : Cells) → Closing A n G C → Closing A n G C' → (i j : ℕ) → i < n → j < n → C i j ≡ C' i j
    closing_unique G C C' p q i j hi hj =
        sub_antisym (C i j) (C' i j) (q.largest C p.closed p.inside i j hi hj) (p.largest C' q.closed q.inside i j hi hj)

    -- a grid with the same cells
    pub closing_same : (G C C' : Cells) → ((i j : ℕ) → i < n → j < n → C i j ≡ C' i j) → Closing A n G C → Closing A n G C'
    closing_same G C C' e c =
        record {
          closed = λ i j k hi hj hk.
              subst₃ (λ (x y z : ℕ). Sub A x (A.comp i k j y z)) (e i j hi hj) (e i k hi hk) (e k j hk hj) (c.closed i j k hi hj hk);
          inside = λ i j hi hj. subst (λ (x : ℕ). Sub A x (G i j)) (e i j hi hj) (c.inside i j hi hj);
          largest = λ D cl w i j hi hj. subst (Sub A (D i j)) (e i j hi hj) (c.largest D cl w i j hi hj);
        }

    -- one empty cell empties a closed grid
    closed-row : (D : Cells) → Closed A n D → (a b : ℕ) → a < n → b < n → D a b ≡ 0 → (j : ℕ) → j < n → D a j ≡ 0
    closed-row D cl a b ha hb e j hj =
        sub-zero (D a j) (rw (L.comp_zero_l a b j (D b j)) at (rw e at (cl a j b ha hj hb)))

    pub closed-empty : (D : Cells) → Closed A n D → (a b : ℕ) → a < n → b < n → D a b ≡ 0 → (i j : ℕ) → i < n → j < n → D i j ≡ 0
    closed-empty D cl a b ha hb e i j hi hj =
        let r : D a j ≡ 0 = closed-row D cl a b ha hb e j hj in
        sub-zero (D i j) (rw (L.comp_zero_r i a j (D i a)) at (rw r at (cl i j a hi hj ha)))

    pub reached_start : (G : Cells) → Mirrored A n G → Reached A n G G
    reached_start G m = record { mirrored = m; inside = λ i j hi hj. sub_refl (G i j); keeps = λ D cl w. w }

    pub reached_closed : (G₀ G : Cells) → Reached A n G₀ G → Closed A n G → Closing A n G₀ G
    reached_closed G₀ G r c = record { closed = c; inside = r.inside; largest = r.keeps }

    zero_closed : Closed A n (λ i j. 0)
    zero_closed i j k hi hj hk = L.meet_comm 0 (A.comp i k j 0 0) ∙ L.meet_zero (A.comp i k j 0 0)

    -- an empty cell on the way: the closing is empty throughout
    pub reached_empty : (G₀ G : Cells) → Reached A n G₀ G → (a b : ℕ) → a < n → b < n → G a b ≡ 0 → Closing A n G₀ (λ i j. 0)
    reached_empty G₀ G r a b ha hb e =
        record {
          closed = zero_closed;
          inside = λ i j hi hj. L.meet_comm 0 (G₀ i j) ∙ L.meet_zero (G₀ i j);
          largest = λ D cl w i j hi hj.
              let z : D a b ≡ 0 = sub-zero (D a b) (rw e at (r.keeps D cl w a b ha hb)) in
              rw (closed-empty D cl a b ha hb z i j hi hj) (L.meet_self 0);
        }

    module _ (G G' : Cells) (i k v : ℕ) (c : IsPut A n G G' i k v) where
      -- a cell of G' is the one put, its mirror, or as it was
      pub put_cases : (P : ℕ → ℕ → ℕ → Type 0) → P i k v → P k i (A.conv v)
          → ((a b : ℕ) → a < n → b < n → ((a ≡ i) × (b ≡ k) → ⊥) → ((a ≡ k) × (b ≡ i) → ⊥) → P a b (G a b)) → (a b : ℕ) → a < n → b < n → P a b (G' a b)
      put_cases P one two others a b ha hb = go (ℕ_discrete a i) (ℕ_discrete b k) (ℕ_discrete a k) (ℕ_discrete b i)
        where
          other : ((a ≡ i) × (b ≡ k) → ⊥) → ((a ≡ k) × (b ≡ i) → ⊥) → P a b (G' a b)
          other p q = rw (c.rest a b ha hb p q) (others a b ha hb p q)

          not_here : ((a ≡ i) × (b ≡ k) → ⊥) → Dec (a ≡ k) → Dec (b ≡ i) → P a b (G' a b)
          not_here p (yes q) (yes r) = rw (q, r, c.mirror) two
          not_here p (yes q) (no r) = other p (λ w. r w.1)
          not_here p (no q) r = other p (λ w. q w.0)

          go : Dec (a ≡ i) → Dec (b ≡ k) → Dec (a ≡ k) → Dec (b ≡ i) → P a b (G' a b)
          go (yes p) (yes q) d e = rw (p, q, c.here) one
          go (yes p) (no q) d e = not_here (λ w. q w.1) d e
          go (no p) q d e = not_here (λ w. p w.0) d e

      module _ (m : Mirrored A n G) where
        pub put-within : i < n → k < n → Sub A v (G i k) → Within A n G' G
        put-within hi hk s =
            put_cases (λ a b x. Sub A x (G a b)) s (rw (m i k hi hk) (conv_mono v (G i k) s)) (λ a b ha hb p q. sub_refl (G a b))

        pub put-mirrored : A.conv (A.conv v) ≡ v → Mirrored A n G'
        put-mirrored back =
            put_cases (λ a b x. G' b a ≡ A.conv x) c.mirror (c.here ∙ sym back)
            (λ a b ha hb p q. c.rest b a hb ha (λ w. q (w.1, w.0)) (λ w. p (w.1, w.0)) ∙ m a b ha hb)

    module _ (G G' : Cells) (i j k : ℕ) (hi : i < n) (hj : j < n) (hk : k < n) (m : Mirrored A n G) (c : IsCut A n G G' i j k) where
      pub cut-within : Within A n G' G
      cut-within = put-within G G' i k (cut_to A G i j k) c m hi hk (sub_meet_l _ _)

      pub mirror_cut : A.conv (cut_to A G i j k) ≡ A.meet (G k i) (A.comp k j i (G k j) (G j i))
      mirror_cut = cc (L.conv-meet (G i k) (A.comp i j k (G i j) (G j k)), L.conv-comp i j k (G i j) (G j k), m i k hi hk, m j k hj hk, m i j hi hj)

      pub mirror_back : A.conv (A.conv (cut_to A G i j k)) ≡ cut_to A G i j k
      mirror_back = cc (mirror_cut, L.conv-meet (G k i) (A.comp k j i (G k j) (G j i)), L.conv-comp k j i (G k j) (G j i), m k i hk hi, m j i hj hi, m k j hk hj)

      allowed : (D : Cells) → Closed A n D → Within A n D G → (a b c : ℕ) → a < n → b < n → c < n → Sub A (D a b) (A.meet (G a b) (A.comp a c b (G a c) (G c b)))
      allowed D cl w a b c ha hb hc =
          sub_meet _ _ _ (w a b ha hb) (sub_trans _ _ _ (cl a b c ha hb hc) (L.comp_mono a c b _ _ _ _ (w a c ha hc) (w c b hc hb)))

      cut_keeps : (D : Cells) → Closed A n D → Within A n D G → Within A n D G'
      cut_keeps D cl w =
          put_cases G G' i k (cut_to A G i j k) c (λ a b x. Sub A (D a b) x) (allowed D cl w i k j hi hk hj) (rw mirror_cut (allowed D cl w k i j hk hi hj)) (λ a b ha hb p q. w a b ha hb)

      cut-mirrored : Mirrored A n G'
      cut-mirrored = put-mirrored G G' i k (cut_to A G i j k) c m mirror_back

    pub reached_cut : (G₀ G G' : Cells) (i j k : ℕ) → i < n → j < n → k < n → Reached A n G₀ G → IsCut A n G G' i j k → Reached A n G₀ G'
    reached_cut G₀ G G' i j k hi hj hk r c =
        record {
          mirrored = cut-mirrored G G' i j k hi hj hk r.mirrored c;
          inside = λ a b ha hb. sub_trans _ _ _ (cut-within G G' i j k hi hj hk r.mirrored c a b ha hb) (r.inside a b ha hb);
          keeps = λ D cl w. cut_keeps G G' i j k hi hj hk r.mirrored c D cl (r.keeps D cl w);
        }
