-- What a search's answers mean, for any closing that keeps a few laws.
use mathlib.Core.Path.{◌≡◌, refl, sym, subst, ◌∙◌}
use mathlib.Core.Bool.{Bool, true, false}
use mathlib.Core.Logic.{⊎_elim, ◌⊎◌, inl, inr}
use mathlib.Core.List.{List, [], ◌∷◌}
use Prim.Native.Nat.{ℕ, zero, suc, ◌+◌, ◌≤◌, ◌<◌}
use native.Mathlib.Nat.{eq-or-lt_of_le}
use native.Mathlib.Omega.{arith}
use borrow.Author.Tests.{ltb-true, ltb-false, eqb-true, eqb-false}
use lib.Dec.{eqb, ltb}
use Rattle.theory.specs.Search.{Pair, Tried, emptied, closed, Found, placed, none, gave_up, or_next, after_try, try_if, turn_of, relations_from, past_last, search_from, All, NoLater}

lt_or_ge : (m n : ℕ) → (m < n) ⊎ (n ≤ m)
lt_or_ge m n = go (ltb m n) refl
  where
    go : (b : Bool) → ltb m n ≡ b → (m < n) ⊎ (n ≤ m)
    go true e = inl (ltb-true m n e)
    go false e = inr (ltb-false m n e)

false_true : false ≡ true → ⊥
false_true z = let y : ◌≡◌ {A = ℕ} 0 1 = cc in omega arith

gave_none : {x y : ℕ} → gave_up x ≡ none y → ⊥
gave_none e = let z : ◌≡◌ {A = ℕ} 0 1 = cc in omega arith

gave_placed : {u v : ℕ} {l : List ℕ} → gave_up u ≡ placed v l → ⊥
gave_placed e = let z : ◌≡◌ {A = ℕ} 0 1 = cc in omega arith

none-placed : {u v : ℕ} {l : List ℕ} → none u ≡ placed v l → ⊥
none-placed e = let z : ◌≡◌ {A = ℕ} 0 1 = cc in omega arith

-- ---- the tries are never more than the allowance

abbrev pub tries_of : Found → ℕ
tries_of (placed t g) = t
tries_of (none t) = t
tries_of (gave_up t) = t

module _ (there : Pair → ℕ → List ℕ → Bool) (attempt : Pair → ℕ → List ℕ → Tried) (fits : List ℕ → Bool) (a : ℕ) where
  next-within : (x : Found) (next : ℕ → Found) → tries_of x ≤ a → ((u : ℕ) → u ≤ a → tries_of (next u) ≤ a) → tries_of (or_next x next) ≤ a
  next-within (placed t g) next h n = h
  next-within (none t) next h n = n t h
  next-within (gave_up t) next h n = h

  relations-within : (rest : List ℕ → ℕ → Found) → ((g : List ℕ) (t : ℕ) → t ≤ a → tries_of (rest g t) ≤ a)
      → (p : Pair) (g : List ℕ) (k r t : ℕ) → t ≤ a → tries_of (relations_from there attempt a rest p g k r t) ≤ a
  unfolding relations_from
  relations-within rest w p g zero r t h = h
  relations-within rest w p g (suc k) r t h = by (there p r g) (eqb t a) (attempt p r g) refl (relations-within rest w p g k (r + 1))
    where
      by : (b used : Bool) (s : Tried) → eqb t a ≡ used → ((u : ℕ) → u ≤ a → tries_of (relations_from there attempt a rest p g k (r + 1) u) ≤ a)
          → tries_of (turn_of b used s t rest (λ u. relations_from there attempt a rest p g k (r + 1) u)) ≤ a
      by false used s e n = n t h
      by true true s e n = h
      by true false emptied e n = let ne = eqb-false t a e in n (t + 1) (omega arith)
      by true false (closed g') e n = let ne = eqb-false t a e in next-within (rest g' (t + 1)) _ (w g' (t + 1) (omega arith)) n

  pub tries-within : (ps : List Pair) (g : List ℕ) (t : ℕ) → t ≤ a → tries_of (search_from there attempt fits a ps g t) ≤ a
  unfolding search_from
  tries-within [] g t h = by (fits g)
    where
      by : (b : Bool) → tries_of (past_last b t g) ≤ a
      by true = h
      by false = h
  tries-within (p ∷ ps) g t h = relations-within (search_from there attempt fits a ps) (tries-within ps) p g 13 0 t h

-- ---- how a relation's turn went

module _ (there : Pair → ℕ → List ℕ → Bool) (attempt : Pair → ℕ → List ℕ → Tried) (a : ℕ) where
  data Went (rest : List ℕ → ℕ → Found) (p : Pair) (g : List ℕ) (k r t : ℕ) (o : Found) : Type 0 where
    passed : there p r g ≡ false → relations_from there attempt a rest p g k (r + 1) t ≡ o → Went rest p g k r t o
    empty : there p r g ≡ true → attempt p r g ≡ emptied → relations_from there attempt a rest p g k (r + 1) (t + 1) ≡ o → Went rest p g k r t o
    failed : (g' : List ℕ) (t' : ℕ) → there p r g ≡ true → attempt p r g ≡ closed g' → rest g' (t + 1) ≡ none t'
        → relations_from there attempt a rest p g k (r + 1) t' ≡ o → Went rest p g k r t o
    kept : (g' : List ℕ) → there p r g ≡ true → attempt p r g ≡ closed g' → rest g' (t + 1) ≡ o → ((t' : ℕ) → o ≡ none t' → ⊥) → Went rest p g k r t o
    spent : t ≡ a → gave_up t ≡ o → Went rest p g k r t o

  module _ (rest : List ℕ → ℕ → Found) (p : Pair) (g : List ℕ) (k r t : ℕ) (o : Found) where
    abbrev next : ℕ → Found
    next u = relations_from there attempt a rest p g k (r + 1) u

    went_on : (g' : List ℕ) → there p r g ≡ true → attempt p r g ≡ closed g' → (x : Found) → rest g' (t + 1) ≡ x → or_next x next ≡ o → Went rest p g k r t o
    went_on g' b q (placed u h) f e = kept g' b q (f ∙ e) (λ t' z. let y : ◌≡◌ {A = ℕ} 0 1 = cc in omega arith)
    went_on g' b q (none u) f e = failed g' u b q f e
    went_on g' b q (gave_up u) f e = kept g' b q (f ∙ e) (λ t' z. let y : ◌≡◌ {A = ℕ} 0 1 = cc in omega arith)

    went_tried : there p r g ≡ true → (s : Tried) → attempt p r g ≡ s → after_try s (t + 1) rest next ≡ o → Went rest p g k r t o
    went_tried b emptied q e = empty b q e
    went_tried b (closed g') q e = went_on g' b q (rest g' (t + 1)) refl e

    went_allowed : there p r g ≡ true → (u : Bool) → eqb t a ≡ u → try_if u (attempt p r g) t rest next ≡ o → Went rest p g k r t o
    went_allowed b true q e = spent (eqb-true t a q) e
    went_allowed b false q e = went_tried b (attempt p r g) refl e

    went_there : (b : Bool) → there p r g ≡ b → turn_of b (eqb t a) (attempt p r g) t rest next ≡ o → Went rest p g k r t o
    went_there false q e = passed q e
    went_there true q e = went_allowed q (eqb t a) refl e

    went : relations_from there attempt a rest p g (suc k) r t ≡ o → Went rest p g k r t o
    unfolding relations_from
    went e = went_there (there p r g) refl e

-- ---- the laws of a closing

-- S are the scenarios that some placing meets. `Good ps g`: the grid g can be searched, with the cells of ps still to decide.
pub record Searchable (there : Pair → ℕ → List ℕ → Bool) (attempt : Pair → ℕ → List ℕ → Tried) (fits : List ℕ → Bool) (S : Type 0)
    (rel : S → Pair → ℕ) (In : S → List ℕ → Type 0) (Ok : Pair → Type 0) (Good : List Pair → List ℕ → Type 0) : Type 0 where
  pub small : (σ : S) (p : Pair) → rel σ p < 13
  -- a scenario inside the grid has its relation there, and a try of that relation keeps it
  pub has : (σ : S) (p : Pair) (ps : List Pair) (g : List ℕ) → Ok p → Good (p ∷ ps) g → In σ g → there p (rel σ p) g ≡ true
  pub keeps : (σ : S) (p : Pair) (ps : List Pair) (g g' : List ℕ) → Ok p → Good (p ∷ ps) g → In σ g → attempt p (rel σ p) g ≡ closed g' → In σ g'
  pub never : (σ : S) (p : Pair) (ps : List Pair) (g : List ℕ) → Ok p → Good (p ∷ ps) g → In σ g → attempt p (rel σ p) g ≡ emptied → ⊥
  -- a try of a relation that is there leaves a grid inside, in which the pair has that relation
  pub good : (p : Pair) (ps : List Pair) (r : ℕ) (g g' : List ℕ) → Ok p → r < 13 → there p r g ≡ true → Good (p ∷ ps) g → attempt p r g ≡ closed g' → Good ps g'
  pub inside : (σ : S) (p : Pair) (ps : List Pair) (r : ℕ) (g g' : List ℕ) → Ok p → r < 13 → there p r g ≡ true → Good (p ∷ ps) g → attempt p r g ≡ closed g' → In σ g' → In σ g
  pub chosen : (σ : S) (p : Pair) (ps : List Pair) (r : ℕ) (g g' : List ℕ) → Ok p → r < 13 → there p r g ≡ true → Good (p ∷ ps) g → attempt p r g ≡ closed g' → In σ g' → rel σ p ≡ r
  -- past the last cell some scenario lies inside exactly if the test says so
  pub fit : (g : List ℕ) → Good [] g → fits g ≡ true → (σ : S) × In σ g
  pub unfit : (g : List ℕ) → Good [] g → fits g ≡ false → (σ : S) → In σ g → ⊥

module _ (there : Pair → ℕ → List ℕ → Bool) (attempt : Pair → ℕ → List ℕ → Tried) (fits : List ℕ → Bool) (a : ℕ) (S : Type 0) (rel : S → Pair → ℕ)
    (In : S → List ℕ → Type 0) (Ok : Pair → Type 0) (Good : List Pair → List ℕ → Type 0) (L : Searchable there attempt fits S rel In Ok Good) where
  module _ (rest : List ℕ → ℕ → Found) (p : Pair) (ps : List Pair) (g : List ℕ) (ok : Ok p) (gd : Good (p ∷ ps) g)
      (rest-none : (g' : List ℕ) (t t' : ℕ) → Good ps g' → rest g' t ≡ none t' → (σ : S) → In σ g' → ⊥) where
    -- the turn of σ's relation went to the cells after this one
    here : (k r t : ℕ) (o : Found) → r < 13 → (gave_up t ≡ o → ⊥) → Went there attempt a rest p g k r t o → (σ : S) → In σ g → rel σ p ≡ r
        → (g' : List ℕ) × (there p r g ≡ true) × (attempt p r g ≡ closed g') × (rest g' (t + 1) ≡ o)
    here k r t o lt ns (passed e h) σ i q = absurd (false_true (sym e ∙ subst (λ x. there p x g ≡ true) q (L.has σ p ps g ok gd i)))
    here k r t o lt ns (empty b e h) σ i q = absurd (L.never σ p ps g ok gd i (subst (λ x. attempt p x g ≡ emptied) (sym q) e))
    here k r t o lt ns (failed g' t' b e f h) σ i q =
        absurd (rest-none g' (t + 1) t' (L.good p ps r g g' ok lt b gd e) f σ (L.keeps σ p ps g g' ok gd i (subst (λ x. attempt p x g ≡ closed g') (sym q) e)))
    here k r t o lt ns (kept g' b e h n) σ i q = (g', b, e, h)
    here k r t o lt ns (spent u h) σ i q = absurd (ns h)

    none_from : (k r t t' : ℕ) → r + k ≤ 13 → relations_from there attempt a rest p g k r t ≡ none t' → (σ : S) → In σ g → r ≤ rel σ p → rel σ p < r + k → ⊥
    none_from zero r t t' b h σ i lo hi = omega arith
    none_from (suc k) r t t' b h σ i lo hi =
        ⊎_elim
        (λ q. let n = here k r t (none t') (omega arith) gave_none (went there attempt a rest p g k r t (none t') h) σ i (sym q) in
        rest-none n.0 (t + 1) t' (L.good p ps r g n.0 ok (omega arith) n.1 gd n.2) n.3 σ
        (L.keeps σ p ps g n.0 ok gd i (subst (λ x. attempt p x g ≡ closed n.0) q n.2)))
        (λ l. next (went there attempt a rest p g k r t (none t') h) (λ t2 h2. none_from k (r + 1) t2 t' (omega arith) h2 σ i (omega arith) (omega arith)))
        (eq-or-lt_of_le lo)
      where
        next : Went there attempt a rest p g k r t (none t') → ((t2 : ℕ) → relations_from there attempt a rest p g k (r + 1) t2 ≡ none t' → ⊥) → ⊥
        next (passed e h) ih = ih t h
        next (empty b e h) ih = ih (t + 1) h
        next (failed g' t2 b e f h) ih = ih t2 h
        next (kept g' b e h n) ih = n t' refl
        next (spent u h) ih = gave_none h

  -- the relation that was taken at p, the first that any scenario inside the grid has
  record Taken (rest : List ℕ → ℕ → Found) (p : Pair) (g : List ℕ) (r : ℕ) (o : Found) : Type 0 where
    at : ℕ
    tries : ℕ
    grid : List ℕ
    low : r ≤ at
    high : at < 13
    is-there : there p at g ≡ true
    closes : attempt p at g ≡ closed grid
    below : rest grid tries ≡ o
    first : (σ : S) → In σ g → r ≤ rel σ p → rel σ p < at → ⊥

  module _ (rest : List ℕ → ℕ → Found) (p : Pair) (ps : List Pair) (g : List ℕ) (ok : Ok p) (gd : Good (p ∷ ps) g)
      (rest-none : (g' : List ℕ) (t t' : ℕ) → Good ps g' → rest g' t ≡ none t' → (σ : S) → In σ g' → ⊥) where
    -- one relation is passed, which no scenario inside the grid has
    past : (r : ℕ) (o : Found) → ((σ : S) → In σ g → rel σ p ≡ r → ⊥) → Taken rest p g (r + 1) o → Taken rest p g r o
    past r o nobody x =
        record {
          at = x.at;
          tries = x.tries;
          grid = x.grid;
          low = omega (arith, x.low);
          high = x.high;
          is-there = x.is-there;
          closes = x.closes;
          below = x.below;
          first = λ σ i lo hi. ⊎_elim (λ e. nobody σ i (sym e)) (λ l. x.first σ i (omega arith) hi) (eq-or-lt_of_le lo);
        }

    placed-from : (k r t : ℕ) (o : Found) → r + k ≤ 13 → ((u : ℕ) → gave_up u ≡ o → ⊥) → ((u : ℕ) → none u ≡ o → ⊥)
        → relations_from there attempt a rest p g k r t ≡ o → Taken rest p g r o
    unfolding relations_from
    placed-from zero r t o le ng nn h = absurd (nn t h)
    placed-from (suc k) r t o le ng nn h =
        go (went there attempt a rest p g k r t o h) (λ t2 h2. placed-from k (r + 1) t2 o (omega arith) ng nn h2)
      where
        go : Went there attempt a rest p g k r t o → ((t2 : ℕ) → relations_from there attempt a rest p g k (r + 1) t2 ≡ o → Taken rest p g (r + 1) o) → Taken rest p g r o
        go (passed e h) ih = past r o (λ σ i q. false_true (sym e ∙ subst (λ x. there p x g ≡ true) q (L.has σ p ps g ok gd i))) (ih t h)
        go (empty b e h) ih = past r o (λ σ i q. L.never σ p ps g ok gd i (subst (λ x. attempt p x g ≡ emptied) (sym q) e)) (ih (t + 1) h)
        go (failed g' t2 b e f h) ih =
            past r o
            (λ σ i q. rest-none g' (t + 1) t2 (L.good p ps r g g' ok (omega arith) b gd e) f σ
            (L.keeps σ p ps g g' ok gd i (subst (λ x. attempt p x g ≡ closed g') (sym q) e))) (ih t2 h)
        go (kept g' b e h n) ih =
            record {
              at = r;
              tries = t + 1;
              grid = g';
              low = omega arith;
              high = omega arith;
              is-there = b;
              closes = e;
              below = h;
              first = λ σ i lo hi. omega arith;
            }
        go (spent u h) ih = absurd (ng t h)

  -- ---- none: no scenario that a placing meets lies inside the grid

  pub none_right : (ps : List Pair) (g : List ℕ) (t t' : ℕ) → All Ok ps → Good ps g → search_from there attempt fits a ps g t ≡ none t' → (σ : S) → In σ g → ⊥
  unfolding search_from
  none_right [] g t t' oks gd h σ i = go (fits g) refl h
    where
      go : (b : Bool) → fits g ≡ b → past_last b t g ≡ none t' → ⊥
      go true e h = let z : ◌≡◌ {A = ℕ} 0 1 = cc in omega arith
      go false e h = L.unfit g gd e σ i
  none_right (p ∷ ps) g t t' oks gd h σ i =
      none_from (search_from there attempt fits a ps) p ps g oks.0 gd
      (λ g' t1 t2 gd' h' σ' i'. none_right ps g' t1 t2 oks.1 gd' h' σ' i') 13 0 t t' (omega arith) h σ i (omega arith) (omega (arith, L.small σ p))

  -- ---- placed: the grid found lies inside the given one, and holds the first scenario of it

  pub record Right (ps : List Pair) (g g' : List ℕ) : Type 0 where
    pub good : Good [] g'
    pub fitting : fits g' ≡ true
    pub inside : (σ : S) → In σ g' → In σ g
    pub first : (τ σ : S) → In τ g' → In σ g → NoLater ps (rel τ) (rel σ)

  step : (p : Pair) (ps : List Pair) (g g' : List ℕ) (o : Found) (rest : List ℕ → ℕ → Found) → Ok p → Good (p ∷ ps) g → (x : Taken rest p g 0 o)
      → Right ps x.grid g' → Right (p ∷ ps) g g'
  step p ps g g' o rest ok gd x y =
      record {
        good = y.good;
        fitting = y.fitting;
        inside = λ σ i. L.inside σ p ps x.at g x.grid ok x.high x.is-there gd x.closes (y.inside σ i);
        first = λ τ σ i j.
            let q = L.chosen τ p ps x.at g x.grid ok x.high x.is-there gd x.closes (y.inside τ i) in
            ⊎_elim (λ l. absurd (x.first σ j (omega arith) l))
            (λ l. ⊎_elim
            (λ e. inr (q ∙ e, y.first τ σ i (L.keeps σ p ps g x.grid ok gd j (subst (λ v. attempt p v g ≡ closed x.grid) e x.closes))))
            (λ m. inl (omega arith)) (eq-or-lt_of_le l)) (lt_or_ge (rel σ p) x.at);
      }

  pub placed-right : (ps : List Pair) (g g' : List ℕ) (t t' : ℕ) → All Ok ps → Good ps g → search_from there attempt fits a ps g t ≡ placed t' g' → Right ps g g'
  unfolding search_from
  placed-right [] g g' t t' oks gd h = go (fits g) refl h
    where
      go : (b : Bool) → fits g ≡ b → past_last b t g ≡ placed t' g' → Right [] g g'
      go true f h =
          let e : g ≡ g' = cc in
          record { good = subst (Good []) e gd; fitting = subst (λ x. fits x ≡ true) e f; inside = λ σ i. subst (In σ) (sym e) i; first = λ τ σ i j. tt }
      go false f h = absurd (none-placed h)
  placed-right (p ∷ ps) g g' t t' oks gd h =
      let rest = search_from there attempt fits a ps in
      let x =
      placed-from rest p ps g oks.0 gd (λ h' t1 t2 gd' q σ i. none_right ps h' t1 t2 oks.1 gd' q σ i) 13 0 t (placed t' g') (omega arith)
      (λ u e. gave_placed e) (λ u e. none-placed e) h in
      step p ps g g' (placed t' g') rest oks.0 gd x
      (placed-right ps x.grid g' x.tries t' oks.1 (L.good p ps x.at g x.grid oks.0 x.high x.is-there gd x.closes) x.below)

-- ---- gave up: exactly the allowance was used

module _ (there : Pair → ℕ → List ℕ → Bool) (attempt : Pair → ℕ → List ℕ → Tried) (fits : List ℕ → Bool) (a : ℕ) where
  gave_from : (rest : List ℕ → ℕ → Found) → ((g : List ℕ) (t u : ℕ) → rest g t ≡ gave_up u → u ≡ a) → (p : Pair) (g : List ℕ) (k r t u : ℕ)
      → relations_from there attempt a rest p g k r t ≡ gave_up u → u ≡ a
  unfolding relations_from
  gave_from rest ih p g zero r t u h = absurd (gave_none (sym h))
  gave_from rest ih p g (suc k) r t u h = go (went there attempt a rest p g k r t (gave_up u) h) (λ t2 h2. gave_from rest ih p g k (r + 1) t2 u h2)
    where
      go : Went there attempt a rest p g k r t (gave_up u) → ((t2 : ℕ) → relations_from there attempt a rest p g k (r + 1) t2 ≡ gave_up u → u ≡ a) → u ≡ a
      go (passed e h) f = f t h
      go (empty b e h) f = f (t + 1) h
      go (failed g' t2 b e q h) f = f t2 h
      go (kept g' b e h n) f = ih g' (t + 1) u h
      go (spent q h) f = let z : t ≡ u = cc in sym z ∙ q

  pub gave_up-right : (ps : List Pair) (g : List ℕ) (t u : ℕ) → search_from there attempt fits a ps g t ≡ gave_up u → u ≡ a
  unfolding search_from
  gave_up-right [] g t u h = go (fits g) h
    where
      go : (b : Bool) → past_last b t g ≡ gave_up u → u ≡ a
      go true h = absurd (gave_placed (sym h))
      go false h = absurd (gave_none (sym h))
  gave_up-right (p ∷ ps) g t u h = gave_from (search_from there attempt fits a ps) (λ g' t' u'. gave_up-right ps g' t' u') p g 13 0 t u h
