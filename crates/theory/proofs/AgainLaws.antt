-- Closing again after a further cut: the closing of a closing that was cut is the closing of the whole.
use mathlib.Core.Path.{◌≡◌, sym, subst}
use Prim.Native.Nat.{ℕ, ◌<◌}
use Rattle.theory.specs.Calculus.{Calculus, Sub}
use Rattle.theory.specs.Closing.{Cells, Within, Closed, Closing}
use Rattle.theory.proofs.Lawful.{Lawful}
use Rattle.theory.proofs.ClosingLaws.{Mirrored, sub_refl, sub_trans, sub_antisym, sub_meet, sub_meet_l, sub_meet_r, conv_mono}

-- G' is G with each cell cut by that of S
abbrev pub CutBy : Calculus → ℕ → Cells → Cells → Cells → Type 0
CutBy A n G S G' = (i j : ℕ) → i < n → j < n → G' i j ≡ A.meet (G i j) (S i j)

module _ (A : Calculus) (L : Lawful A) (n : ℕ) where
  -- a closed grid is its own closing
  pub closing_own : (C : Cells) → Closed A n C → Closing A n C C
  closing_own C c = record { closed = c; inside = λ i j hi hj. sub_refl A L (C i j); largest = λ D cl w. w }

  -- a given grid with the same cells
  pub closing_given : (G G' C : Cells) → ((i j : ℕ) → i < n → j < n → G i j ≡ G' i j) → Closing A n G C → Closing A n G' C
  closing_given G G' C e c =
      record {
        closed = c.closed;
        inside = λ i j hi hj. subst (Sub A (C i j)) (e i j hi hj) (c.inside i j hi hj);
        largest = λ D cl w. c.largest D cl (λ i j hi hj. subst (Sub A (D i j)) (sym (e i j hi hj)) (w i j hi hj));
      }

  -- C is the closing of G, and K that of C cut further: K is the closing of G cut further
  pub closing_again : (G C S G' C' K : Cells) → CutBy A n G S G' → CutBy A n C S C' → Closing A n G C → Closing A n C' K → Closing A n G' K
  closing_again G C S G' C' K p q c k =
      record {
        closed = k.closed;
        inside = λ i j hi hj.
            let e : Sub A (K i j) (A.meet (C i j) (S i j)) = subst (Sub A (K i j)) (q i j hi hj) (k.inside i j hi hj) in
            subst (Sub A (K i j)) (sym (p i j hi hj))
            (sub_meet A L (K i j) (G i j) (S i j)
            (sub_trans A L _ _ _ e (sub_trans A L _ _ _ (sub_meet_l A L (C i j) (S i j)) (c.inside i j hi hj)))
            (sub_trans A L _ _ _ e (sub_meet_r A L (C i j) (S i j))));
        largest = λ D cl w.
            k.largest D cl
            (λ i j hi hj.
            subst (Sub A (D i j)) (sym (q i j hi hj))
            (sub_meet A L (D i j) (C i j) (S i j) (c.largest D cl (first D w) i j hi hj) (second D w i j hi hj)));
      }
    where
      first : (D : Cells) → Within A n D G' → Within A n D G
      first D w i j hi hj =
          sub_trans A L _ _ _ (subst (Sub A (D i j)) (p i j hi hj) (w i j hi hj)) (sub_meet_l A L (G i j) (S i j))

      second : (D : Cells) → Within A n D G' → Within A n D S
      second D w i j hi hj =
          sub_trans A L _ _ _ (subst (Sub A (D i j)) (p i j hi hj) (w i j hi hj)) (sub_meet_r A L (G i j) (S i j))

  -- a cut that cuts nothing
  pub closing_kept : (G C S G' : Cells) → CutBy A n G S G' → Within A n C S → Closing A n G C → Closing A n G' C
  closing_kept G C S G' p w c =
      closing_again G C S G' C C p (λ i j hi hj. sym (w i j hi hj)) c (closing_own C c.closed)

  -- the closing of a grid whose mirrors are turned round is such a grid too
  pub closing_mirrored : (G C : Cells) → Mirrored A n G → Closing A n G C → ((i j : ℕ) → i < n → j < n → A.conv (A.conv (C i j)) ≡ C i j) → Mirrored A n C
  closing_mirrored G C m c back i j hi hj =
      sub_antisym A L (C j i) (A.conv (C i j))
      (subst (λ (x : ℕ). Sub A x (A.conv (C i j))) (back j i hj hi) (conv_mono A L (A.conv (C j i)) (C i j) (turned i j hi hj)))
      (turned j i hj hi)
    where
      turned : Within A n (λ a b. A.conv (C b a)) C
      turned =
          c.largest (λ a b. A.conv (C b a))
          (λ a b k ha hb hk.
          subst (Sub A (A.conv (C b a))) (L.conv-comp b k a (C b k) (C k a)) (conv_mono A L (C b a) (A.comp b k a (C b k) (C k a)) (c.closed b a k hb ha hk)))
          (λ a b ha hb. subst (Sub A (A.conv (C b a))) (sym (m b a hb ha)) (conv_mono A L (C b a) (G b a) (c.inside b a hb ha)))
