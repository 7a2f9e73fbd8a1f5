-- Joining and leaving the waiting list that ring and marks hold.
use mathlib.Core.Path.{◌≡◌, refl, ap, ap₂, sym, ◌∙◌}
use mathlib.Core.Bool.{Bool, true, false, cond}
use mathlib.Core.List.{List, [], ◌∷◌, ◌++◌}
use Prim.Native.Nat.{ℕ, zero, suc, ◌+◌, ◌-◌, ◌%◌, ◌<◌}
use native.Mathlib.Decide.{ℕ_discrete}
use native.Mathlib.Numerals.{add-one}
use native.Mathlib.Omega.{arith}
use borrow.Author.Tests.{eq-eqb, ne_eqb}
use lib.ListN.{length, get_or, set, length-set, replicate}
use lib.Seq.{get_or-set_same, get_or-set_other}
use Rattle.std.proofs.lemmas.List.{get_or-replicate}
use Rattle.std.proofs.lemmas.List.Folds.{sum_by-replicate}
use Rattle.std.proofs.lemmas.List.Sums.{sum_by-set, count_by-le-length}
use Rattle.std.specs.List.{count_by}
use Rattle.relation.specs.Sets.{one_if}
use Rattle.theory.specs.Line.{occurs, joins}
use Rattle.theory.proofs.LineLaws.{occurs-append, occurs-cons-same, occurs-cons-other, occurs_nil}
use Rattle.takes.specs.Waiting.{queue_of, first_of, line_of, Waiting}

-- the head counts round
pub queue_round : (ring : List ℕ) (h h' l : ℕ) → h % 1024 ≡ h' % 1024 → queue_of ring h l ≡ queue_of ring h' l
unfolding queue_of
queue_round ring h h' zero e = refl
queue_round ring h h' (suc l) e = ap₂ (λ (x : ℕ) (y : List ℕ). get_or ring x 0 ∷ y) e (queue_round ring (suc h) (suc h') l (omega arith))

pub queue_other : (ring : List ℕ) (s v h l : ℕ) → ((t : ℕ) → t < l → (h + t) % 1024 ≡ s → ⊥) → queue_of (set ring s v) h l ≡ queue_of ring h l
unfolding queue_of
queue_other ring s v h zero ne = refl
queue_other ring s v h (suc l) ne =
    ap₂ (λ (x : ℕ) (y : List ℕ). x ∷ y) (get_or-set_other ring s (h % 1024) v 0 (λ e. ne 0 (omega arith) (omega arith)))
    (queue_other ring s v (suc h) l (λ t ht e. ne (suc t) (omega arith) (omega arith)))

pub queue_snoc : (ring : List ℕ) (h l : ℕ) → queue_of ring h (suc l) ≡ queue_of ring h l ++ (get_or ring ((h + l) % 1024) 0 ∷ [])
unfolding queue_of
queue_snoc ring h zero = ap (λ (x : ℕ). get_or ring (x % 1024) 0 ∷ []) (omega arith)
queue_snoc ring h (suc l) =
    ap (λ (y : List ℕ). get_or ring (h % 1024) 0 ∷ y)
    (queue_snoc ring (suc h) l ∙ ap (λ (x : ℕ). queue_of ring (suc h) l ++ (get_or ring (x % 1024) 0 ∷ [])) (omega arith))

pub queue_push : (ring : List ℕ) (h l p : ℕ) → length ring ≡ 1024 → l < 1024
    → queue_of (set ring ((h + l) % 1024) p) h (suc l) ≡ queue_of ring h l ++ (p ∷ [])
queue_push ring h l p n hl =
    queue_snoc (set ring ((h + l) % 1024) p) h l
    ∙ ap₂ (λ (x : List ℕ) (y : ℕ). x ++ (y ∷ [])) (queue_other ring ((h + l) % 1024) p h l (λ t ht e. omega arith))
    (get_or-set_same ring ((h + l) % 1024) p 0 (omega arith))

pub queue_pop : (ring : List ℕ) (h l : ℕ) → h < 1024 → queue_of ring h (suc l) ≡ get_or ring h 0 ∷ queue_of ring ((h + 1) % 1024) l
unfolding queue_of
queue_pop ring h l hh =
    ap₂ (λ (x : ℕ) (y : List ℕ). get_or ring x 0 ∷ y) (omega arith) (queue_round ring (suc h) ((h + 1) % 1024) l (omega arith))

occurs_snoc_same : (p : ℕ) (q : List ℕ) → occurs p (q ++ (p ∷ [])) ≡ occurs p q + 1
occurs_snoc_same p q = omega (arith, occurs-append p q (p ∷ []), occurs-cons-same p [], occurs_nil p)

occurs_snoc_other : (c p : ℕ) (q : List ℕ) → (c ≡ p → ⊥) → occurs c (q ++ (p ∷ [])) ≡ occurs c q
occurs_snoc_other c p q ne = omega (arith, occurs-append c q (p ∷ []), occurs-cons-other c p [] ne, occurs_nil c)

one_is : (b : Bool) → cond b 1 0 ≡ one_if b
one_is true = refl
one_is false = refl

-- one more is marked, or one less; and where one is not, there is room
marks-set : (waits : List Bool) (p : ℕ) (v : Bool) → p < length waits
    → count_by (λ b. b) (set waits p v) + one_if (get_or waits p false) ≡ count_by (λ b. b) waits + one_if v
marks-set waits p v h = omega (arith, sum_by-set (λ b. cond b 1 0) waits p v false h, one_is v, one_is (get_or waits p false))

marks-room : (waits : List Bool) (p : ℕ) → p < length waits → get_or waits p false ≡ false → count_by (λ b. b) waits < length waits
marks-room waits p h z =
    omega (arith, marks-set waits p true h, ap one_if z, count_by-le-length (λ b. b) (set waits p true), length-set waits p true)

module _ (ring : List ℕ) (waits : List Bool) (end l : ℕ) (places : length ring ≡ 1024) (room : length waits ≡ 1024) (w : Waiting ring waits end l) (p : ℕ) where
  -- a mark says whether a pair waits, so joining is decided by it
  pub joins-none : p < 1024 → get_or waits p false ≡ true → joins p (line_of ring end l) ≡ line_of ring end l
  unfolding joins
  joins-none hp f = simp (ne_eqb (occurs p (line_of ring end l)) 0 (λ e. omega (arith, e, w.marked p hp, ap one_if f)))

  module _ (hp : p < 1024) (f : get_or waits p false ≡ false) where
    pub line_room : l < 1024
    line_room = omega (arith, marks-room waits p (omega arith) f, w.counted)

    last_place : end ≡ (first_of end l + l) % 1024
    last_place = omega (arith, w.end-small, line_room)

    same_first : first_of ((end + 1) % 1024) (l + 1) ≡ first_of end l
    same_first = omega (arith, w.end-small, line_room)

    grown : line_of (set ring end p) ((end + 1) % 1024) (l + 1) ≡ line_of ring end l ++ (p ∷ [])
    grown =
        ap₂ (λ (x y : ℕ). queue_of (set ring x p) y (l + 1)) last_place same_first
        ∙ rw (add-one l) (queue_push ring (first_of end l) l p places line_room)

    pub joined : line_of (set ring end p) ((end + 1) % 1024) (l + 1) ≡ joins p (line_of ring end l)
    unfolding joins
    joined = grown ∙ simp (eq-eqb (occurs p (line_of ring end l)) 0 (sym (w.marked p hp) ∙ ap one_if f))

    join-marked : (c : ℕ) → c < 1024 → one_if (get_or (set waits p true) c false) ≡ occurs c (line_of (set ring end p) ((end + 1) % 1024) (l + 1))
    join-marked c hc = rw grown (go (ℕ_discrete c p))
      where
        go : Dec (c ≡ p) → one_if (get_or (set waits p true) c false) ≡ occurs c (line_of ring end l ++ (p ∷ []))
        go (yes e) = rw e (omega (arith, ap one_if (get_or-set_same waits p true false (omega arith)), occurs_snoc_same p (line_of ring end l), w.marked p hp, ap one_if f))
        go (no ne) = ap one_if (get_or-set_other waits p c true false ne) ∙ w.marked c hc ∙ sym (occurs_snoc_other c p (line_of ring end l) ne)

    join-small : (c : ℕ) → 0 < occurs c (line_of (set ring end p) ((end + 1) % 1024) (l + 1)) → c < 1024
    join-small c o = go (ℕ_discrete c p) (rw grown at o)
      where
        go : Dec (c ≡ p) → 0 < occurs c (line_of ring end l ++ (p ∷ [])) → c < 1024
        go (yes e) o = rw e hp
        go (no ne) o = w.small c (rw (occurs_snoc_other c p (line_of ring end l) ne) at o)

    pub join-waiting : Waiting (set ring end p) (set waits p true) ((end + 1) % 1024) (l + 1)
    join-waiting =
        record {
          end-small = omega arith;
          len-small = omega (arith, line_room);
          marked = join-marked;
          counted = omega (arith, marks-set waits p true (omega arith), w.counted, ap one_if f);
          small = join-small;
        }

-- the first pair leaves
module _ (ring : List ℕ) (waits : List Bool) (end l : ℕ) (places : length ring ≡ 1024) (room : length waits ≡ 1024) (w : Waiting ring waits end (suc l)) where
  abbrev rest : List ℕ
  rest = line_of ring end l

  abbrev first : ℕ
  first = get_or ring (first_of end (suc l)) 0

  second_place : (first_of end (suc l) + 1) % 1024 ≡ first_of end l
  second_place = omega (arith, w.end-small, w.len-small)

  left : line_of ring end (suc l) ≡ first ∷ rest
  left = queue_pop ring (first_of end (suc l)) l (omega arith) ∙ ap (λ (x : ℕ). first ∷ queue_of ring x l) second_place

  first-small : first < 1024
  first-small = w.small first (rw left (omega (arith, occurs-cons-same first rest)))

  first_in : one_if (get_or waits first false) ≡ 1 + occurs first rest
  first_in = w.marked first first-small ∙ ap (occurs first) left ∙ occurs-cons-same first rest

  first-once : occurs first rest ≡ 0
  first-once = go (get_or waits first false) first_in
    where
      go : (b : Bool) → one_if b ≡ 1 + occurs first rest → occurs first rest ≡ 0
      go true e = omega arith
      go false e = omega arith

  pop-marked : (c : ℕ) → c < 1024 → one_if (get_or (set waits first false) c false) ≡ occurs c rest
  pop-marked c hc = go (ℕ_discrete c first)
    where
      go : Dec (c ≡ first) → one_if (get_or (set waits first false) c false) ≡ occurs c rest
      go (yes e) = rw e (ap one_if (get_or-set_same waits first false false (omega (arith, first-small))) ∙ sym first-once)
      go (no ne) = ap one_if (get_or-set_other waits first c false false ne) ∙ w.marked c hc ∙ ap (occurs c) left ∙ occurs-cons-other c first rest ne

  pop-small : (c : ℕ) → 0 < occurs c rest → c < 1024
  pop-small c o = go (ℕ_discrete c first)
    where
      go : Dec (c ≡ first) → c < 1024
      go (yes e) = rw e first-small
      go (no ne) = w.small c (rw (left, occurs-cons-other c first rest ne) o)

  pop-waiting : Waiting ring (set waits first false) end l
  pop-waiting =
      record {
        end-small = w.end-small;
        len-small = omega (arith, w.len-small);
        marked = pop-marked;
        counted = omega (arith, marks-set waits first false (omega (arith, first-small)), w.counted, first_in, first-once);
        small = pop-small;
      }

-- the first pair of a list that is not empty, and the list without it
pub record Left (ring : List ℕ) (waits : List Bool) (end l : ℕ) : Type 0 where
  pub small : get_or ring (first_of end l) 0 < 1024
  pub waiting : Waiting ring (set waits (get_or ring (first_of end l) 0) false) end (l - 1)
  pub was : line_of ring end l ≡ get_or ring (first_of end l) 0 ∷ line_of ring end (l - 1)

pub leaves : (ring : List ℕ) (waits : List Bool) (end l : ℕ) → length ring ≡ 1024 → length waits ≡ 1024 → Waiting ring waits end l → (l ≡ 0 → ⊥) → Left ring waits end l
leaves ring waits end (suc l) places room w ne =
    let d : suc l - 1 ≡ l = omega arith in
    record { small = first-small ring waits end l places room w; waiting = rw d (pop-waiting ring waits end l places room w); was = rw d (left ring waits end l places room w) }
leaves ring waits end zero places room w ne = absurd (ne refl)

-- nothing waits
pub empty_waiting : (ring : List ℕ) (end : ℕ) → end < 1024 → Waiting ring (replicate 1024 false) end 0
unfolding queue_of
empty_waiting ring end small =
    record {
      end-small = small;
      len-small = omega arith;
      marked = λ p h. ap one_if (get_or-replicate 1024 p false false h) ∙ sym (occurs_nil p);
      counted = sum_by-replicate (λ b. cond b 1 0) 1024 false;
      small = λ p h. absurd (omega (arith, h, occurs_nil p));
    }

pub empty_queue : (ring : List ℕ) (h l : ℕ) → l ≡ 0 → queue_of ring h l ≡ []
unfolding queue_of
empty_queue ring h zero e = refl
empty_queue ring h (suc l) e = absurd (omega arith)
