-- Texts put in one after the other.
use mathlib.Core.Path.{◌≡◌, refl, ◌∙◌, ap}
use mathlib.Core.List.{List, [], ◌∷◌, ◌++◌}
use Prim.Native.Nat.{ℕ, suc, ◌+◌, ◌<◌}
use native.Mathlib.Omega.{arith}
use native.Mathlib.Numerals.{add-one}
use lib.ListN.{length, take, get_or, set, length-append}
use lib.Seq.{take-nil, take-suc, sets}
use Rattle.report.specs.Report.{laid, Prints}
use Rattle.report.specs.Steps.{Adds}
use Rattle.report.specs.declared.page.Page.{Page}

pub adds_none : (p : Page) → Adds p p []
adds_none p = record { next = omega arith; same = refl; room = refl }

sets_then : (l : List ℕ) (a : ℕ) (s t : List ℕ) → sets (sets l a s) (a + length s) t ≡ sets l a (s ++ t)
sets_then l a [] t = let e : a + 0 ≡ a = omega arith in rw e
sets_then l a (b ∷ s) t = let e : a + suc (length s) ≡ suc a + length s = omega arith in rw e (sets_then (set l a b) (suc a) s t)

-- one text, and then another
pub adds_then : {old mid new : Page} {s t : List ℕ} → Adds old mid s → Adds mid new t → Adds old new (s ++ t)
adds_then {old} {mid} {new} {s} {t} p q =
    record {
      next = omega (arith, p.next, q.next, length-append s t);
      same = q.same ∙ p.same;
      room = q.room ∙ ap (λ (l : List ℕ). sets l mid.len t) p.room ∙ ap (λ (k : ℕ). sets (sets old.room.now old.len s) k t) p.next ∙ sets_then old.room.now old.len s t;
    }

-- the first k bytes of a text, and one more
pub adds-more : {old mid new : Page} (s : List ℕ) (k : ℕ) → k < length s → Adds old mid (take k s)
    → Adds mid new (get_or s k 0 ∷ []) → Adds old new (take (k + 1) s)
adds-more s k h p q = rw (add-one k, take-suc s k 0) (adds_then p q)

-- ---- a text from the beginning

sets_nil : (a : ℕ) (s : List ℕ) → ◌≡◌ {A = List ℕ} (sets [] a s) []
sets_nil a [] = refl
sets_nil a (b ∷ s) = sets_nil (suc a) s

sets_cons : (x : ℕ) (l : List ℕ) (a : ℕ) (s : List ℕ) → sets (x ∷ l) (suc a) s ≡ x ∷ sets l a s
sets_cons x l a [] = refl
sets_cons x l a (b ∷ s) = sets_cons x (set l a b) (suc a) s

sets_laid : (l s : List ℕ) → sets l 0 s ≡ laid s l
unfolding laid
sets_laid l [] = rw (take-nil {A = ℕ} (length l))
sets_laid [] (b ∷ s) = sets_nil 1 s
sets_laid (x ∷ l) (b ∷ s) = sets_cons b l 0 s ∙ ap (λ (r : List ℕ). b ∷ r) (sets_laid l s)

-- the room of a page that began with nothing
pub adds_prints : {text : List ℕ} {old new : Page} {room' : List ℕ} → Adds old new text → old.len ≡ 0 → room' ≡ new.room.now
    → Prints text old.room.now new.len room'
adds_prints {text} {old} {new} w z e =
    record { len = omega (arith, w.next); bytes = e ∙ w.room ∙ ap (λ (k : ℕ). sets old.room.now k text) z ∙ sets_laid old.room.now text }
