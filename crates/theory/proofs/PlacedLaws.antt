-- The scenario of any placing is a closed grid, so closing removes nothing that a placing uses.
use mathlib.Core.Path.{◌≡◌, sym, ap, ◌∙◌, subst}
use mathlib.Core.List.{List}
use Prim.Native.Nat.{ℕ, ◌^◌, ◌<◌}
use native.Mathlib.Omega.{arith}
use lib.Bits.{bit_and, and_le_r}
use lib.Dec.{T, eqb, eqb→eq, eqb_refl}
use Rattle.relation.specs.Comparing.{rel_of}
use Rattle.relation.specs.Meaning.{Event}
use Rattle.relation.specs.Sets.{member}
use Rattle.relation.specs.Composition.{compose}
use Rattle.relation.proofs.Tested.{T_of, of_T}
use Rattle.relation.proofs.SetLaws.{member-none, member-mark, mark_lt, and_inside, inside_and, same-inside}
use Rattle.relation.proofs.LowestLaws.{some-member}
use Rattle.relation.proofs.Relations.{rel_of_lt, one-within, within-one}
use Rattle.relation.proofs.Laws.{compose-placed}
use Rattle.grid.specs.Cells.{cell}
use Rattle.grid.specs.Meets.{Meets}
use Rattle.theory.specs.Allen.{allen}
use Rattle.theory.specs.Closing.{Cells, Closed, Within, Closing}
use Rattle.theory.specs.Largest.{closing_of}
use Rattle.theory.specs.Search.{emptied, closes_to}
use Rattle.theory.proofs.AllenLaws.{lawful, of_sets}
use Rattle.theory.proofs.LargestLaws.{closing_long, closing_right, closes_closed}

-- ---- the set of one relation

pub member_self : (r : ℕ) → r < 13 → T (member r (2 ^ r))
member_self r h = T_of (member-mark r r h h ∙ of_T (eqb r r) (eqb_refl r))

pub member_only : (r s : ℕ) → r < 13 → s < 13 → T (member s (2 ^ r)) → s ≡ r
member_only r s h k w = eqb→eq s r (subst T (member-mark r s h k) w)

-- r is in a exactly if its set lies inside a
pub mark-inside : (r a : ℕ) → r < 13 → T (member r a) → bit_and (2 ^ r) a ≡ 2 ^ r
mark-inside r a h w =
    inside_and (2 ^ r) a (mark_lt r h) (record { each = λ s k v. subst (λ (x : ℕ). T (member x a)) (sym (member_only r s h k v)) w })

pub inside-mark : (r a : ℕ) → r < 13 → bit_and (2 ^ r) a ≡ 2 ^ r → T (member r a)
inside-mark r a h e = (and_inside (2 ^ r) a e).each r h (member_self r h)

-- a set inside that of r alone has nothing, or r
pub only_mark : (r a : ℕ) → r < 13 → bit_and a (2 ^ r) ≡ a → (a ≡ 0 → ⊥) → a ≡ 2 ^ r
only_mark r a h e nz =
    let l : a < 8192 = omega (arith, and_le_r a (2 ^ r), mark_lt r h) in
    let i = and_inside a (2 ^ r) e in
    let m = some-member a (omega arith) l in
    same-inside a (2 ^ r) l (mark_lt r h) i
    (record {
      each = λ s k v.
          subst (λ (x : ℕ). T (member x a)) (member_only r m.0 h m.1 (i.each m.0 m.1 m.2) ∙ sym (member_only r s h k v)) m.2;
    })

-- ---- the scenario of a placing

abbrev pub scenario_of : (ℕ → Event) → Cells
scenario_of P i j = 2 ^ rel_of (P i) (P j)

-- the placing meets each cell, by the one relation of its two events
abbrev pub Uses : ℕ → (ℕ → Event) → Cells → Type 0
Uses n P G = (i j : ℕ) → i < n → j < n → T (member (rel_of (P i) (P j)) (G i j))

pub meets_uses : (n : ℕ) (g : List ℕ) (P : ℕ → Event) → Meets n g P → Uses n P (cell n g)
meets_uses n g P m i j hi hj = one-within (cell n g i j) (P i) (P j) (m.each i j hi hj)

pub uses_meets : (n : ℕ) (g : List ℕ) (P : ℕ → Event) → Uses n P (cell n g) → Meets n g P
uses_meets n g P u = record { each = λ i j hi hj. within-one (cell n g i j) (P i) (P j) (u i j hi hj) }

pub scenario_closed : (n : ℕ) (P : ℕ → Event) → Closed allen n (scenario_of P)
scenario_closed n P i j k hi hj hk =
    mark-inside (rel_of (P i) (P j)) (compose (scenario_of P i k) (scenario_of P k j)) (rel_of_lt (P i) (P j))
    (compose-placed (P i) (P k) (P j) (scenario_of P i k) (scenario_of P k j) (member_self (rel_of (P i) (P k)) (rel_of_lt (P i) (P k)))
    (member_self (rel_of (P k) (P j)) (rel_of_lt (P k) (P j))))

uses_within : (n : ℕ) (P : ℕ → Event) (G : Cells) → Uses n P G → Within allen n (scenario_of P) G
uses_within n P G u i j hi hj = mark-inside (rel_of (P i) (P j)) (G i j) (rel_of_lt (P i) (P j)) (u i j hi hj)

within_uses : (n : ℕ) (P : ℕ → Event) (G : Cells) → Within allen n (scenario_of P) G → Uses n P G
within_uses n P G w i j hi hj = inside-mark (rel_of (P i) (P j)) (G i j) (rel_of_lt (P i) (P j)) (w i j hi hj)

-- a smaller grid that a placing meets
pub uses_more : (n : ℕ) (P : ℕ → Event) (G H : Cells) → Within allen n G H → Uses n P G → Uses n P H
uses_more n P G H w u i j hi hj = (and_inside (G i j) (H i j) (w i j hi hj)).each (rel_of (P i) (P j)) (rel_of_lt (P i) (P j)) (u i j hi hj)

-- closing removes nothing that a placing uses
pub closing_uses : (n : ℕ) (P : ℕ → Event) (G C : Cells) → Closing allen n G C → Uses n P G → Uses n P C
closing_uses n P G C c u = within_uses n P C (c.largest (scenario_of P) (scenario_closed n P) (uses_within n P G u))

pub closing_meets : (n : ℕ) (g h : List ℕ) (P : ℕ → Event) → Closing allen n (cell n g) (cell n h) → Meets n g P → Meets n h P
closing_meets n g h P c m = uses_meets n h P (closing_uses n P (cell n g) (cell n h) c (meets_uses n g P m))

-- so something is left of a grid that a placing meets
pub closes_some : (n : ℕ) (P : ℕ → Event) (g : List ℕ) → ((i j : ℕ) → i < n → j < n → cell n g i j < 8192) → Uses n P (cell n g) → closes_to allen n g ≡ emptied → ⊥
closes_some n P g small u z =
    let c = closing_right allen lawful of_sets n g small in
    let v = closing_uses n P (cell n g) (cell n (closing_of allen n g)) c u in
    let some = closes_closed allen lawful of_sets n g small (closing_of allen n g) (closing_long allen lawful of_sets n g) (λ i j hi hj e. used_some (rel_of (P i) (P j)) (cell n (closing_of allen n g) i j) (v i j hi hj) e) c in
    let w = sym z ∙ some in
    let y : ◌≡◌ {A = ℕ} 0 1 = cc in
    omega arith
  where
    used_some : (r a : ℕ) → T (member r a) → a ≡ 0 → ⊥
    used_some r a t e = subst T (ap (member r) e ∙ member-none r) t
