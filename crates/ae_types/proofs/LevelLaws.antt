-- Laws of levels: a graph has them exactly where it has a solution.
use Rattle.std.proofs.Common.{◌≡◌, ◌≢◌, ℕ, zero, suc, ◌+◌, ◌<◌, ◌≤◌, inl, inr, List, [], ◌∷◌, map, length, get_or, refl, ap, sym, ◌∙◌, subst, arith, slice_set, get_or-set_other, get_or-set_same, None}
use Rattle.ae_core.specs.declared.terms.Sort.{Sort, Named}
use Rattle.ae_types.specs.Substitutions.{put}
use Rattle.ae_types.specs.Inner.Graphs.{Slot, Free, Link, Plain, Built, Solves, Well, SlotWell, slot_at, value, from_slot, Fits, IsFree}
use Rattle.ae_types.specs.Inner.Levels.{Ready, IsReady, Above, Levelled, Settled, empties}
use Rattle.ae_types.proofs.SortLaws.{put_named, put_constant}
use Rattle.ae_types.proofs.GraphLaws.{maps_same}
use Rattle.ae_types.proofs.JoinLaws.{same_or_not}

pub empties_set : (ls : List ℕ) (i x : ℕ) → i < length ls → get_or ls i 0 ≡ 0 → 0 < x → empties (slice_set ls i x) + 1 ≡ empties ls
empties_set [] i x h e k = absurd (omega arith)
empties_set (zero ∷ ls) zero zero h e k = absurd (omega arith)
empties_set (zero ∷ ls) zero (suc x) h e k = omega arith
empties_set (suc l ∷ ls) zero x h e k = absurd (omega arith)
empties_set (l ∷ ls) (suc i) x h e k = let ih = empties_set ls i x (omega arith) e k in omega arith

pub empties_none : (ls : List ℕ) → empties ls ≡ 0 → (i : ℕ) → i < length ls → 0 < get_or ls i 0
empties_none [] e i h = absurd (omega arith)
empties_none (zero ∷ ls) e i h = absurd (omega arith)
empties_none (suc l ∷ ls) e zero h = omega arith
empties_none (suc l ∷ ls) e (suc i) h = empties_none ls (omega arith) i (omega arith)

pub empties_found : (ls : List ℕ) (i : ℕ) → i < length ls → get_or ls i 0 ≡ 0 → 0 < empties ls
empties_found [] i h e = absurd (omega arith)
empties_found (zero ∷ ls) zero h e = omega arith
empties_found (suc l ∷ ls) zero h e = absurd (omega arith)
empties_found (l ∷ ls) (suc i) h e = let ih = empties_found ls i (omega arith) e in omega arith

-- a level for one more place
pub keeps : (ls : List ℕ) (i j x : ℕ) → get_or ls i 0 ≡ 0 → 0 < get_or ls j 0 → get_or (slice_set ls i x) j 0 ≡ get_or ls j 0
keeps ls i j x e h = let n : j ≢ i = λ k. (let a = ap (λ m. get_or ls m 0) k in omega arith) in get_or-set_other ls i j x 0 n

above_set : (ls : List ℕ) (i x n : ℕ) (s : Slot) → get_or ls i 0 ≡ 0 → Above ls n s → Above (slice_set ls i x) n s
above_set ls i x n Free e h = tt
above_set ls i x n (Link j) e h = let k = keeps ls i j x e h.0 in (omega arith, omega arith)
above_set ls i x n (Plain b) e h = tt
above_set ls i x n (Built m args) e h = λ k w. (let q = h k w in let r = keeps ls i (get_or args k 0) x e q.0 in (omega arith, omega arith))

ready_above : (slots : List Slot) (ls : List ℕ) (top i : ℕ) (s : Slot) → Levelled slots ls top → SlotWell (length slots) i s → i < length slots → Ready ls s → Above ls (top + 1) s
ready_above slots ls top i Free l w h r = tt
ready_above slots ls top i (Link j) l w h r = let b = (l.each j (omega arith) r).0 in (r, omega arith)
ready_above slots ls top i (Plain b) l w h r = tt
ready_above slots ls top i (Built m args) l w h r = λ k q. (let b = (l.each (get_or args k 0) (w k q) (r k q)).0 in (r k q, omega arith))

pub levelled_set : (slots : List Slot) (ls : List ℕ) (top i : ℕ) → length ls ≡ length slots → Well slots → IsReady slots ls i → Levelled slots ls top
    → Levelled slots (slice_set ls i (top + 1)) (top + 1)
levelled_set slots ls top i len w r l = record {
  each = λ j a h. elim (same_or_not j i) [
    | inl e ↦
        let x = ap (λ k. get_or (slice_set ls i (top + 1)) k 0) e ∙ get_or-set_same ls i (top + 1) 0 (let q = r.within in omega arith) in
        let q = above_set ls i (top + 1) (top + 1) (slot_at slots i) r.empty
        (ready_above slots ls top i (slot_at slots i) l (w.each i r.within) r.within r.ready) in (
          omega arith,
          subst (λ k. Above (slice_set ls i (top + 1)) (get_or (slice_set ls i (top + 1)) j 0) (slot_at slots k)) (sym e)
              (subst (λ n. Above (slice_set ls i (top + 1)) n (slot_at slots i)) (sym x) q),
        )
    | inr n ↦
        let x = get_or-set_other ls i j (top + 1) 0 n in
        let q = l.each j a (omega arith) in
        let b = q.0 in
        (omega arith, subst (λ m. Above (slice_set ls i (top + 1)) m (slot_at slots j)) (sym x) (above_set ls i (top + 1) (get_or ls j 0) (slot_at slots j) r.empty q.1))
  ];
}

-- where all places have levels, the graph has a solution
from_same : (e f g : ℕ → Sort) (ls : List ℕ) (len n i : ℕ) (s : Slot) → i < len → SlotWell len i s → Above ls n s
    → ((j : ℕ) → j < len → get_or ls j 0 < n → f j ≡ g j) → from_slot e f s i ≡ from_slot e g s i
from_same e f g ls len n i Free a w b h = refl
from_same e f g ls len n i (Link j) a w b h = h j (omega arith) b.1
from_same e f g ls len n i (Plain c) a w b h = refl
from_same e f g ls len n i (Built m args) a w b h = ap (Named m) (maps_same f g args (λ k q. h (get_or args k 0) (w k q) (b k q).1))

stable : (e : ℕ → Sort) (slots : List Slot) → Well slots → (z : Settled slots)
    → (n i : ℕ) → i < length slots → get_or z.levels i 0 ≤ n → value e (suc n) slots i ≡ value e n slots i
stable e slots w z zero i a h = absurd (let q = z.all i a in omega arith)
stable e slots w z (suc n) i a h =
    from_same e (value e (suc n) slots) (value e n slots) z.levels (length slots) (get_or z.levels i 0) i (slot_at slots i) a (w.each i a)
    (z.above.each i a (z.all i a)).1
    (λ j b q. stable e slots w z n j b (omega arith))

from_fits : (e v : ℕ → Sort) (s : Slot) (i : ℕ) (x : Sort) → x ≡ from_slot e v s i → Fits None v s x
from_fits e v Free i x q = tt
from_fits e v (Link j) i x q = q
from_fits e v (Plain b) i x q = q
from_fits e v (Built m args) i x q = q

-- whatever the unknowns are, the graph has a solution with them
pub settled_solves : (e : ℕ → Sort) (slots : List Slot) → Well slots → Settled slots → Solves None (value e (length slots) slots) slots
settled_solves e slots w z = record {
  each = λ i a. from_fits e (value e (length slots) slots) (slot_at slots i) i (value e (length slots) slots i)
      (sym (stable e slots w z (length slots) i a (let q = (z.above.each i a (z.all i a)).0 in omega arith)));
}

-- and each solution is an instance of the one that has unknowns
pub map_put : (f g v : ℕ → Sort) (xs : List ℕ) → ((k : ℕ) → k < length xs → put f (g (get_or xs k 0)) ≡ v (get_or xs k 0)) → map (put f) (map g xs) ≡ map v xs
map_put f g v [] h = refl
map_put f g v (x ∷ xs) h = ap (λ s. s ∷ map (put f) (map g xs)) (h 0 (omega arith)) ∙ ap (λ ss. v x ∷ ss) (map_put f g v xs (λ k w. h (suc k) (omega arith)))

general_slot : (e f g v : ℕ → Sort) (ls : List ℕ) (len n i : ℕ) (s : Slot) (x : Sort) → i < len → SlotWell len i s → Above ls n s
    → (IsFree s → put f (e i) ≡ x) → ((j : ℕ) → j < len → get_or ls j 0 < n → put f (g j) ≡ v j) → Fits None v s x → put f (from_slot e g s i) ≡ x
general_slot e f g v ls len n i Free x a w b z ih h = z tt
general_slot e f g v ls len n i (Link j) x a w b z ih h = ih j (omega arith) b.1 ∙ sym h
general_slot e f g v ls len n i (Plain c) x a w b z ih h = put_constant f c ∙ sym h
general_slot e f g v ls len n i (Built m args) x a w b z ih h =
    put_named f m (map g args) ∙ ap (Named m) (map_put f g v args (λ k q. ih (get_or args k 0) (w k q) (b k q).1)) ∙ sym h

pub general : (e f v : ℕ → Sort) (slots : List Slot) → Well slots → (z : Settled slots) → Solves None v slots
    → ((i : ℕ) → i < length slots → IsFree (slot_at slots i) → put f (e i) ≡ v i)
    → (n i : ℕ) → i < length slots → get_or z.levels i 0 ≤ n → put f (value e n slots i) ≡ v i
general e f v slots w z s u zero i a h = absurd (let q = z.all i a in omega arith)
general e f v slots w z s u (suc n) i a h =
    general_slot e f (value e n slots) v z.levels (length slots) (get_or z.levels i 0) i (slot_at slots i) (v i) a (w.each i a) (z.above.each i a (z.all i a)).1
    (u i a) (λ j b q. general e f v slots w z s u n j b (omega arith)) (s.each i a)
