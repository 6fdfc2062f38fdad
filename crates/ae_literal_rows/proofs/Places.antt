-- The literals of a trail by their places.
use Rattle.std.specs.Prelude.{ℕ, zero, suc, ◌+◌, ◌≤◌, ◌≡◌, Bool, true, cond, List, [], ◌∷◌, map, slice_get, Some}
use Rattle.std.specs.List.{Contains}
use Rattle.std.proofs.Common.{arith, refl, sym, ap, ◌∙◌, subst, inl, inr}
use Rattle.std.proofs.lemmas.Option.{same_Some, none-some}
use Rattle.std.proofs.lemmas.List.Elements.{Contains-append_left, Contains-append_right}
use Rattle.ae_core.specs.declared.formulas.Lit.{Lit}
use Rattle.ae_explain.specs.declared.trail.Assigned.{Assigned}
use Rattle.ae_journal.proofs.Splits.{contains_cases, contains_here, contains_later, all_contained}
use Rattle.ae_theory.specs.Names.{is_atom}
use Rattle.ae_theory.specs.Tagged.{Tagged}
use Rattle.ae_sat.specs.Marked.{atoms_from}
use Rattle.ae_literal_rows.specs.Trails.{literals_from}

-- a literal from a place on stands at a place
pub placed : (t : List Assigned) (from : ℕ) (l : Lit) → Contains (literals_from t from) l → (k : ℕ) × (a : Assigned) × (from ≤ k) × (slice_get t k ≡ Some a) × (a.lit ≡ l)
placed [] zero l c = absurd (all_contained (λ (m : Lit). ⊥) [] l tt c)
placed [] (suc from) l c = absurd (all_contained (λ (m : Lit). ⊥) [] l tt c)
placed (a ∷ t) zero l c = elim (contains_cases a.lit (map (λ (b : Assigned). b.lit) t) l c) [
  | inl e ↦ (0, a, omega arith, refl, e)
  | inr h ↦ (let w = placed t zero l h in (suc w.0, w.1, omega arith, w.3, w.4))
]
placed (a ∷ t) (suc from) l c = let w = placed t from l c in let m = w.2 in (suc w.0, w.1, omega (arith, m), w.3, w.4)

-- and the other way round
pub there : (t : List Assigned) (from k : ℕ) (a : Assigned) → from ≤ k → slice_get t k ≡ Some a → Contains (literals_from t from) a.lit
there [] from k a h e = absurd (none-some a e)
there (b ∷ t) zero zero a h e = subst (λ (c : Assigned). Contains (literals_from (b ∷ t) zero) c.lit) (same_Some b a e) (contains_here b.lit (map (λ (c : Assigned). c.lit) t))
there (b ∷ t) zero (suc k) a h e = contains_later b.lit (map (λ (c : Assigned). c.lit) t) a.lit (there t zero k a (omega arith) e)
there (b ∷ t) (suc from) zero a h e = absurd (omega (arith, h))
there (b ∷ t) (suc from) (suc k) a h e = there t from k a (omega (arith, h)) e

-- an atom has its place as its tag
pub atom_there : (t : List Assigned) (i k : ℕ) (a : Assigned) → slice_get t k ≡ Some a → is_atom a.lit.formula ≡ true → Contains (atoms_from i t) (record { lit = a.lit; tag = i + k })
atom_there [] i k a e q = absurd (none-some a e)
atom_there (b ∷ t) i zero a e q =
    let same : b ≡ a = same_Some b a e in
    let atom : is_atom b.lit.formula ≡ true = ap (λ (c : Assigned). is_atom c.lit.formula) same ∙ q in
    let one : Tagged = record { lit = b.lit; tag = i } in
    let here : Contains (cond (is_atom b.lit.formula) (one ∷ []) []) one = subst (λ (z : Bool). Contains (cond z (one ∷ []) []) one) (sym atom) (contains_here one []) in
    let number : i ≡ i + 0 = omega arith in
    subst (λ (c : Tagged). Contains (atoms_from i (b ∷ t)) c) (λ j. record { lit = (same j).lit; tag = number j })
    (Contains-append_left (cond (is_atom b.lit.formula) (one ∷ []) []) (atoms_from (suc i) t) one here)
atom_there (b ∷ t) i (suc k) a e q =
    let number : suc i + k ≡ i + suc k = omega arith in
    let one : Tagged = record { lit = b.lit; tag = i } in
    subst (λ (n : ℕ). Contains (atoms_from i (b ∷ t)) (record { lit = a.lit; tag = n })) number
    (Contains-append_right (cond (is_atom b.lit.formula) (one ∷ []) []) (atoms_from (suc i) t) (record { lit = a.lit; tag = suc i + k }) (atom_there t (suc i) k a e q))
