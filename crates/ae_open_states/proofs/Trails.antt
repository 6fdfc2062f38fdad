-- Which literals of a trail stand, and which of them a theory was told.
use Rattle.std.proofs.Common.{◌≡◌, ℕ, zero, suc, Bool, true, false, cond, List, [], ◌∷◌, ◌++◌, ap, sym, subst, ◌∙◌, arith, inl, inr}
use Rattle.std.specs.List.{AllByRecursion, Contains}
use Rattle.ae_core.specs.declared.formulas.Lit.{Lit}
use Rattle.ae_explain.specs.declared.trail.Assigned.{Assigned}
use Rattle.ae_journal.proofs.Splits.{contains_here, contains_later, contains_cases}
use Rattle.ae_propagation.specs.Settled.{Holds}
use Rattle.ae_theory.specs.Names.{is_atom}
use Rattle.ae_theory.specs.Noting.{literals}
use Rattle.ae_sat.specs.Marked.{atoms_from}
use Rattle.ae_open_states.specs.Shown.{trail_literals}

-- the place of a literal that stands
pub place_of : (t : List Assigned) (l : Lit) → Contains (trail_literals t) l → Holds t l
place_of [] l c = absurd (let k = c.1 in omega (arith, k))
place_of (a ∷ t) l c =
    elim (contains_cases a.lit (trail_literals t) l c) as (λ _. Holds (a ∷ t) l) [
      | inl e ↦ (0, omega arith, e)
      | inr d ↦ (let h = place_of t l d in (suc h.0, omega (arith, h.1), h.2))
    ]

-- what is true by the trail stands
pub stands_so : (t : List Assigned) (l : Lit) → Holds t l → Contains (trail_literals t) l
stands_so [] l (j, lt, e) = absurd (omega (arith, lt))
stands_so (a ∷ t) l (zero, lt, e) = subst (Contains (a.lit ∷ trail_literals t)) e (contains_here a.lit (trail_literals t))
stands_so (a ∷ t) l (suc j, lt, e) = contains_later a.lit (trail_literals t) l (stands_so t l (j, omega (arith, lt), e))

-- an atom that stands is one of those that the theory was told
pub atom_told : (i : ℕ) (t : List Assigned) (l : Lit) → is_atom l.formula ≡ true → Contains (trail_literals t) l → Contains (literals (atoms_from i t)) l
atom_told i [] l e c = absurd (let k = c.1 in omega (arith, k))
atom_told i (a ∷ t) l e c =
    elim (contains_cases a.lit (trail_literals t) l c) as (λ _. Contains (literals (atoms_from i (a ∷ t))) l) [
      | inl q ↦
          subst (λ (b : Bool). Contains (literals (cond b (record { lit = a.lit; tag = i } ∷ []) [] ++ atoms_from (suc i) t)) l) (sym (ap (λ (m : Lit). is_atom m.formula) q ∙ e))
          (subst (Contains (a.lit ∷ literals (atoms_from (suc i) t))) q (contains_here a.lit (literals (atoms_from (suc i) t))))
      | inr d ↦ later (is_atom a.lit.formula) (atom_told (suc i) t l e d)
    ]
  where
    later : (b : Bool) → Contains (literals (atoms_from (suc i) t)) l → Contains (literals (cond b (record { lit = a.lit; tag = i } ∷ []) [] ++ atoms_from (suc i) t)) l
    later true h = contains_later a.lit (literals (atoms_from (suc i) t)) l h
    later false h = h

-- what holds of each element holds of all
pub all_of_each : {X : Type 0} (P : X → Type 0) (xs : List X) → ((x : X) → Contains xs x → P x) → AllByRecursion P xs
all_of_each P [] h = tt
all_of_each P (x ∷ xs) h = (h x (contains_here x xs), all_of_each P xs (λ z k. h z (contains_later x xs z k)))
