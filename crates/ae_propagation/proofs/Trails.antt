-- Literals of a trail, and of a longer one.
use Rattle.std.proofs.Common.{◌≡◌, ℕ, zero, suc, ◌<◌, ◌≤◌, List, [], ◌∷◌, ◌++◌, length, refl, sym, ap, ◌∙◌, arith, inl, inr, None}
use Rattle.std.proofs.lemmas.Bool.{cases_eq, cases_lt}
use Rattle.std.proofs.Math.ListN.{get_or-append}
use Rattle.std.proofs.Math.Seq.{get_or-append_seam}
use Rattle.ae_rules.specs.Clauses.{opposite}
use Rattle.ae_core.specs.declared.formulas.Formula.{Formula}
use Rattle.ae_core.specs.declared.formulas.Lit.{Lit}
use Rattle.ae_explain.specs.declared.trail.Assigned.{Assigned}
use Rattle.ae_explain.specs.Trail.{at, nothing, place_in, Apart, IsFalse, level_before}
use Rattle.std.proofs.lemmas.Option.{none-some}
use Rattle.ae_base.proofs.Tests.{not_itself}
use Rattle.ae_explain.proofs.Places.{there}
use Rattle.ae_propagation.specs.Settled.{Holds}

-- two places with one formula are one
pub same_place : (t : List Assigned) → Apart t → (i j : ℕ) → i < length t → j < length t → (at t i).lit.formula ≡ (at t j).lit.formula → i ≡ j
same_place t apart i j l r e = elim (cases_lt i j) as (λ _. i ≡ j) [
  | inl h ↦ absurd (apart i j h r e)
  | inr g ↦ elim (cases_eq i j) as (λ _. i ≡ j) [
    | inl q ↦ q
    | inr d ↦ absurd (apart j i (omega (arith, g, d)) l (sym e))
  ]
]

-- no literal is true and false
pub consistent : (t : List Assigned) → Apart t → (m : Lit) → Holds t m → IsFalse t m → ⊥
consistent t apart m y n =
    let q : y.0 ≡ n.0 = same_place t apart y.0 n.0 y.1 n.1 (ap (λ (x : Lit). x.formula) y.2 ∙ sym (ap (λ (x : Lit). x.formula) n.2)) in
    let e : m ≡ opposite m = sym y.2 ∙ (ap (λ (k : ℕ). (at t k).lit) q ∙ n.2) in
    not_itself m.positive (ap (λ (x : Lit). x.positive) e)

-- what has a value has a place
pub no_place : (t : List Assigned) → Apart t → (f : Formula) → place_in t f ≡ None → (j : ℕ) → j < length t → (at t j).lit.formula ≡ f → ⊥
no_place t apart f e j l q = none-some j (sym e ∙ there t j f apart l q)

-- ---- a longer trail
pub at_old : (t more : List Assigned) (i : ℕ) → i < length t → at (t ++ more) i ≡ at t i
at_old t more i l = get_or-append t more nothing i l

pub at_new : (t : List Assigned) (a : Assigned) → at (t ++ a ∷ []) (length t) ≡ a
at_new t a = get_or-append_seam t a [] nothing

pub before_old : (t more : List Assigned) (i : ℕ) → i ≤ length t → level_before (t ++ more) i ≡ level_before t i
before_old t more zero l = refl
before_old t more (suc i) l = ap (λ (x : Assigned). x.level) (at_old t more i (omega (arith, l)))
