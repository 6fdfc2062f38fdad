-- The first literals of a trail.
use Rattle.std.proofs.Common.{◌≡◌, ℕ, ◌+◌, ◌<◌, ◌≤◌, List, length, take, drop, refl, sym, ◌∙◌, ap, subst, arith, Option, Some, None, length-take, length-drop, get_or-take, get_or-drop}
use Rattle.std.proofs.lemmas.List.{take-append-drop}
use Rattle.ae_rules.specs.Clauses.{Clause}
use Rattle.ae_core.specs.declared.formulas.Formula.{Formula}
use Rattle.ae_explain.specs.declared.trail.Assigned.{Assigned}
use Rattle.ae_explain.specs.Trail.{at, nothing, place_in, Apart, IsLawful}
use Rattle.ae_explain.proofs.Places.{found, rises}
use Rattle.ae_sat.specs.Layers.{IsCut}

pub at_take : (t : List Assigned) (n j : ℕ) → j < n → at (take n t) j ≡ at t j
at_take t n j l = get_or-take n t j nothing l

pub not_before : (t : List Assigned) → Apart t → (n : ℕ) (f : Formula) → n < length t → (at t n).lit.formula ≡ f → place_in (take n t) f ≡ None
not_before t apart n f l e = by_place (place_in (take n t) f) refl
  where
    by_place : (o : Option ℕ) → place_in (take n t) f ≡ o → place_in (take n t) f ≡ None
    by_place None q = q
    by_place (Some p) q =
        let r = found (take n t) f p q in
        let k : p < n = omega (arith, r.0, length-take n t) in
        absurd (apart p n k l (sym (ap (λ (a : Assigned). a.lit.formula) (at_take t n p k)) ∙ (r.1 ∙ sym e)))

pub is_cut : (t : List Assigned) (clauses : List Clause) → IsLawful t clauses → (level n : ℕ) → n ≤ length t → ((j : ℕ) → j < n → (at t j).level ≤ level) → (n < length t → level < (at t n).level) → IsCut t level (take n t)
is_cut t clauses lawful level n within kept next = record {
  undone = drop n t;
  is = sym (take-append-drop n t);
  kept = λ j l. let k : j < n = omega (arith, l, length-take n t) in subst (λ (a : Assigned). a.level ≤ level) (sym (at_take t n j k)) (kept j k);
  above = λ j l.
      let k : n + j < length t = omega (arith, l, length-drop n t) in
      let e : at (drop n t) j ≡ at t (n + j) = get_or-drop n t j nothing in
      let up : (at t n).level ≤ (at t (n + j)).level = rises t clauses lawful n (n + j) (omega arith) k in
      subst (λ (a : Assigned). level < a.level) (sym e) (omega (arith, up, next (omega (arith, k))));
}
