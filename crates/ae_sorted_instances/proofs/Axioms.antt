-- The axioms of a lawful problem with closed sorts put for their type variables.
use Rattle.std.specs.Prelude.{ℕ, Bool, true, nat_eq, nat_lt, List, [], ◌∷◌, ◌≡◌, length, slice_get, Option, Some, None}
use Rattle.std.specs.List.{list_all}
use Rattle.std.proofs.Common.{sym, ap, ◌∙◌}
use Rattle.std.proofs.lemmas.Bool.{and_from, eqb-true}
use Rattle.ae_base.specs.Options.{only, ◌>>=◌}
use Rattle.ae_base.proofs.AllOf.{all_at}
use Rattle.ae_base.proofs.Options.{bind_some, never_some, only_some, when_some}
use Rattle.ae_core.specs.Putting.{instance}
use Rattle.ae_core.specs.Signatures.{is_sort_over, IsLawfulItem, IsLawfulProblem}
use Rattle.ae_core.specs.Sorts.{is_closed_sort, formula_in, formula_ok}
use Rattle.ae_core.specs.declared.formulas.Formula.{Formula}
use Rattle.ae_core.specs.declared.problems.Item.{Item}
use Rattle.ae_core.specs.declared.problems.Item.TheVariants.{Axiom, Goal as GoalItem}
use Rattle.ae_core.specs.declared.problems.Problem.{Problem}
use Rattle.ae_core.specs.declared.proofs.ClauseLine.TheVariants as clause_line
use Rattle.ae_core.specs.declared.terms.Sort.{Sort}
use Rattle.ae_rules.specs.Clauses.{yes_of}
use Rattle.ae_rules.specs.Derivations.{clause_of, conclusion, formula_stands}
use Rattle.ae_rules.specs.Instances.{axiom_with, hypothesis}
use Rattle.ae_sorted_instances.proofs.Instances.{formula_put}

module _ (p : Problem) (lawful : IsLawfulProblem p) (ss : List Sort) (closes : list_all (is_closed_sort p.signature) ss ≡ true) where
  axiom_sorted : (n : List ℕ) (v : ℕ) (f h : Formula) → IsLawfulItem p.signature (Axiom n v f) → axiom_with v f ss ≡ Some h → formula_ok p.signature h ≡ true
  axiom_sorted n v f h l e =
      let w = when_some (nat_eq (length ss) v) (instance ss f) h e in
      let o : formula_in p.signature (is_sort_over p.signature (length ss)) [] f ≡ true = ap (λ (k : ℕ). formula_in p.signature (is_sort_over p.signature k) [] f) (eqb-true (length ss) v w.0) ∙ l.0 in
      ap (formula_ok p.signature) (sym w.1) ∙ formula_put p.signature lawful.signature ss closes f [] o

  pub hypothesis_sorted : (g k : ℕ) (f : Formula) → hypothesis p g k ss ≡ Some f → formula_ok p.signature f ≡ true
  hypothesis_sorted g k f e =
      let b = bind_some (only (nat_lt k g) (slice_get p.items k)) (λ (i : Item). elim i [ Axiom n v f ↦ axiom_with v f ss | GoalItem n v f ↦ None ]) f e in
      let at = only_some (nat_lt k g) (slice_get p.items k) b.0 b.1 in
      by_item b.0 (all_at (IsLawfulItem p.signature) p.items k b.0 lawful.items at.1) b.2
    where
      by_item : (i : Item) → IsLawfulItem p.signature i → elim i [ Axiom n v f ↦ axiom_with v f ss | GoalItem n v f ↦ None ] ≡ Some f → formula_ok p.signature f ≡ true
      by_item (Axiom n v h) l e = axiom_sorted n v h f l e
      by_item (GoalItem n v h) l e = never_some f e

  pub hypothesis_stated : (g k : ℕ) (f : Formula) → hypothesis p g k ss ≡ Some f → conclusion p g (clause_line.Hyp k ss) ≡ Some (yes_of f ∷ [])
  hypothesis_stated g k f e =
      ap (λ (c : Bool). only c (clause_of p g (clause_line.Hyp k ss))) (and_from _ _ closes (ap (formula_stands p.signature) e ∙ hypothesis_sorted g k f e))
      ∙ ap (λ (o : Option Formula). o >>= λ f. Some (yes_of f ∷ [])) e
