-- The line of the order of two numbers states its clause.
use Rattle.std.specs.Prelude.{ℕ, Bool, true, not, ◌&&◌, [], ◌∷◌, ◌≡◌, Option, Some, None}
use Rattle.std.specs.List.{Contains}
use Rattle.std.proofs.Common.{refl, sym, ap, ◌∙◌, subst, inl, inr}
use Rattle.ae_base.proofs.AllOf.{all_append}
use Rattle.ae_base.proofs.Options.{when_some}
use Rattle.ae_base.proofs.Tests.{true_false}
use Rattle.ae_base.specs.Options.{known, only}
use Rattle.ae_between_rounds.specs.Fine.{IsFineFormula, IsFineLine}
use Rattle.ae_core.specs.Sorts.{sort_of, same_numeric}
use Rattle.ae_core.specs.declared.formulas.Formula.{Eq, Lt, out-Formula}
use Rattle.ae_core.specs.declared.formulas.Formula.TheVariants.{outs-Eq, outs-Lt}
use Rattle.ae_core.specs.declared.formulas.Lit.{Lit}
use Rattle.ae_core.specs.declared.problems.Problem.{Problem}
use Rattle.ae_core.specs.declared.problems.Signature.{Signature}
use Rattle.ae_core.specs.declared.proofs.ClauseLine.TheVariants.{Tri}
use Rattle.ae_core.specs.declared.terms.Sort.{Sort}
use Rattle.ae_core.specs.declared.terms.Term.{Term}
use Rattle.ae_journal.proofs.Splits.{contains_cases, contains_one}
use Rattle.ae_legal_texts.specs.Numbers.{term_numbers}
use Rattle.ae_legal_texts.specs.Writable.{is_negation}
use Rattle.ae_numerals_kept.proofs.Lowest.{order_lowest}
use Rattle.ae_numerals_kept.specs.Lowest.{IsLowestTerm}
use Rattle.ae_rules.specs.Clauses.{Clause, is_true}
use Rattle.ae_rules.specs.Derivations.{conclusion}
use Rattle.ae_rules.specs.Instances.{trichotomy}
use Rattle.ae_writable.specs.Numbers.{IsValueWithin}

abbrev pub order_of : Term → Term → Clause
order_of s t = is_true (Eq s t) ∷ is_true (Lt s t) ∷ is_true (Lt t s) ∷ []

known_both : (a b : Option Sort) → same_numeric a b ≡ true → (known a && known b) ≡ true
known_both (Some s) (Some t) e = refl
known_both (Some s) None e = true_false (sym e)
known_both None b e = true_false (sym e)

module _ (sig : Signature) (s t : Term) (c : Clause) (e : trichotomy sig s t ≡ Some c) where
  pub clause_is : order_of s t ≡ c
  clause_is = (when_some (same_numeric (sort_of sig s) (sort_of sig t)) (order_of s t) c e).1

  numeric : same_numeric (sort_of sig s) (sort_of sig t) ≡ true
  numeric = (when_some (same_numeric (sort_of sig s) (sort_of sig t)) (order_of s t) c e).0

  pub known_sides : (known (sort_of sig s) && known (sort_of sig t)) ≡ true
  known_sides = known_both (sort_of sig s) (sort_of sig t) numeric

  -- ---- no literal of it is a negation
  no_negation : (m : Lit) → Contains (order_of s t) m → not (is_negation (out-Formula m.formula)) ≡ true
  no_negation m i = elim (contains_cases (is_true (Eq s t)) (is_true (Lt s t) ∷ is_true (Lt t s) ∷ []) m i) [
    | inl a ↦ subst (λ (l : Lit). not (is_negation (out-Formula l.formula)) ≡ true) a (ap (λ z. not (is_negation z)) (outs-Eq s t))
    | inr h ↦ elim (contains_cases (is_true (Lt s t)) (is_true (Lt t s) ∷ []) m h) [
      | inl a ↦ subst (λ (l : Lit). not (is_negation (out-Formula l.formula)) ≡ true) a (ap (λ z. not (is_negation z)) (outs-Lt s t))
      | inr k ↦ subst (λ (l : Lit). not (is_negation (out-Formula l.formula)) ≡ true) (contains_one (is_true (Lt t s)) m k) (ap (λ z. not (is_negation z)) (outs-Lt t s))
    ]
  ]

  pub fine_order : IsLowestTerm s → IsLowestTerm t → (m : Lit) → Contains c m → IsFineFormula m.formula
  fine_order a b m i = (order_lowest sig s t a b c e m i, no_negation m (subst (λ (d : Clause). Contains d m) (sym clause_is) i))

pub order_concludes : (p : Problem) (g : ℕ) (s t : Term) (c : Clause) → trichotomy p.signature s t ≡ Some c → conclusion p g (Tri s t) ≡ Some c
order_concludes p g s t c e = ap (λ (b : Bool). only b (trichotomy p.signature s t)) (known_sides p.signature s t c e) ∙ e

pub fine_line : (s t : Term) → IsLowestTerm s → IsLowestTerm t → IsFineLine (Tri s t)
fine_line s t a b = (all_append IsValueWithin (term_numbers s) (term_numbers t) a b, refl)
