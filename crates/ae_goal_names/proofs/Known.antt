-- The terms of a well-sorted formula may have names.
use Rattle.std.specs.Prelude.{ℕ, true, List, [], ◌≡◌, Option}
use Rattle.std.proofs.Common.{sym, ap, ◌∙◌}
use Rattle.std.proofs.lemmas.Bool.{or_left, or_right}
use Rattle.ae_base.specs.Options.{known}
use Rattle.ae_core.specs.Sorts.{sort_of, is_closed_sort, formula_ok, same_known, applied_ok}
use Rattle.ae_core.specs.declared.terms.Sort.{Sort}
use Rattle.ae_core.specs.declared.terms.Term.{Term, Apply, out-Term}
use Rattle.ae_core.specs.declared.terms.Term.TheVariants.{outs-Apply}
use Rattle.ae_core.specs.declared.terms.Head.TheVariants as head
use Rattle.ae_core.specs.declared.formulas.Formula.{Eq, Lt, Le, Pred}
use Rattle.ae_core.specs.declared.problems.Signature.{Signature}
use Rattle.ae_core.proofs.SortLaws.{formula_in_eq, formula_in_lt, formula_in_le, formula_in_pred}
use Rattle.ae_core.proofs.SortFacts.{same_known_is, numeric_known}
use Rattle.ae_store.specs.Names.{enterable}

module _ (sig : Signature) where
  both_known : (a b : Term) → same_known (sort_of sig a) (sort_of sig b) ≡ true → (enterable sig a ≡ true) × (enterable sig b ≡ true)
  both_known a b e =
      let k = same_known_is (sort_of sig a) (sort_of sig b) e in (
        or_left (known (sort_of sig a)) (applied_ok sig (is_closed_sort sig) [] (out-Term a)) k.0,
        or_left (known (sort_of sig b)) (applied_ok sig (is_closed_sort sig) [] (out-Term b)) (ap (λ (o : Option Sort). known o) (sym k.1) ∙ k.0),
      )

  pub eq_known : (a b : Term) → formula_ok sig (Eq a b) ≡ true → (enterable sig a ≡ true) × (enterable sig b ≡ true)
  eq_known a b e = both_known a b (sym (formula_in_eq sig (is_closed_sort sig) [] a b) ∙ e)

  pub lt_known : (a b : Term) → formula_ok sig (Lt a b) ≡ true → (enterable sig a ≡ true) × (enterable sig b ≡ true)
  lt_known a b e = both_known a b (numeric_known (sort_of sig a) (sort_of sig b) (sym (formula_in_lt sig (is_closed_sort sig) [] a b) ∙ e))

  pub le_known : (a b : Term) → formula_ok sig (Le a b) ≡ true → (enterable sig a ≡ true) × (enterable sig b ≡ true)
  le_known a b e = both_known a b (numeric_known (sort_of sig a) (sort_of sig b) (sym (formula_in_le sig (is_closed_sort sig) [] a b) ∙ e))

  pub pred_known : (n : ℕ) (ss : List Sort) (us : List Term) → formula_ok sig (Pred n ss us) ≡ true → enterable sig (Apply (head.Symbol n) ss us) ≡ true
  pred_known n ss us e =
      let a : applied_ok sig (is_closed_sort sig) [] (out-Term (Apply (head.Symbol n) ss us)) ≡ true =
      ap (applied_ok sig (is_closed_sort sig) []) (outs-Apply (head.Symbol n) ss us) ∙ sym (formula_in_pred sig (is_closed_sort sig) [] n ss us) ∙ e in
      or_right (known (sort_of sig (Apply (head.Symbol n) ss us))) (applied_ok sig (is_closed_sort sig) [] (out-Term (Apply (head.Symbol n) ss us))) a
