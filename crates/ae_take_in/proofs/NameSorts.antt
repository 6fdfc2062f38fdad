-- Whether a name is a number, by the sort of its node.
use Rattle.std.specs.Prelude.{ℕ, ◌≡◌, ◌↔◌, Bool, true, false, List, slice_get, Some, IsTrue}
use Rattle.std.proofs.Common.{refl, sym, ap, ◌∙◌, inl, inr}
use Rattle.std.proofs.lemmas.Option.{slice_get_within}
use Rattle.ae_base.proofs.Tests.{false_true, true_false}
use Rattle.ae_core.specs.Sorts.{sort_of, is_numeric}
use Rattle.ae_core.specs.declared.terms.Sort.{Sort, Real}
use Rattle.ae_core.specs.declared.terms.Term.{Term}
use Rattle.ae_core.specs.declared.problems.Signature.{Signature}
use Rattle.ae_evaluation.proofs.SortFacts.{numeric_is}
use Rattle.ae_store.specs.declared.nodes.Node.{Node}
use Rattle.ae_store.specs.Shapes.{shapes}
use Rattle.ae_store.specs.Terms.{terms, named, IsOfSort}
use Rattle.ae_store.specs.Stores.{IsStore}
use Rattle.ae_store.proofs.SortedLaws.{node_sorted}
use Rattle.ae_state_steps.specs.ValueSteps.{sort_for, IsNumberName}
use Rattle.ae_strips.proofs.FieldTerms.{name_there}
use Rattle.ae_strips.proofs.FieldSorts.{sort_of_node}
use Rattle.ae_patterns.proofs.PatternLaws.{plain_bool}

sort_is : (s : Sort) (b : Bool) → is_numeric s ≡ true → (IsTrue b ↔ (s ≡ Real)) → s ≡ sort_for b
sort_is s true m h = h.0 refl
sort_is s false m h = elim (numeric_is s m) [ inl e ↦ e | inr e ↦ false_true (h.1 e) ]

module _ (sig : Signature) (nodes : List Node) (store : IsStore sig nodes) (n : ℕ) (p : Node) (at : slice_get nodes n ≡ Some p) where
  abbrev ts : List Term
  ts = terms (shapes nodes)

  pub number_name : (b : Bool) → is_numeric p.sort ≡ true → (IsTrue b ↔ (p.sort ≡ Real)) → IsNumberName sig ts b n
  number_name b m h = by_sort (node_sorted sig nodes n p (named ts n) store.sound at (name_there sig nodes store n (slice_get_within nodes n p at)))
    where
      by_sort : IsOfSort sig (named ts n) p.sort → IsNumberName sig ts b n
      by_sort (inl o) = o ∙ ap (λ (s : Sort). Some s) (sort_is p.sort b m h)
      by_sort (inr o) = true_false (sym m ∙ (plain_bool sig p.sort o.1).numeric)

  pub no_number : is_numeric p.sort ≡ false → (s : Sort) → sort_of sig (named ts n) ≡ Some s → is_numeric s ≡ false
  no_number m s o = ap is_numeric (sym (sort_of_node sig nodes store n p s at o)) ∙ m
