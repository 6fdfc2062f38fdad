-- Sorts of the terms of well-sorted formulas, and of constructors.
use Rattle.std.specs.Prelude.{ℕ, true, List, [], ◌≡◌, ◌⊎◌, map, slice_get, Option, Some, None}
use Rattle.std.specs.List.{AllByRecursion}
use Rattle.std.proofs.Common.{refl, sym, ap, ◌∙◌, inl, inr}
use Rattle.std.proofs.lemmas.Option.{none-some}
use Rattle.ae_base.specs.Options.{all_known, known, ◌>>=◌}
use Rattle.ae_base.proofs.Options.{known_some, each_known}
use Rattle.ae_base.proofs.Tests.{false_true}
use Rattle.ae_core.specs.Putting.{put_sort}
use Rattle.ae_core.specs.Signatures.{IsLawful, IsLawfulNature, IsEnumerated}
use Rattle.ae_core.specs.Sorts.{sort_of, formula_ok, predicate_ok, is_closed_sort}
use Rattle.ae_core.specs.declared.formulas.Formula.{Eq, Pred}
use Rattle.ae_core.specs.declared.problems.Signature.{Signature}
use Rattle.ae_core.specs.declared.problems.SymbolEntry.{SymbolEntry}
use Rattle.ae_core.specs.declared.problems.Nature.TheVariants.{Choice}
use Rattle.ae_core.specs.declared.terms.Head.{Head}
use Rattle.ae_core.specs.declared.terms.Head.TheVariants as head
use Rattle.ae_core.specs.declared.terms.Sort.{Sort, Named, Bool as BoolSort, Unit as UnitSort}
use Rattle.ae_core.specs.declared.terms.Term.{Term, Term-F, Apply, out-Term}
use Rattle.ae_core.specs.declared.terms.Term.TheOpen as layer
use Rattle.ae_core.specs.declared.terms.Term.TheVariants.{outs-Apply}
use Rattle.ae_core.proofs.SortLaws.{formula_in_eq, formula_in_pred}
use Rattle.ae_core.proofs.SortFacts.{same_known_is}
use Rattle.ae_rules.specs.Derivations.{IsConstructor}
use Rattle.ae_journal.specs.Evaluation.{result_sort}
use Rattle.ae_journal.specs.Systems.{IsPredicateName}
use Rattle.ae_evaluation.proofs.SortFacts.{no_result, is_applied, result_is}
use Rattle.ae_name_lines.specs.Closed.{AreClosed}
use Rattle.ae_settled.proofs.Sorts.{predicate_apart}

abbrev pub IsSorted : Signature → Term → Type 0
IsSorted sig t = (s : Sort) × (sort_of sig t ≡ Some s)

pub sorted_known : (sig : Signature) (t : Term) → IsSorted sig t → known (sort_of sig t) ≡ true
sorted_known sig t h = ap known h.1

module _ (sig : Signature) where
  -- the sides of an equation have one sort
  pub sides_sorted : (a b : Term) → formula_ok sig (Eq a b) ≡ true → (s : Sort) × (sort_of sig a ≡ Some s) × (sort_of sig b ≡ Some s)
  sides_sorted a b h =
      let z = same_known_is (sort_of sig a) (sort_of sig b) (sym (formula_in_eq sig (is_closed_sort sig) [] a b) ∙ h) in
      let k = known_some (sort_of sig a) z.0 in
      (k.0, k.1, sym z.1 ∙ k.1)

  -- so have the arguments of a predicate
  known_by : (q : ℕ) (ss : List Sort) (m : Option (List Sort)) → predicate_ok sig (is_closed_sort sig) q ss m ≡ true → (args : List Sort) × (m ≡ Some args)
  known_by q ss None h = false_true h
  known_by q ss (Some args) h = (args, refl)

  pub arguments_sorted : (q : ℕ) (ss : List Sort) (us : List Term) → formula_ok sig (Pred q ss us) ≡ true → AllByRecursion (IsSorted sig) us
  arguments_sorted q ss us h =
      let k = known_by q ss (all_known (map (sort_of sig) us)) (sym (formula_in_pred sig (is_closed_sort sig) [] q ss us) ∙ h) in
      each_known (sort_of sig) us k.0 k.1

  predicate_formula : (q : ℕ) (ss : List Sort) (us : List Term) → IsPredicateName sig (Apply (head.Symbol q) ss us) → formula_ok sig (Pred q ss us) ≡ true
  predicate_formula q ss us p =
      let e : ◌≡◌ {A = Term-F Term} (layer.Apply (head.Symbol q) ss us) (layer.Apply (head.Symbol p.0) p.1 p.2) = sym (outs-Apply (head.Symbol q) ss us) ∙ ap out-Term p.3 ∙ outs-Apply (head.Symbol p.0) p.1 p.2 in
      let a : q ≡ p.0 = cc e in
      let b : ss ≡ p.1 = cc e in
      let d : us ≡ p.2 = cc e in
      (λ i. formula_ok sig (Pred (a i) (b i) (d i))) ∙ p.4

  -- a constructor has a result
  choice_result : (e : SymbolEntry) (of place : ℕ) → e.nature ≡ Choice of place → IsLawfulNature sig e → e.result ≡ Some (Named of [])
  choice_result e of place is lawful =
      let parts : (e.vars ≡ 0) × (e.args ≡ []) × (e.result ≡ Some (Named of [])) × IsEnumerated sig of = rw is at lawful in
      parts.2

  module _ (ts : List Term) (closed : AreClosed sig ts) where
    -- what a predicate holds of, another application of it can hold of
    pub predicate_again : (q : ℕ) (ss : List Sort) (us vs : List Term) → formula_ok sig (Pred q ss us) ≡ true → (n : ℕ) → slice_get ts n ≡ Some (Apply (head.Symbol q) ss vs) → formula_ok sig (Pred q ss vs) ≡ true
    predicate_again q ss us vs ok n at = by_sort (closed.sorted n (Apply (head.Symbol q) ss vs) at)
      where
        by_sort : IsSorted sig (Apply (head.Symbol q) ss vs) ⊎ IsPredicateName sig (Apply (head.Symbol q) ss vs) → formula_ok sig (Pred q ss vs) ≡ true
        by_sort (inl x) =
            let a = is_applied sig (head.Symbol q) ss vs x.0 x.1 in
            absurd (none-some x.0 (sym (no_result sig q ss us ok ss) ∙ result_is sig (head.Symbol q) ss a.args x.0 a.headed))
        by_sort (inr p) = predicate_formula q ss vs p

    -- ---- constructors
    result_of : IsLawful sig → (h : Head) → IsConstructor sig h → (s : Sort) × (result_sort sig h [] ≡ Some s)
    result_of lawful (head.Symbol n) c =
        let r = choice_result c.0 c.1 c.2 c.4 (lawful.symbols n c.0 c.3).2 in
        (put_sort [] (Named c.1 []), ap (λ (o : Option SymbolEntry). o >>= λ e. e.result >>= λ s. Some (put_sort [] s)) c.3 ∙ ap (λ (o : Option Sort). o >>= λ s. Some (put_sort [] s)) r)
    result_of lawful head.True c = (BoolSort, refl)
    result_of lawful head.False c = (BoolSort, refl)
    result_of lawful head.Void c = (UnitSort, refl)
    result_of lawful (head.Build n) c = absurd c
    result_of lawful (head.Field n k) c = absurd c
    result_of lawful (head.Int p) c = absurd c
    result_of lawful (head.Real p) c = absurd c

    pub constructor_sorted : IsLawful sig → (n : ℕ) (h : Head) → slice_get ts n ≡ Some (Apply h [] []) → IsConstructor sig h → IsSorted sig (Apply h [] [])
    constructor_sorted lawful n h at c = by_sort (closed.sorted n (Apply h [] []) at)
      where
        by_sort : IsSorted sig (Apply h [] []) ⊎ IsPredicateName sig (Apply h [] []) → IsSorted sig (Apply h [] [])
        by_sort (inl x) = x
        by_sort (inr p) = let r = result_of lawful h c in absurd (predicate_apart sig h [] [] r.0 p r.1)
