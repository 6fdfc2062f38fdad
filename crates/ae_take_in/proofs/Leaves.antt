-- The next name, where it is no number: its own leaf, or that of another name.
use Rattle.std.specs.Prelude.{ℕ, ℤ, ◌<◌, ◌≡◌, ◌≢◌, Bool, true, false, cond, List, length, map, slice_get, Some}
use Rattle.std.proofs.Common.{refl, sym, ap, ◌∙◌, subst, inl, inr}
use Rattle.ae_base.proofs.Tests.{true_false}
use Rattle.ae_math.specs.Forms.{Form}
use Rattle.ae_core.specs.Sorts.{sort_of, is_numeric}
use Rattle.ae_core.specs.declared.terms.Sort.{Sort, Int, Real}
use Rattle.ae_core.specs.declared.terms.Term.{Term, Num, Apply}
use Rattle.ae_core.specs.declared.terms.Head.{Head}
use Rattle.ae_core.specs.declared.problems.Signature.{Signature}
use Rattle.ae_settled.specs.Valued.{linear_form, with_forms}
use Rattle.ae_store.specs.declared.nodes.Node.{Node}
use Rattle.ae_store.specs.Shapes.{shapes}
use Rattle.ae_store.specs.Terms.{terms, named}
use Rattle.ae_store.specs.Stores.{IsStore}
use Rattle.ae_store.proofs.StoreLaws.{name_term}
use Rattle.ae_strips.specs.Stripping.{StripsTo}
use Rattle.ae_strips.proofs.FieldTerms.{within}
use Rattle.ae_strips.proofs.Totals.{sort_kept}
use Rattle.ae_value_table.specs.Table.{Contents, number_at, leaf_at}
use Rattle.ae_entering.specs.Firsts.{IsLeafAt, AreFirst, IsNext}
use Rattle.ae_entering.proofs.Sorting.{numeral_sorted, numeral_numeric, operation_sorted, operands_of}
use Rattle.ae_take_in.specs.Inner.Next.{AreBelow}
use Rattle.ae_take_in.proofs.Nexts.{one_end, field_predicate, other_field, other_whole, end_known, leaf_known}

module _ (sig : Signature) (nodes : List Node) (store : IsStore sig nodes) (n : ℕ) (inside : n < length nodes) (c : Contents) (below : AreBelow n c)
    (first : AreFirst sig (terms (shapes nodes)) n (number_at c) (leaf_at c)) (other : (s : Sort) → sort_of sig (named (terms (shapes nodes)) n) ≡ Some s → is_numeric s ≡ false) where
  abbrev ts : List Term
  ts = terms (shapes nodes)

  no_number : {P : Type 0} (s : Sort) → sort_of sig (named ts n) ≡ Some s → is_numeric s ≡ true → P
  no_number s o m = true_false (sym m ∙ other s o)

  no_numeral : {P : Type 0} (a b : ℤ) (r : Bool) → slice_get ts n ≡ Some (Num a b r) → P
  no_numeral a b r at = no_number (cond r Real Int) (ap (sort_of sig) (name_term ts n (Num a b r) at) ∙ numeral_sorted sig nodes store n a b r at) (numeral_numeric sig nodes store r)

  no_operation : {P : Type 0} (h : Head) (ss : List Sort) (us : List Term) (xs : List (Term × Form ℕ)) (g : Form ℕ) → slice_get ts n ≡ Some (Apply h ss us) → linear_form h xs ≡ Some g → P
  no_operation h ss us xs g at lin =
      let s = operation_sorted sig nodes store n h ss us at xs g lin in
      no_number s.0 (ap (sort_of sig) (name_term ts n (Apply h ss us) at) ∙ s.1) (operands_of sig h ss us s.0 s.1 xs g lin).numeric

  pub own_leaf_next : StripsTo ts n n → leaf_at c n ≡ n → IsNext sig ts n (number_at c) (leaf_at c) (number_at c n) (leaf_at c n)
  own_leaf_next st e = record {
    whole = λ w. (refl, refl);
    numbers = λ s o m. no_number s o m;
    leaves = λ s o m f. inr e;
    predicates = λ g. e;
    numerals = λ a b r at. no_numeral a b r at;
    operations = λ h ss args g w at lin. no_operation h ss (map (named ts) args) (with_forms (map (named ts) args) (map (number_at c) args)) g at lin;
    covered_numbers = λ k s st' d o m. no_number s o m;
    covered_leaves = λ k s st' d o m f. absurd (d (one_end sig nodes store n inside k n st' st));
  }

  pub covered_leaf_next : (k : ℕ) → StripsTo ts n k → k ≢ n → (m : ℕ) → m ≡ leaf_at c k → IsNext sig ts n (number_at c) (leaf_at c) (number_at c n) m
  covered_leaf_next k st d m e = record {
    whole = λ w. absurd (other_whole sig nodes store n inside k st d w);
    numbers = λ s o z. no_number s o z;
    leaves = λ s o z f. inl (
        subst (IsLeafAt sig ts n (leaf_at c) s) (sym e)
        (leaf_known sig nodes store n inside c below first k s (within sig nodes store n k st) (end_known sig nodes store n inside k st d) (sym (sort_kept sig nodes store n k st) ∙ o) z f));
    predicates = λ g. absurd (field_predicate sig nodes store n inside (other_field sig nodes store n inside k st d) g);
    numerals = λ a b r at. no_numeral a b r at;
    operations = λ h ss args g w at lin. no_operation h ss (map (named ts) args) (with_forms (map (named ts) args) (map (number_at c) args)) g at lin;
    covered_numbers = λ j s st' d' o z. no_number s o z;
    covered_leaves = λ j s st' d' o z f. e ∙ ap (leaf_at c) (one_end sig nodes store n inside k j st st');
  }
