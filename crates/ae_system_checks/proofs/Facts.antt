-- The sorts of the examples' terms, and what tells terms apart.
use Rattle.std.specs.Prelude.{ℕ, pos, ◌≡◌, ◌≢◌, true, false, ◌||◌, List, [], ◌∷◌, Some, None}
use Rattle.std.proofs.lemmas.Option.{same_Some}
use mathlib.Core.Path.{sym, ap, ◌∙◌}
use Rattle.ae_base.specs.Decided.{decided}
use Rattle.ae_base.proofs.Decided.{decided_not}
use Rattle.ae_base.specs.Options.{all_known, only, when, ◌>>=◌}
use Rattle.ae_base.proofs.Options.{never_some}
use Rattle.ae_core.specs.Decided.{Sort_discrete}
use Rattle.ae_core.specs.Putting.{put_sort}
use Rattle.ae_core.specs.Sorts.{sort_of, head_sort, is_numeric, is_closed_sort, same_sorts}
use Rattle.ae_core.specs.declared.problems.Signature.{Signature}
use Rattle.ae_core.specs.declared.terms.Head.{Head}
use Rattle.ae_core.specs.declared.terms.Head.TheVariants as head
use Rattle.ae_core.specs.declared.terms.Sort.{Sort, Int, Real, Named, out-Sort}
use Rattle.ae_core.specs.declared.terms.Sort.TheOpen as sort_layer
use Rattle.ae_core.specs.declared.terms.Sort.TheVariants.{outs-Named, outs-Int, outs-Real}
use Rattle.ae_core.specs.declared.terms.Term.{Term, Term-F, Apply, out-Term}
use Rattle.ae_core.specs.declared.terms.Term.TheOpen as layer
use Rattle.ae_core.specs.declared.terms.Term.TheVariants.{outs-Apply}
use Rattle.ae_core.proofs.PuttingLaws.{put_named}
use Rattle.ae_core.proofs.SortLaws.{sort_in_num}
use Rattle.ae_journal.specs.Systems.{IsPredicateName, fields_of, record_fields}
use Rattle.ae_evaluation.proofs.Decisions.{yes_sorts}
use Rattle.ae_evaluation.proofs.Plainness.{sort-Apply}
use Rattle.ae_evaluation.proofs.SortFacts.{is_applied, no_result, result_is}
use Rattle.ae_system_checks.specs.Examples.{signature, T, a, b, f, u, one, built, field}

abbrev pub R : Sort
R = Named 1 []

-- ---- sorts
pub put_T : put_sort [] T ≡ T
put_T = put_named [] 0 []

pub T_fields : record_fields signature T ≡ None
T_fields = ap (fields_of signature) (outs-Named 0 [])

pub R_fields : record_fields signature R ≡ Some (T ∷ [])
R_fields = ap (fields_of signature) (outs-Named 1 []) ∙ ap (λ (s : Sort). Some (s ∷ [])) put_T

pub real_fields : record_fields signature Real ≡ None
real_fields = ap (fields_of signature) outs-Real

pub not_numeric : is_numeric T ≡ false
not_numeric =
    ap (λ c. c || decided (Sort_discrete T Real)) (decided_not (Sort_discrete T Int) not_int) ∙ decided_not (Sort_discrete T Real) not_real
  where
    not_int : T ≢ Int
    not_int e = let z : sort_layer.Named 0 [] ≡ sort_layer.Int = sym (outs-Named 0 []) ∙ ap out-Sort e ∙ outs-Int in cc

    not_real : T ≢ Real
    not_real e = let z : sort_layer.Named 0 [] ≡ sort_layer.Real = sym (outs-Named 0 []) ∙ ap out-Sort e ∙ outs-Real in cc

-- ---- the terms
pub constant_sort : (n : ℕ) → head_sort signature (head.Symbol n) [] [] ≡ Some T → sort_of signature (Apply (head.Symbol n) [] []) ≡ Some T
constant_sort n e = sort-Apply signature (head.Symbol n) [] [] ∙ e

pub constant_result : (only (same_sorts [] []) (Some T) >>= λ s. Some (put_sort [] s)) ≡ Some T
constant_result = ap (λ c. only c (Some T) >>= λ s. Some (put_sort [] s)) (yes_sorts []) ∙ ap (λ (s : Sort). Some s) put_T

pub a_sort : sort_of signature a ≡ Some T
a_sort = sort-Apply signature (head.Symbol 0) [] [] ∙ constant_result

pub b_sort : sort_of signature b ≡ Some T
b_sort = sort-Apply signature (head.Symbol 1) [] [] ∙ constant_result

pub f_sort : (t : Term) → sort_of signature t ≡ Some T → sort_of signature (f t) ≡ Some T
f_sort t e =
    sort-Apply signature (head.Symbol 2) [] (t ∷ []) ∙ (λ i. all_known (e i ∷ []) >>= head_sort signature (head.Symbol 2) [])
    ∙ (λ i. only (same_sorts (T ∷ []) (put_T i ∷ [])) (Some T) >>= λ s. Some (put_sort [] s))
    ∙ ap (λ c. only c (Some T) >>= λ s. Some (put_sort [] s)) (yes_sorts (T ∷ [])) ∙ ap (λ (s : Sort). Some s) put_T

pub u_sort : (s t : Term) → sort_of signature s ≡ Some T → sort_of signature t ≡ Some T → sort_of signature (u s t) ≡ Some T
u_sort s t d e =
    sort-Apply signature (head.Symbol 3) [] (s ∷ t ∷ []) ∙ (λ i. all_known (d i ∷ e i ∷ []) >>= head_sort signature (head.Symbol 3) [])
    ∙ (λ i. only (same_sorts (T ∷ T ∷ []) (put_T i ∷ put_T i ∷ [])) (Some T) >>= λ s. Some (put_sort [] s))
    ∙ ap (λ c. only c (Some T) >>= λ s. Some (put_sort [] s)) (yes_sorts (T ∷ T ∷ [])) ∙ ap (λ (s : Sort). Some s) put_T

pub one_sort : sort_of signature one ≡ Some Real
one_sort = sort_in_num signature (is_closed_sort signature) [] (pos 1) (pos 1) true

pub built_sort : sort_of signature built ≡ Some R
built_sort =
    sort-Apply signature (head.Build 1) [] (a ∷ []) ∙ (λ i. all_known (a_sort i ∷ []) >>= head_sort signature (head.Build 1) [])
    ∙ (λ i. when (same_sorts (T ∷ []) (put_T i ∷ [])) R) ∙ ap (λ c. when c R) (yes_sorts (T ∷ []))

pub field_sort : sort_of signature field ≡ Some T
field_sort =
    sort-Apply signature (head.Field 1 0) [] (built ∷ []) ∙
    (λ i. all_known (built_sort i ∷ []) >>= head_sort signature (head.Field 1 0) [])
    ∙ ap (λ c. only c (Some (put_sort [] T))) (yes_sorts (R ∷ [])) ∙ ap (λ (s : Sort). Some s) put_T

-- a well-sorted term is no predicate's application
pub sorted_is_no_predicate : (sig : Signature) (t : Term) (s : Sort) → sort_of sig t ≡ Some s → IsPredicateName sig t → ⊥
sorted_is_no_predicate sig t s e (p, ss, us, d, ok) =
    let i = is_applied sig (head.Symbol p) ss us s (ap (sort_of sig) (sym d) ∙ e) in
    never_some s (sym (no_result sig p ss us ok ss) ∙ result_is sig (head.Symbol p) ss i.args s i.headed)

-- a term of a sort without fields is no record
pub no_record : (sig : Signature) (t : Term) (o s : Sort) (ss : List Sort) → record_fields sig o ≡ None → sort_of sig t ≡ Some o
    → sort_of sig t ≡ Some s → record_fields sig s ≡ Some ss → ⊥
no_record sig t o s ss n d e g = never_some ss (sym n ∙ ap (record_fields sig) (same_Some o s (sym d ∙ e)) ∙ g)

-- ---- applications
same_layer : (h i : Head) (ss ts : List Sort) (us vs : List Term) → Apply h ss us ≡ Apply i ts vs → layer.Apply h ss us ≡ layer.Apply i ts vs
same_layer h i ss ts us vs e = sym (outs-Apply h ss us) ∙ ap out-Term e ∙ outs-Apply i ts vs

pub same_head : (h i : Head) (ss ts : List Sort) (us vs : List Term) → Apply h ss us ≡ Apply i ts vs → h ≡ i
same_head h i ss ts us vs e = let z = same_layer h i ss ts us vs e in cc

pub same_args : (h i : Head) (ss ts : List Sort) (us vs : List Term) → Apply h ss us ≡ Apply i ts vs → us ≡ vs
same_args h i ss ts us vs e = let z = same_layer h i ss ts us vs e in cc

-- ---- the head and the arguments of an application
pub args_of : Term-F Term → List Term
args_of (layer.Apply h ss us) = us
args_of _ = []

pub args_are : (h : Head) (ss : List Sort) (us : List Term) → args_of (out-Term (Apply h ss us)) ≡ us
unfolding args_of
args_are h ss us = ap args_of (outs-Apply h ss us)

pub head_of : Term-F Term → Head
head_of (layer.Apply h ss us) = h
head_of _ = head.True

pub head_is : (h : Head) (ss : List Sort) (us : List Term) → head_of (out-Term (Apply h ss us)) ≡ h
unfolding head_of
head_is h ss us = ap head_of (outs-Apply h ss us)
