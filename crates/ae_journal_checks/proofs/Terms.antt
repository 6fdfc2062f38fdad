-- The terms of the example: their sorts, their leaves and their values before the first line.
use Rattle.std.proofs.Common.{◌≡◌, ◌≢◌, ℕ, zero, suc, ◌+◌, List, [], ◌∷◌, length, slice_get, true, false, cond, ◌||◌, Option, Some, None, refl, sym, ◌∙◌, ap, subst, arith}
use Rattle.std.proofs.lemmas.Option.{same_Some}
use Rattle.ae_base.specs.Options.{or_else, only, all_known, ◌>>=◌}
use Rattle.ae_base.specs.Decided.{decided}
use Rattle.ae_base.proofs.Decided.{decided_of, decided_not, pick_yes, pick_no}
use Rattle.ae_core.specs.Decided.{Sort_discrete, Sorts_discrete, Term_discrete}
use Rattle.ae_core.specs.Putting.{put_sort}
use Rattle.ae_core.specs.Sorts.{sort_of, is_closed_sort, is_numeric, same_sorts, symbol_sort, head_sort}
use Rattle.ae_core.proofs.SortLaws.{sort_in_apply}
use Rattle.ae_core.proofs.PuttingLaws.{put_named}
use Rattle.ae_core.proofs.Recursion.{para_apply}
use Rattle.ae_core.specs.declared.terms.Sort.{Sort, Int, Real, Bool as BoolSort, out-Sort}
use Rattle.ae_core.specs.declared.terms.Sort.TheOpen as sort_layer
use Rattle.ae_core.specs.declared.terms.Sort.TheVariants.{outs-Named, outs-Int, outs-Real}
use Rattle.ae_core.specs.declared.terms.Term.{Term, Apply, out-Term}
use Rattle.ae_core.specs.declared.terms.Term.TheOpen as layer
use Rattle.ae_core.specs.declared.terms.Term.TheVariants.{outs-Apply}
use Rattle.ae_core.specs.declared.terms.Head.{Head}
use Rattle.ae_core.specs.declared.terms.Head.TheVariants as head
use Rattle.ae_journal.specs.Values.{Val, leaf, fields, once}
use Rattle.ae_journal.specs.Systems.{own, record_fields, fields_of, field_terms}
use Rattle.ae_journal.specs.Evaluation.{depth_of}
use Rattle.ae_journal.specs.TermValues.{leaf_of, number_from, opaque, opaque_at, each_field, solved, value_by, value_step, IsLeast}
use Rattle.ae_journal.specs.Inner.Numbering.{term_number}
use Rattle.ae_journal.specs.declared.lines.Line.{Line}
use Rattle.ae_journal_checks.specs.Examples.{T, signature, constant_entry, constant, u, names}

abbrev pub a : Term
a = constant 0

abbrev pub b : Term
b = constant 1

abbrev pub ab : Term
ab = u a b

abbrev pub d : Term
d = constant 3

abbrev pub ad : Term
ad = u a d

abbrev pub c : Term
c = constant 2

-- ---- sorts
put_T : put_sort [] T ≡ T
unfolding T
put_T = put_named [] 0 []

yes_sorts : (ss : List Sort) → same_sorts ss ss ≡ true
yes_sorts ss = decided_of (Sorts_discrete ss ss) refl

entry_sort : (n : ℕ) → symbol_sort [] [] (constant_entry n) ≡ Some T
entry_sort n = ap (λ b. only b (Some T) >>= λ s. Some (put_sort [] s)) (yes_sorts []) ∙ ap (λ s. Some s) put_T

pub sort_a : sort_of signature a ≡ Some T
unfolding constant
sort_a = sort_in_apply signature (is_closed_sort signature) [] (head.Symbol 0) [] [] ∙ entry_sort 97

pub sort_b : sort_of signature b ≡ Some T
unfolding constant
sort_b = sort_in_apply signature (is_closed_sort signature) [] (head.Symbol 1) [] [] ∙ entry_sort 98

pub sort_c : sort_of signature c ≡ Some T
unfolding constant
sort_c = sort_in_apply signature (is_closed_sort signature) [] (head.Symbol 2) [] [] ∙ entry_sort 99

pub sort_d : sort_of signature d ≡ Some T
unfolding constant
sort_d = sort_in_apply signature (is_closed_sort signature) [] (head.Symbol 3) [] [] ∙ entry_sort 100

sort_u : (s t : Term) → sort_of signature s ≡ Some T → sort_of signature t ≡ Some T → sort_of signature (u s t) ≡ Some T
unfolding u
sort_u s t e f =
    sort_in_apply signature (is_closed_sort signature) [] (head.Symbol 5) [] (s ∷ t ∷ [])
    ∙ (λ i. all_known (e i ∷ f i ∷ []) >>= head_sort signature (head.Symbol 5) [])
    ∙ (λ i. only (same_sorts (T ∷ T ∷ []) (put_T i ∷ put_T i ∷ [])) (Some T) >>= λ s. Some (put_sort [] s))
    ∙ ap (λ c. only c (Some T) >>= λ s. Some (put_sort [] s)) (yes_sorts (T ∷ T ∷ [])) ∙ ap (λ (s : Sort). Some s) put_T

pub sort_ab : sort_of signature ab ≡ Some T
sort_ab = sort_u a b sort_a sort_b

pub sort_ad : sort_of signature ad ≡ Some T
sort_ad = sort_u a d sort_a sort_d

outs_T : out-Sort T ≡ sort_layer.Named 0 []
unfolding T
outs_T = outs-Named 0 []

no_fields : record_fields signature T ≡ None
no_fields = ap (fields_of signature) outs_T

not_int : T ≢ Int
not_int e = let z : sort_layer.Named 0 [] ≡ sort_layer.Int = sym outs_T ∙ ap out-Sort e ∙ outs-Int in cc

not_real : T ≢ Real
not_real e = let z : sort_layer.Named 0 [] ≡ sort_layer.Real = sym outs_T ∙ ap out-Sort e ∙ outs-Real in cc

not_numeric : is_numeric T ≡ false
not_numeric = ap (λ c. c || decided (Sort_discrete T Real)) (decided_not (Sort_discrete T Int) not_int) ∙ decided_not (Sort_discrete T Real) not_real

-- ---- the terms are different
same_layers : (h i : Head) (ss ts : List Sort) (us vs : List Term) → Apply h ss us ≡ Apply i ts vs → layer.Apply h ss us ≡ layer.Apply i ts vs
same_layers h i ss ts us vs e = sym (outs-Apply h ss us) ∙ ap out-Term e ∙ outs-Apply i ts vs

apart : (m n : ℕ) → m ≢ n → constant m ≢ constant n
unfolding constant
apart m n k e = let z = same_layers (head.Symbol m) (head.Symbol n) [] [] [] [] e in k cc

no_join : (m : ℕ) (s t : Term) → constant m ≢ u s t
unfolding constant u
no_join m s t e = let z = same_layers (head.Symbol m) (head.Symbol 5) [] [] [] (s ∷ t ∷ []) e in cc

joins_apart : (s t v : Term) → t ≢ v → u s t ≢ u s v
unfolding u
joins_apart s t v k e = let z = same_layers (head.Symbol 5) (head.Symbol 5) [] [] (s ∷ t ∷ []) (s ∷ v ∷ []) e in k cc

-- ---- leaves
found : (t : Term) (n : ℕ) → number_from 0 names t ≡ Some n → leaf_of names t ≡ n
found t n e = ap (λ o. or_else o (length names + term_number t)) e

here : (n : ℕ) (t : Term) (us : List Term) → number_from n (t ∷ us) t ≡ Some n
here n t us = pick_yes (Term_discrete t t) (Some n) (number_from (suc n) us t) refl

later : (n k : ℕ) (v : Term) (us : List Term) (t : Term) → v ≢ t → number_from (suc n) us t ≡ Some k → number_from n (v ∷ us) t ≡ Some k
later n k v us t d e = pick_no (Term_discrete v t) (Some n) (number_from (suc n) us t) d ∙ e

turned : {s t : Term} → s ≢ t → t ≢ s
turned k e = k (sym e)

-- the ends of the list
abbrev from_b : List Term
from_b = b ∷ ab ∷ d ∷ ad ∷ c ∷ []

abbrev from_ab : List Term
from_ab = ab ∷ d ∷ ad ∷ c ∷ []

abbrev from_d : List Term
from_d = d ∷ ad ∷ c ∷ []

abbrev from_ad : List Term
from_ad = ad ∷ c ∷ []

leaf_a : leaf_of names a ≡ 0
leaf_a = found a 0 (here 0 a from_b)

leaf_b : leaf_of names b ≡ 1
leaf_b = found b 1 (later 0 1 a from_b b (apart 0 1 (λ e. omega (arith, e))) (here 1 b from_ab))

leaf_ab : leaf_of names ab ≡ 2
leaf_ab = found ab 2 (later 0 2 a from_b ab (no_join 0 a b) (later 1 2 b from_ab ab (no_join 1 a b) (here 2 ab from_d)))

leaf_d : leaf_of names d ≡ 3
leaf_d =
    found d 3 (later 0 3 a from_b d (apart 0 3 (λ e. omega (arith, e))) (later 1 3 b from_ab d (apart 1 3 (λ e. omega (arith, e))) (later 2 3 ab from_d d (turned (no_join 3 a b)) (here 3 d from_ad))))

leaf_ad : leaf_of names ad ≡ 4
leaf_ad =
    found ad 4
    (later 0 4 a from_b ad (no_join 0 a d) (later 1 4 b from_ab ad (no_join 1 a d) (later 2 4 ab from_d ad (joins_apart a b d (apart 1 3 (λ e. omega (arith, e)))) (later 3 4 d from_ad ad (no_join 3 a d) (here 4 ad (c ∷ []))))))

leaf_c : leaf_of names c ≡ 5
leaf_c =
    found c 5
    (later 0 5 a from_b c (apart 0 2 (λ e. omega (arith, e))) (later 1 5 b from_ab c (apart 1 2 (λ e. omega (arith, e))) (later 2 5 ab from_d c (turned (no_join 2 a b))
    (later 3 5 d from_ad c (apart 3 2 (λ e. omega (arith, e))) (later 4 5 ad (c ∷ []) c (turned (no_join 2 a d)) (here 5 c []))))))

-- ---- values
flat : (js : List Line) (d : ℕ) (t : Term) → opaque_at signature names js d T t ≡ solved js (own T (leaf_of names t))
flat js zero t = refl
flat js (suc d) t =
    ap (λ o. elim o as (λ _. Val) [ None ↦ solved js (own T (leaf_of names t)) | Some ss ↦ fields (each_field signature names (opaque_at signature names js d) ss (field_terms T t (length ss))) ]) no_fields

module _ (js : List Line) (still : (w : Val) → solved js w ≡ w) where
  opaque_value : (t : Term) (n : ℕ) → sort_of signature t ≡ Some T → leaf_of names t ≡ n → opaque signature names js t ≡ leaf n
  opaque_value t n e l =
      ap (λ o. opaque_at signature names js (depth_of signature (or_else o BoolSort)) (or_else o BoolSort) t) e ∙ flat js (depth_of signature T) t
      ∙ still (own T (leaf_of names t)) ∙ ap (own T) l ∙ ap (λ c. cond c (once n) (leaf n)) not_numeric

  constant_value : (m n : ℕ) → sort_of signature (constant m) ≡ Some T → leaf_of names (constant m) ≡ n → value_by signature names js (constant m) ≡ leaf n
  unfolding value_by constant
  constant_value m n e l = para_apply Val (value_step signature names js) (head.Symbol m) [] [] ∙ opaque_value (constant m) n e l

  join_value : (s t : Term) (n : ℕ) → sort_of signature (u s t) ≡ Some T → leaf_of names (u s t) ≡ n → value_by signature names js (u s t) ≡ leaf n
  unfolding value_by u
  join_value s t n e l = para_apply Val (value_step signature names js) (head.Symbol 5) [] (s ∷ t ∷ []) ∙ opaque_value (u s t) n e l

-- ---- each name of the list
none_beyond : {P : Type 0} (n : ℕ) (t : Term) → ◌≡◌ {A = Option Term} (slice_get [] n) (Some t) → P
none_beyond n t e = cc

pub each_name : (P : ℕ → Term → Type 0) → P 0 a → P 1 b → P 2 ab → P 3 d → P 4 ad → P 5 c → (n : ℕ) (t : Term) → slice_get names n ≡ Some t → P n t
each_name P p q r v w z zero t e = subst (P 0) (same_Some a t e) p
each_name P p q r v w z (suc zero) t e = subst (P 1) (same_Some b t e) q
each_name P p q r v w z (suc (suc zero)) t e = subst (P 2) (same_Some ab t e) r
each_name P p q r v w z (suc (suc (suc zero))) t e = subst (P 3) (same_Some d t e) v
each_name P p q r v w z (suc (suc (suc (suc zero)))) t e = subst (P 4) (same_Some ad t e) w
each_name P p q r v w z (suc (suc (suc (suc (suc zero))))) t e = subst (P 5) (same_Some c t e) z
each_name P p q r v w z (suc (suc (suc (suc (suc (suc n)))))) t e = none_beyond n t e

pub name_value : (js : List Line) → ((w : Val) → solved js w ≡ w) → (n : ℕ) (t : Term) → slice_get names n ≡ Some t → value_by signature names js t ≡ leaf n
name_value js still =
    each_name (λ n t. value_by signature names js t ≡ leaf n) (constant_value js still 0 0 sort_a leaf_a) (constant_value js still 1 1 sort_b leaf_b) (join_value js still a b 2 sort_ab leaf_ab)
    (constant_value js still 3 3 sort_d leaf_d) (join_value js still a d 4 sort_ad leaf_ad) (constant_value js still 2 5 sort_c leaf_c)

name_sort : (n : ℕ) (t : Term) → slice_get names n ≡ Some t → sort_of signature t ≡ Some T
name_sort = each_name (λ n t. sort_of signature t ≡ Some T) sort_a sort_b sort_ab sort_d sort_ad sort_c

pub same_leaf : (m n : ℕ) → leaf m ≡ leaf n → m ≡ n
same_leaf m n e = cc

pub names_apart : (m n : ℕ) (t : Term) → slice_get names m ≡ Some t → slice_get names n ≡ Some t → m ≡ n
names_apart m n t e f = same_leaf m n (sym (name_value [] (λ w. refl) m t e) ∙ name_value [] (λ w. refl) n t f)

-- each name represents itself as long as no name is solved
pub own_representative : (js : List Line) → ((w : Val) → solved js w ≡ w) → (n : ℕ) (t : Term) → slice_get names n ≡ Some t → IsLeast signature names js n n
own_representative js still n t e = record {
  term = t;
  other = t;
  sort = T;
  is = e;
  stands = e;
  sorted = (name_sort n t e, name_sort n t e);
  same = refl;
  least = λ m v i s h. let k : m ≡ n = same_leaf m n (sym (name_value js still m v i) ∙ h ∙ name_value js still n t e) in omega (arith, k);
}
