-- The terms of the journal with a line of every kind: their sorts, their leaves and their values.
use Rattle.std.proofs.Common.{◌≡◌, ◌≢◌, ℕ, zero, suc, ◌+◌, nat_eq, List, [], ◌∷◌, length, slice_get, Bool, true, false, cond, ◌&&◌, ◌||◌, Option, Some, None, refl, sym, ◌∙◌, ap, subst, arith}
use Rattle.std.proofs.lemmas.Option.{same_Some}
use Rattle.ae_base.specs.Options.{or_else, only, all_known, ◌>>=◌}
use Rattle.ae_base.specs.Decided.{decided}
use Rattle.ae_base.proofs.Decided.{decided_of, decided_not, pick_yes, pick_no}
use Rattle.ae_core.specs.Decided.{Sort_discrete, Sorts_discrete, Term_discrete}
use Rattle.ae_core.specs.Putting.{put_sort}
use Rattle.ae_core.specs.Sorts.{sort_of, sort_in, is_closed_sort, is_numeric, same_sorts, head_sort}
use Rattle.ae_core.proofs.SortLaws.{sort_in_apply, sort_in_num, sort_in_bound, ok_named}
use Rattle.ae_core.proofs.PuttingLaws.{put_named, put_real, put_var}
use Rattle.ae_core.proofs.Recursion.{para_apply, para_num}
use Rattle.ae_core.specs.declared.terms.Sort.{Sort, Int, Real, Bool as BoolSort, Var, out-Sort}
use Rattle.ae_core.specs.declared.terms.Sort.TheOpen as sort_layer
use Rattle.ae_core.specs.declared.terms.Sort.TheVariants.{outs-Named, outs-Int, outs-Real}
use Rattle.ae_core.specs.declared.terms.Term.{Term, Term-F, Bound, out-Term}
use Rattle.ae_core.specs.declared.terms.Term.TheOpen as layer
use Rattle.ae_core.specs.declared.terms.Term.TheVariants.{outs-Apply}
use Rattle.ae_core.specs.declared.terms.Head.TheVariants as head
use Rattle.ae_math.specs.Fractions.{ratio}
use Rattle.std.specs.Prelude.{pos}
use Rattle.ae_journal.specs.Values.{Val, leaf, fields, once, constant_val}
use Rattle.ae_journal.specs.Systems.{own, record_fields, fields_of, field_terms}
use Rattle.ae_journal.specs.Evaluation.{depth_of}
use Rattle.ae_journal.specs.TermValues.{leaf_of, number_from, opaque, opaque_at, each_field, solved, value_by, value_step}
use Rattle.ae_journal.specs.Inner.Numbering.{term_number}
use Rattle.ae_journal.specs.declared.lines.Line.{Line}
use Rattle.ae_evaluation.proofs.ExampleSystem.{own_real}
use Rattle.ae_journal_checks.specs.EveryKind.{T, signature, a, b, x, u, g, zero_numeral, names}

abbrev pub ga : Term
ga = g T a

abbrev pub ab : Term
ab = u a b

abbrev pub aga : Term
aga = u a ga

-- ---- sorts
pub put_T : (ss : List Sort) → put_sort ss T ≡ T
put_T ss = put_named ss 0 []

pub yes_sorts : (ss : List Sort) → same_sorts ss ss ≡ true
yes_sorts ss = decided_of (Sorts_discrete ss ss) refl

pub closed_T : is_closed_sort signature T ≡ true
closed_T = ok_named signature (λ i. false) (λ i. true) 0 []

abbrev pub may : Sort → Bool
may = is_closed_sort signature

constant_result : (s : Sort) → put_sort [] s ≡ s → (only (same_sorts [] []) (Some s) >>= λ s. Some (put_sort [] s)) ≡ Some s
constant_result s e = ap (λ c. only c (Some s) >>= λ s. Some (put_sort [] s)) (yes_sorts []) ∙ ap (λ (s : Sort). Some s) e

pub a_sort : sort_of signature a ≡ Some T
a_sort = sort_in_apply signature may [] (head.Symbol 0) [] [] ∙ constant_result T (put_T [])

pub b_sort : sort_of signature b ≡ Some T
b_sort = sort_in_apply signature may [] (head.Symbol 1) [] [] ∙ constant_result T (put_T [])

pub x_sort : sort_of signature x ≡ Some Real
x_sort = sort_in_apply signature may [] (head.Symbol 2) [] [] ∙ constant_result Real (put_real [])

pub u_sort : (s t : Term) → sort_of signature s ≡ Some T → sort_of signature t ≡ Some T → sort_of signature (u s t) ≡ Some T
u_sort s t d e =
    sort_in_apply signature may [] (head.Symbol 3) [] (s ∷ t ∷ []) ∙ (λ i. all_known (d i ∷ e i ∷ []) >>= head_sort signature (head.Symbol 3) [])
    ∙ (λ i. only (same_sorts (T ∷ T ∷ []) (put_T [] i ∷ put_T [] i ∷ [])) (Some T) >>= λ s. Some (put_sort [] s))
    ∙ ap (λ c. only c (Some T) >>= λ s. Some (put_sort [] s)) (yes_sorts (T ∷ T ∷ [])) ∙ ap (λ (s : Sort). Some s) (put_T [])

pub put_variable : put_sort (T ∷ []) (Var 0) ≡ T
put_variable = put_var (T ∷ []) 0

pub g_sort : (env : List Sort) (t : Term) → sort_in signature may env t ≡ Some T → sort_in signature may env (g T t) ≡ Some T
g_sort env t e =
    sort_in_apply signature may env (head.Symbol 4) (T ∷ []) (t ∷ [])
    ∙ (λ i. only (closed_T i && true) (all_known (e i ∷ [])) >>= head_sort signature (head.Symbol 4) (T ∷ []))
    ∙ (λ i. only (same_sorts (T ∷ []) (put_variable i ∷ [])) (Some (Var 0)) >>= λ s. Some (put_sort (T ∷ []) s))
    ∙ ap (λ c. only c (Some (Var 0)) >>= λ s. Some (put_sort (T ∷ []) s)) (yes_sorts (T ∷ [])) ∙ ap (λ (s : Sort). Some s) put_variable

pub bound_sort : sort_in signature may (T ∷ []) (Bound 0) ≡ Some T
bound_sort = sort_in_bound signature may (T ∷ []) 0

pub ga_sort : sort_of signature ga ≡ Some T
ga_sort = g_sort [] a a_sort

pub ab_sort : sort_of signature ab ≡ Some T
ab_sort = u_sort a b a_sort b_sort

pub aga_sort : sort_of signature aga ≡ Some T
aga_sort = u_sort a ga a_sort ga_sort

pub zero_sort : sort_of signature zero_numeral ≡ Some Real
zero_sort = sort_in_num signature may [] (pos 0) (pos 1) true

T_fields : record_fields signature T ≡ None
T_fields = ap (fields_of signature) (outs-Named 0 [])

real_fields : record_fields signature Real ≡ None
real_fields = ap (fields_of signature) outs-Real

not_numeric : is_numeric T ≡ false
not_numeric = ap (λ c. c || decided (Sort_discrete T Real)) (decided_not (Sort_discrete T Int) not_int) ∙ decided_not (Sort_discrete T Real) not_real
  where
    not_int : T ≢ Int
    not_int e = let z : sort_layer.Named 0 [] ≡ sort_layer.Int = sym (outs-Named 0 []) ∙ ap out-Sort e ∙ outs-Int in cc

    not_real : T ≢ Real
    not_real e = let z : sort_layer.Named 0 [] ≡ sort_layer.Real = sym (outs-Named 0 []) ∙ ap out-Sort e ∙ outs-Real in cc

own_T : (k : ℕ) → own T k ≡ leaf k
own_T k = ap (λ c. cond c (once k) (leaf k)) not_numeric

pub real_is_not_T : Real ≢ T
real_is_not_T e = let z : sort_layer.Real ≡ sort_layer.Named 0 [] = sym outs-Real ∙ ap out-Sort e ∙ outs-Named 0 [] in cc

-- ---- the place of each name, told by its head and by that of its last argument
abbrev kind_of : Term-F Term → ℕ
kind_of (layer.Apply (head.Symbol n) ss us) = n
kind_of _ = 9

abbrev join_spot : ℕ → ℕ
join_spot n = cond (nat_eq n 1) 2 4

abbrev spot_of : Term-F Term → ℕ
spot_of (layer.Apply (head.Symbol zero) ss us) = 0
spot_of (layer.Apply (head.Symbol (suc zero)) ss us) = 1
spot_of (layer.Apply (head.Symbol (suc (suc zero))) ss us) = 5
spot_of (layer.Apply (head.Symbol (suc (suc (suc zero)))) ss (s ∷ t ∷ us)) = join_spot (kind_of (out-Term t))
spot_of (layer.Apply (head.Symbol (suc (suc (suc (suc n))))) ss us) = 3
spot_of _ = 9

abbrev spot : Term → ℕ
spot t = spot_of (out-Term t)

none_beyond : {P : Type 0} (n : ℕ) (t : Term) → ◌≡◌ {A = Option Term} (slice_get [] n) (Some t) → P
none_beyond n t e = cc

pub each_name : (P : ℕ → Term → Type 0) → P 0 a → P 1 b → P 2 ab → P 3 ga → P 4 aga → P 5 x → (n : ℕ) (t : Term) → slice_get names n ≡ Some t → P n t
each_name P p q r v w z zero t e = subst (P 0) (same_Some a t e) p
each_name P p q r v w z (suc zero) t e = subst (P 1) (same_Some b t e) q
each_name P p q r v w z (suc (suc zero)) t e = subst (P 2) (same_Some ab t e) r
each_name P p q r v w z (suc (suc (suc zero))) t e = subst (P 3) (same_Some ga t e) v
each_name P p q r v w z (suc (suc (suc (suc zero)))) t e = subst (P 4) (same_Some aga t e) w
each_name P p q r v w z (suc (suc (suc (suc (suc zero))))) t e = subst (P 5) (same_Some x t e) z
each_name P p q r v w z (suc (suc (suc (suc (suc (suc n)))))) t e = none_beyond n t e

spots : (n : ℕ) (t : Term) → slice_get names n ≡ Some t → spot t ≡ n
spots =
    each_name (λ n t. spot t ≡ n) (ap spot_of (outs-Apply (head.Symbol 0) [] [])) (ap spot_of (outs-Apply (head.Symbol 1) [] []))
    (ap spot_of (outs-Apply (head.Symbol 3) [] (a ∷ b ∷ [])) ∙ ap (λ l. join_spot (kind_of l)) (outs-Apply (head.Symbol 1) [] []))
    (ap spot_of (outs-Apply (head.Symbol 4) (T ∷ []) (a ∷ [])))
    (ap spot_of (outs-Apply (head.Symbol 3) [] (a ∷ ga ∷ [])) ∙ ap (λ l. join_spot (kind_of l)) (outs-Apply (head.Symbol 4) (T ∷ []) (a ∷ [])))
    (ap spot_of (outs-Apply (head.Symbol 2) [] []))

pub names_apart : (m n : ℕ) (t : Term) → slice_get names m ≡ Some t → slice_get names n ≡ Some t → m ≡ n
names_apart m n t e f = sym (spots m t e) ∙ spots n t f

-- ---- leaves: in a list whose terms tell their places a term has its place as its number
numbered : (m : ℕ) (us : List Term) → ((k : ℕ) (v : Term) → slice_get us k ≡ Some v → spot v ≡ m + k)
    → (k : ℕ) (t : Term) → slice_get us k ≡ Some t → number_from m us t ≡ Some (m + k)
numbered m [] p k t e = none_beyond k t e
numbered m (v ∷ us) p zero t e =
    let z : m ≡ m + 0 = omega arith in
    pick_yes (Term_discrete v t) (Some m) (number_from (suc m) us t) (same_Some v t e) ∙ ap (λ (n : ℕ). Some n) z
numbered m (v ∷ us) p (suc k) t e =
    let z : suc m + k ≡ m + suc k = omega arith in
    pick_no (Term_discrete v t) (Some m) (number_from (suc m) us t) (λ d. omega (arith, sym (p 0 v refl) ∙ ap spot d ∙ p (suc k) t e))
    ∙ numbered (suc m) us (λ j w i. let y : m + suc j ≡ suc m + j = omega arith in p (suc j) w i ∙ y) k t e ∙ ap (λ (n : ℕ). Some n) z

leaf_is : (n : ℕ) (t : Term) → slice_get names n ≡ Some t → leaf_of names t ≡ n
leaf_is n t e =
    let z : 0 + n ≡ n = omega arith in
    ap (λ o. or_else o (length names + term_number t))
    (numbered 0 names (λ k v i. let y : k ≡ 0 + k = omega arith in spots k v i ∙ y) n t e ∙ ap (λ (k : ℕ). Some k) z)

-- ---- values
flat : (js : List Line) (s : Sort) → record_fields signature s ≡ None → (d : ℕ) (t : Term) → opaque_at signature names js d s t ≡ solved js (own s (leaf_of names t))
flat js s n zero t = refl
flat js s n (suc d) t =
    ap (λ o. elim o as (λ _. Val) [ None ↦ solved js (own s (leaf_of names t)) | Some ss ↦ fields (each_field signature names (opaque_at signature names js d) ss (field_terms s t (length ss))) ]) n

module _ (js : List Line) where
  opaque_value : (n : ℕ) (t : Term) (s : Sort) → slice_get names n ≡ Some t → sort_of signature t ≡ Some s → record_fields signature s ≡ None
      → opaque signature names js t ≡ solved js (own s n)
  opaque_value n t s i e p =
      ap (λ o. opaque_at signature names js (depth_of signature (or_else o BoolSort)) (or_else o BoolSort) t) e ∙ flat js s p (depth_of signature s) t
      ∙ ap (λ k. solved js (own s k)) (leaf_is n t i)

  of_T : (n : ℕ) (t : Term) → slice_get names n ≡ Some t → sort_of signature t ≡ Some T → opaque signature names js t ≡ solved js (leaf n)
  of_T n t i e = opaque_value n t T i e T_fields ∙ ap (solved js) (own_T n)

  pub a_value : value_by signature names js a ≡ solved js (leaf 0)
  unfolding value_by
  a_value = para_apply Val (value_step signature names js) (head.Symbol 0) [] [] ∙ of_T 0 a refl a_sort

  pub b_value : value_by signature names js b ≡ solved js (leaf 1)
  unfolding value_by
  b_value = para_apply Val (value_step signature names js) (head.Symbol 1) [] [] ∙ of_T 1 b refl b_sort

  pub ab_value : value_by signature names js ab ≡ solved js (leaf 2)
  unfolding value_by
  ab_value = para_apply Val (value_step signature names js) (head.Symbol 3) [] (a ∷ b ∷ []) ∙ of_T 2 ab refl ab_sort

  pub ga_value : value_by signature names js ga ≡ solved js (leaf 3)
  unfolding value_by
  ga_value = para_apply Val (value_step signature names js) (head.Symbol 4) (T ∷ []) (a ∷ []) ∙ of_T 3 ga refl ga_sort

  pub aga_value : value_by signature names js aga ≡ solved js (leaf 4)
  unfolding value_by
  aga_value = para_apply Val (value_step signature names js) (head.Symbol 3) [] (a ∷ ga ∷ []) ∙ of_T 4 aga refl aga_sort

  pub x_value : value_by signature names js x ≡ solved js (once 5)
  unfolding value_by
  x_value =
      para_apply Val (value_step signature names js) (head.Symbol 2) [] [] ∙ opaque_value 5 x Real refl x_sort real_fields ∙ ap (solved js) (own_real 5)

  pub zero_value : value_by signature names js zero_numeral ≡ constant_val (ratio (pos 0) (pos 1))
  unfolding value_by
  zero_value = para_num Val (value_step signature names js) (pos 0) (pos 1) true

-- each name of sort t has its leaf, put through the `solve` lines
pub name_value : (js : List Line) (n : ℕ) (t : Term) → slice_get names n ≡ Some t → sort_of signature t ≡ Some T → value_by signature names js t ≡ solved js (leaf n)
name_value js =
    each_name (λ n t. sort_of signature t ≡ Some T → value_by signature names js t ≡ solved js (leaf n)) (λ e. a_value js) (λ e. b_value js) (λ e. ab_value js)
    (λ e. ga_value js) (λ e. aga_value js) (λ e. absurd (real_is_not_T (same_Some Real T (sym x_sort ∙ e))))

pub same_leaf : (m n : ℕ) → leaf m ≡ leaf n → m ≡ n
same_leaf m n e = cc
