-- Terms put for a block's variables, or constants with the values of these terms: the values, and the truth of formulas, are the same.
use Rattle.std.specs.Prelude.{ℤ, Bool, ℕ, ◌-◌, true, false, cond, nat_lt, List, [], ◌∷◌, ◌≡◌, ◌⊎◌, map, length, reverse, slice_get, Option, Some}
use Rattle.ae_base.proofs.ListFacts.{empty_parts}
use Rattle.std.specs.List.{AllByRecursion, list_all, flat_map}
use Rattle.std.proofs.Common.{inl, inr}
use mathlib.Core.Path.{refl, sym, ap, ◌∙◌}
use native.Mathlib.Omega.{arith}
use Rattle.std.proofs.lemmas.Bool.Decides.{nat_tests}
use Rattle.ae_core.specs.Inner.Induction.{by_terms}
use Rattle.ae_rules.specs.Linear.{form, is_number, is_plain, plain_here}
use Rattle.ae_core.specs.Sorts.{sort_of, sort_in, is_closed_sort, variable_sort, head_sort}
use Rattle.ae_base.specs.Options.{or_else, all_known, only, ◌>>=◌}
use Rattle.ae_core.specs.Putting.{put_terms}
use Rattle.ae_core.specs.Constants.{constants, constants_step}
use Rattle.ae_core.proofs.SortLaws.{sort_in_bound, sort_in_num, sort_in_fresh, sort_in_apply}
use Rattle.ae_core.proofs.PuttingLaws.{put_bound, put_num, put_fresh, put_apply}
use Rattle.ae_core.proofs.Recursion.{fold_bound, fold_num, fold_fresh, fold_apply}
use Rattle.ae_core.specs.declared.terms.Sort.{Sort, Int, Real}
use Rattle.ae_core.specs.declared.terms.Head.{Head}
use Rattle.ae_core.specs.declared.terms.Head.TheVariants as head
use Rattle.ae_core.specs.declared.terms.Op.TheVariants as op
use Rattle.ae_core.specs.declared.terms.Term.{Term, Bound, Num, Fresh, Apply}
use Rattle.ae_core.specs.declared.problems.Signature.{Signature}
use Rattle.ae_journal.specs.Values.{Val}
use Rattle.ae_journal.specs.Keys.{Numbering}
use Rattle.ae_journal.specs.Evaluation.{ev}
use Rattle.ae_evaluation.proofs.Facts.{Shapes}
use Rattle.ae_evaluation.proofs.Linear.{ev-Num}
use Rattle.ae_evaluation.proofs.Congruence.{IsPlainNode, IsNumeral, AreNumbers, congruent_alike}
use Rattle.ae_evaluation.proofs.Plainness.{plain-Apply, plain_node, factors_int, factors_real}
use Rattle.ae_evaluation.proofs.PutForms.{stays_constant}
use Rattle.ae_journal.specs.declared.systems.System.{System}
use Rattle.ae_base.proofs.Options.{bind_some, only_some}
use Rattle.std.proofs.lemmas.Bool.{and_parts}

pub constants-Bound : (n : ℕ) → constants (Bound n) ≡ []
unfolding constants
constants-Bound n = fold_bound (List Term) constants_step n

pub constants-Num : (a b : ℤ) (r : Bool) → constants (Num a b r) ≡ []
unfolding constants
constants-Num a b r = fold_num (List Term) constants_step a b r

pub constants-Fresh : (n : ℕ) (s : Sort) → constants (Fresh n s) ≡ Fresh n s ∷ []
unfolding constants
constants-Fresh n s = fold_fresh (List Term) constants_step n s

pub constants-Apply : (h : Head) (ss : List Sort) (us : List Term) → constants (Apply h ss us) ≡ flat_map (λ u. u) (map constants us)
unfolding constants
constants-Apply h ss us = fold_apply (List Term) constants_step h ss us

-- ---- a node of a plain term stays one
numeral_put : (ts : List Term) (b : Term) → IsNumeral b → IsNumeral (put_terms 0 ts b)
numeral_put ts b n = (n.0, n.1, n.2, ap (put_terms 0 ts) n.3 ∙ put_num 0 ts n.0 n.1 n.2)

product_put : (ts : List Term) (a b : Term) → (is_number (form a) ≡ true) ⊎ (is_number (form b) ≡ true)
    → (is_number (form (put_terms 0 ts a)) ≡ true) ⊎ (is_number (form (put_terms 0 ts b)) ≡ true)
product_put ts a b (inl e) = inl (stays_constant ts a e)
product_put ts a b (inr e) = inr (stays_constant ts b e)

node_put : (ts : List Term) (h : Head) (us : List Term) → IsPlainNode h us → IsPlainNode h (map (put_terms 0 ts) us)
node_put ts (head.Int op.Mul) (a ∷ b ∷ []) n = product_put ts a b n
node_put ts (head.Real op.Mul) (a ∷ b ∷ []) n = product_put ts a b n
node_put ts (head.Real op.Div) (a ∷ b ∷ []) n = numeral_put ts b n
node_put ts (head.Int op.Mul) [] n = tt
node_put ts (head.Int op.Mul) (a ∷ []) n = tt
node_put ts (head.Int op.Mul) (a ∷ b ∷ c ∷ us) n = tt
node_put ts (head.Real op.Mul) [] n = tt
node_put ts (head.Real op.Mul) (a ∷ []) n = tt
node_put ts (head.Real op.Mul) (a ∷ b ∷ c ∷ us) n = tt
node_put ts (head.Real op.Div) [] n = tt
node_put ts (head.Real op.Div) (a ∷ []) n = tt
node_put ts (head.Real op.Div) (a ∷ b ∷ c ∷ us) n = tt
node_put ts (head.Symbol n) us p = tt
node_put ts (head.Build n) us p = tt
node_put ts (head.Field n i) us p = tt
node_put ts head.True us p = tt
node_put ts head.False us p = tt
node_put ts head.Void us p = tt
node_put ts (head.Int op.Add) us p = tt
node_put ts (head.Int op.Sub) us p = tt
node_put ts (head.Int op.Neg) us p = tt
node_put ts (head.Int op.Div) us p = tt
node_put ts (head.Int op.Mod) us p = tt
node_put ts (head.Real op.Add) us p = tt
node_put ts (head.Real op.Sub) us p = tt
node_put ts (head.Real op.Neg) us p = tt
node_put ts (head.Real op.Mod) us p = tt

-- ---- sorts
-- closed terms of the sorts of a block's variables
abbrev pub Fill : Signature → List Sort → List Term → Type 0
Fill sig env ts =
    (i : ℕ) (s : Sort) → variable_sort env i ≡ Some s → (t : Term) × (slice_get (reverse ts) i ≡ Some t) × (sort_of sig t ≡ Some s)

pub at_variable : (ts : List Term) (i : ℕ) (t : Term) → slice_get (reverse ts) i ≡ Some t → put_terms 0 ts (Bound i) ≡ t
at_variable ts i t e =
    let z : i - 0 ≡ i = omega arith in
    put_bound 0 ts i ∙ (λ k. cond (not_below k) (Bound i) (or_else (slice_get (reverse ts) (z k)) (Bound (i - length ts)))) ∙ ap
    (λ o. or_else o (Bound (i - length ts))) e
  where
    not_below : nat_lt i 0 ≡ false
    not_below = grind (arith, nat_tests)

module _ (sig : Signature) (env : List Sort) (ts : List Term) (fill : Fill sig env ts) where
  abbrev HasSort : Term → Type 0
  HasSort t = (s : Sort) → sort_in sig (is_closed_sort sig) env t ≡ Some s → sort_of sig (put_terms 0 ts t) ≡ Some s

  all_sorted : (us : List Term) (args : List Sort) → AllByRecursion HasSort us
      → all_known (map (sort_in sig (is_closed_sort sig) env) us) ≡ Some args
      → all_known (map (sort_of sig) (map (put_terms 0 ts) us)) ≡ Some args
  all_sorted [] args a e = e
  all_sorted (u ∷ us) args a e =
      let b =
      bind_some (sort_in sig (is_closed_sort sig) env u)
      (λ x. all_known (map (sort_in sig (is_closed_sort sig) env) us) >>= λ xs. Some (x ∷ xs)) args e in
      let c = bind_some (all_known (map (sort_in sig (is_closed_sort sig) env) us)) (λ xs. Some (b.0 ∷ xs)) args b.2 in
      (λ i. (a.0 b.0 b.1 i) >>= λ x. (all_sorted us c.0 a.1 c.1 i) >>= λ xs. Some (x ∷ xs)) ∙ c.2

  pub put_sorted : (t : Term) → HasSort t
  put_sorted =
      by_terms HasSort
      (λ i s e. let f = fill i s (sym (sort_in_bound sig (is_closed_sort sig) env i) ∙ e) in ap (sort_of sig) (at_variable ts i f.0 f.1)
      ∙ f.2)
      (λ a b r s e. ap (sort_of sig) (put_num 0 ts a b r) ∙ sort_in_num sig (is_closed_sort sig) [] a b r ∙ sym
      (sort_in_num sig (is_closed_sort sig) env a b r) ∙ e)
      (λ n o s e. ap (sort_of sig) (put_fresh 0 ts n o) ∙ sort_in_fresh sig (is_closed_sort sig) [] n o ∙ sym
      (sort_in_fresh sig (is_closed_sort sig) env n o) ∙ e)
      (λ h ss us a s e.
      let b =
      bind_some (only (list_all (is_closed_sort sig) ss) (all_known (map (sort_in sig (is_closed_sort sig) env) us))) (head_sort sig h ss) s
      (sym (sort_in_apply sig (is_closed_sort sig) env h ss us) ∙ e) in
      let c = only_some (list_all (is_closed_sort sig) ss) (all_known (map (sort_in sig (is_closed_sort sig) env) us)) b.0 b.1 in
      ap (sort_of sig) (put_apply 0 ts h ss us) ∙ sort_in_apply sig (is_closed_sort sig) [] h ss (map (put_terms 0 ts) us)
      ∙ (λ i. only (c.0 i) (all_sorted us b.0 a c.1 i) >>= head_sort sig h ss) ∙ b.2)

-- ---- values
module _ (sig : Signature) (y : System) (num : Numbering) (reduce : Head → List Sort → List ℕ → List ℕ) (choosing : Bool)
    (A B : ℕ → Sort → Option Val) (shapes : Shapes sig y num reduce choosing A)
    (env : List Sort) (cs ts : List Term) (fill : Fill sig env cs)
    (same : (i : ℕ) (s : Sort) → variable_sort env i ≡ Some s → ev sig y num reduce choosing A
    (put_terms 0 cs (Bound i)) ≡ ev sig y num reduce choosing B (put_terms 0 ts (Bound i))) where
  abbrev pub IsSame : Term → Type 0
  IsSame t =
      (s : Sort) → sort_in sig (is_closed_sort sig) env t ≡ Some s → is_plain t ≡ true → constants t ≡ [] → ev sig y num reduce choosing A
      (put_terms 0 cs t) ≡ ev sig y num reduce choosing B (put_terms 0 ts t)

  each_same : (us : List Term) (args : List Sort) → AllByRecursion IsSame us
      → all_known (map (sort_in sig (is_closed_sort sig) env) us) ≡ Some args → list_all is_plain us ≡ true
      → flat_map (λ u. u) (map constants us) ≡ []
      → map (ev sig y num reduce choosing A) (map (put_terms 0 cs) us) ≡ map (ev sig y num reduce choosing B) (map (put_terms 0 ts) us)
  each_same [] args a e p c = refl
  each_same (u ∷ us) args a e p c =
      let b =
      bind_some (sort_in sig (is_closed_sort sig) env u)
      (λ x. all_known (map (sort_in sig (is_closed_sort sig) env) us) >>= λ xs. Some (x ∷ xs)) args e in
      let d = bind_some (all_known (map (sort_in sig (is_closed_sort sig) env) us)) (λ xs. Some (b.0 ∷ xs)) args b.2 in
      let q = and_parts (is_plain u) (list_all is_plain us) p in
      let f = empty_parts (constants u) (flat_map (λ u. u) (map constants us)) c in
      λ i. a.0 b.0 b.1 q.0 f.0 i ∷ each_same us d.0 a.1 d.1 q.1 f.1 i

  numbers_at : (h : Head) (ss : List Sort) (us : List Term) (s : Sort) → sort_of sig (Apply h ss us) ≡ Some s
      → AreNumbers sig y num reduce choosing A h us
  numbers_at (head.Int op.Mul) ss (a ∷ b ∷ []) s e =
      let f = factors_int sig ss a b s e in (shapes.numbers a Int f.0 (inl refl), shapes.numbers b Int f.1 (inl refl))
  numbers_at (head.Real op.Mul) ss (a ∷ b ∷ []) s e =
      let f = factors_real sig ss a b s e in (shapes.numbers a Real f.0 (inr refl), shapes.numbers b Real f.1 (inr refl))
  numbers_at (head.Int op.Mul) ss [] s e = tt
  numbers_at (head.Int op.Mul) ss (a ∷ []) s e = tt
  numbers_at (head.Int op.Mul) ss (a ∷ b ∷ c ∷ us) s e = tt
  numbers_at (head.Real op.Mul) ss [] s e = tt
  numbers_at (head.Real op.Mul) ss (a ∷ []) s e = tt
  numbers_at (head.Real op.Mul) ss (a ∷ b ∷ c ∷ us) s e = tt
  numbers_at (head.Symbol n) ss us s e = tt
  numbers_at (head.Build n) ss us s e = tt
  numbers_at (head.Field n i) ss us s e = tt
  numbers_at head.True ss us s e = tt
  numbers_at head.False ss us s e = tt
  numbers_at head.Void ss us s e = tt
  numbers_at (head.Int op.Add) ss us s e = tt
  numbers_at (head.Int op.Sub) ss us s e = tt
  numbers_at (head.Int op.Neg) ss us s e = tt
  numbers_at (head.Int op.Div) ss us s e = tt
  numbers_at (head.Int op.Mod) ss us s e = tt
  numbers_at (head.Real op.Add) ss us s e = tt
  numbers_at (head.Real op.Sub) ss us s e = tt
  numbers_at (head.Real op.Neg) ss us s e = tt
  numbers_at (head.Real op.Div) ss us s e = tt
  numbers_at (head.Real op.Mod) ss us s e = tt

  apply_case : (h : Head) (ss : List Sort) (us : List Term) → AllByRecursion IsSame us → IsSame (Apply h ss us)
  apply_case h ss us a s e p c =
      let b =
      bind_some (only (list_all (is_closed_sort sig) ss) (all_known (map (sort_in sig (is_closed_sort sig) env) us))) (head_sort sig h ss) s
      (sym (sort_in_apply sig (is_closed_sort sig) env h ss us) ∙ e) in
      let d = only_some (list_all (is_closed_sort sig) ss) (all_known (map (sort_in sig (is_closed_sort sig) env) us)) b.0 b.1 in
      let q = and_parts (plain_here h us) (list_all is_plain us) (sym (plain-Apply h ss us) ∙ p) in
      let n = plain_node h us q.0 in
      let w = each_same us b.0 a d.1 q.1 (sym (constants-Apply h ss us) ∙ c) in
      let sorted = sym (ap (sort_of sig) (put_apply 0 cs h ss us)) ∙ put_sorted sig env cs fill (Apply h ss us) s e in
      ap (ev sig y num reduce choosing A) (put_apply 0 cs h ss us)
      ∙ congruent_alike sig y num reduce choosing A B h ss (map (put_terms 0 cs) us) (map (put_terms 0 ts) us) w (node_put cs h us n)
      (node_put ts h us n) (numbers_at h ss (map (put_terms 0 cs) us) s sorted)
      ∙ sym (ap (ev sig y num reduce choosing B) (put_apply 0 ts h ss us))

  pub put_same : (t : Term) → IsSame t
  put_same =
      by_terms IsSame
      (λ i s e p c. same i s (sym (sort_in_bound sig (is_closed_sort sig) env i) ∙ e))
      (λ a b r s e p c. ap (ev sig y num reduce choosing A) (put_num 0 cs a b r) ∙ ev-Num sig y num reduce choosing A a b r ∙ sym
      (ap (ev sig y num reduce choosing B) (put_num 0 ts a b r) ∙ ev-Num sig y num reduce choosing B a b r))
      (λ n o s e p c. let z : Fresh n o ∷ [] ≡ [] = sym (constants-Fresh n o) ∙ c in absurd (cc))
      apply_case
