-- The rule of an application says what its computation and its linear form are.
use Rattle.std.specs.Prelude.{ℕ, ℤ, zero, suc, pos, negsuc, neg_ℤ, ◌<◌, ◌^◌, ◌≡◌, ◌≢◌, ◌*ℤ◌, ◌<ℤ◌, Bool, true, false, cond, not, ◌&&◌, ◌||◌, nat_eq, int_lt, unsigned_abs, List, [], ◌∷◌, map, length, Option, Some, None}
use Rattle.std.specs.List.{AllByRecursion, list_all}
use Rattle.std.specs.Ordering.{int_eq}
use Rattle.std.proofs.Common.{arith, refl, sym, ap, ◌∙◌, subst}
use Rattle.std.proofs.lemmas.Bool.Decides.{nat_tests, Decides-int_eq, Decides-ltb}
use Rattle.std.proofs.lemmas.Bool.{eqb-true, ltb-true}
use Rattle.ae_math.specs.Inner.Integers.{ring}
use borrow.Author.Differences.{ints}
use lib.IntN.{*ℤ_comm}
use Rattle.ae_base.proofs.Decided.{pick_no}
use Rattle.ae_math.specs.Fractions.{ℚ, zero_ℚ, one_ℚ, ratio, inverse_ℚ, ℚ_discrete}
use Rattle.ae_math.proofs.FractionLaws.{cancel_q, times_inverse, frac_same}
use Rattle.ae_num.proofs.MeaningLaws.{ratio_times, ratio_zero, product_positive}
use Rattle.ae_num.proofs.ReductionLaws.{read_back}
use mir.Syntax.{w128}
use mir.Val.{of_z, to_z}
use Rattle.ae_num.proofs.LowestLaws.{number_normal, number_value}
use Rattle.ae_numeric.proofs.NamedLaws.{minus_ratio, one_ratio, ratio_none, is_zero_yes}
use Rattle.ae_math.specs.Forms.{single, scale, is_zero}
use Rattle.ae_rules.specs.Linear as linear
use Rattle.ae_rules.specs.Linear.{Linear, form, over}
use Rattle.ae_core.specs.Sorts.{sort_of, is_closed_sort, head_sort, numeral_ok, within}
use Rattle.ae_base.specs.Options.{known}
use Rattle.ae_base.specs.Options.{only, when, all_known, ◌>>=◌}
use Rattle.ae_base.proofs.Integers.{positive_is}
use Rattle.ae_core.proofs.SortLaws.{sort_in_num, sort_in_apply}
use Rattle.ae_rules.proofs.LinearLaws.{form-Apply}
use Rattle.ae_core.specs.declared.terms.Sort.{Sort, Int, Real}
use Rattle.ae_core.specs.declared.terms.Head.{Head}
use Rattle.ae_core.specs.declared.terms.Head.TheVariants as head
use Rattle.ae_core.specs.declared.terms.Op.{Op}
use Rattle.ae_core.specs.declared.terms.Op.TheVariants as op
use Rattle.ae_core.specs.declared.problems.Signature.{Signature}
use Rattle.ae_core.specs.declared.terms.Term.{Term, Bound, Num, Fresh, Apply, para-roll-Term}
use Rattle.ae_core.specs.declared.terms.Term.TheOpen as layer
use Rattle.ae_core.specs.declared.terms.Term.TheVariants.{rolls-Apply, rolls-Bound, rolls-Num, rolls-Fresh}
use Rattle.ae_numeric.specs.Stated as table
use Rattle.ae_numeric.specs.Stated.{Computation, computed, computed_step, applied, opaque, known as known_form, numeral, scaled, divided_by, inverse_top, inverse_bottom}
use Rattle.ae_numeric.specs.Computing.{IsSorted}
use Rattle.ae_numeric.specs.Inner.Rules.{at, ruled, ruled_form, Fits, pair_rule, operation_rule, divisor_rule, quotient_rule, rule_of}
use Rattle.ae_numeric.specs.declared.forms.Rule.{Rule}
use Rattle.ae_numeric.specs.declared.forms.Rule.TheVariants.{Opaque, Scale, Pair}
use Rattle.ae_numeric.specs.declared.forms.Operation.{Operation}
use Rattle.ae_numeric.specs.declared.forms.Operation.TheVariants.{Sum, Difference, Product}

-- ---- the computation of each kind of term
firsts : (f : Term → Computation) (ts : List Term) → map {A = Term × Computation} (λ a. a.0) (map (λ t. (t, f t)) ts) ≡ ts
firsts f [] = refl
firsts f (t ∷ ts) = ap (λ us. t ∷ us) (firsts f ts)

computed-Apply : (h : Head) (ss : List Sort) (ts : List Term) → computed (Apply h ss ts) ≡ applied (Apply h ss ts) h (map (λ t. (t, computed t)) ts)
unfolding computed
computed-Apply h ss ts =
    ap computed (sym (rolls-Apply h ss ts)) ∙ para-roll-Term Computation computed_step (layer.Apply h ss ts)
    ∙ ap (λ us. applied (Apply h ss us) h (map (λ t. (t, computed t)) ts)) (firsts computed ts)

pub computed-Bound : (n : ℕ) → computed (Bound n) ≡ opaque (Bound n)
unfolding computed
computed-Bound n = ap computed (sym (rolls-Bound n)) ∙ para-roll-Term Computation computed_step (layer.Bound n)

pub computed-Num : (a b : ℤ) (r : Bool) → computed (Num a b r) ≡ known_form (numeral a b)
unfolding computed
computed-Num a b r = ap computed (sym (rolls-Num a b r)) ∙ para-roll-Term Computation computed_step (layer.Num a b r)

pub computed-Fresh : (n : ℕ) (s : Sort) → computed (Fresh n s) ≡ opaque (Fresh n s)
unfolding computed
computed-Fresh n s = ap computed (sym (rolls-Fresh n s)) ∙ para-roll-Term Computation computed_step (layer.Fresh n s)

-- ---- the number of arguments
long : (n : ℕ) → nat_eq (suc (suc (suc n))) 2 ≡ false
long n = grind (arith, nat_tests)

long_one : (n : ℕ) → nat_eq (suc (suc n)) 1 ≡ false
long_one n = grind (arith, nat_tests)

-- ---- an application by its rule, in two meanings of the rules: of those of the table, and of ours
pub record Agree (X : Type 0) (f : Term → X) (P : Term → Type 0) (meant : linear.Rule (Term × X) → X) (mine : Rule → List Term → X) : Type 0 where
  pub opaque : (ts : List Term) → meant linear.opaque_term ≡ mine Opaque ts
  pub sum : (a b : Term) → meant (linear.sum_of (a, f a) (b, f b)) ≡ mine (Pair Sum) (a ∷ b ∷ [])
  pub difference : (a b : Term) → meant (linear.difference_of (a, f a) (b, f b)) ≡ mine (Pair Difference) (a ∷ b ∷ [])
  pub product : (a b : Term) → meant (linear.product_of (a, f a) (b, f b)) ≡ mine (Pair Product) (a ∷ b ∷ [])
  pub negation : (a : Term) → meant (linear.negation_of (a, f a)) ≡ mine (Scale (neg_ℤ (pos 1)) (pos 1)) (a ∷ [])
  pub quotient : (a b : Term) → P b → meant (linear.quotient_of (a, f a) (b, f b)) ≡ mine (divisor_rule b) (a ∷ b ∷ [])

module _ (X : Type 0) (f : Term → X) (P : Term → Type 0) (meant : linear.Rule (Term × X) → X) (mine : Rule → List Term → X) (agree : Agree X f P meant mine) where
  abbrev O : X
  O = meant linear.opaque_term

  pair_law : (A : List (Term × X) → X) (o : Operation) → A [] ≡ O → ((a : Term × X) → A (a ∷ []) ≡ O) → ((a b : Term) → A ((a, f a) ∷ (b, f b) ∷ []) ≡ mine (Pair o) (a ∷ b ∷ []))
      → ((a b c : Term × X) (r : List (Term × X)) → A (a ∷ b ∷ c ∷ r) ≡ O) → (ts : List Term) → A (map (λ t. (t, f t)) ts) ≡ mine (pair_rule o (length ts)) ts
  pair_law A o p q r s [] = p ∙ agree.opaque []
  pair_law A o p q r s (a ∷ []) = q (a, f a) ∙ agree.opaque (a ∷ [])
  pair_law A o p q r s (a ∷ b ∷ []) = r a b
  pair_law A o p q r s (a ∷ b ∷ c ∷ ts) =
      s (a, f a) (b, f b) (c, f c) (map (λ t. (t, f t)) ts) ∙ agree.opaque (a ∷ b ∷ c ∷ ts) ∙ ap (λ z. mine (cond z (Pair o) Opaque) (a ∷ b ∷ c ∷ ts)) (sym (long (length ts)))

  negation_law : (A : List (Term × X) → X) → A [] ≡ O → ((a : Term) → A ((a, f a) ∷ []) ≡ mine (Scale (neg_ℤ (pos 1)) (pos 1)) (a ∷ [])) → ((a b : Term × X) (r : List (Term × X)) → A (a ∷ b ∷ r) ≡ O)
      → (ts : List Term) → A (map (λ t. (t, f t)) ts) ≡ mine (operation_rule op.Neg (length ts)) ts
  negation_law A p q s [] = p ∙ agree.opaque []
  negation_law A p q s (a ∷ []) = q a
  negation_law A p q s (a ∷ b ∷ ts) =
      s (a, f a) (b, f b) (map (λ t. (t, f t)) ts) ∙ agree.opaque (a ∷ b ∷ ts) ∙ ap (λ z. mine (cond z (Scale (neg_ℤ (pos 1)) (pos 1)) Opaque) (a ∷ b ∷ ts)) (sym (long_one (length ts)))

  quotient_law : (ts : List Term) → AllByRecursion P ts → meant (linear.rule_of (head.Real op.Div) (map (λ t. (t, f t)) ts)) ≡ mine (quotient_rule ts) ts
  quotient_law [] h = agree.opaque []
  quotient_law (a ∷ []) h = agree.opaque (a ∷ [])
  quotient_law (a ∷ b ∷ []) h = agree.quotient a b (h.1).0
  quotient_law (a ∷ b ∷ c ∷ ts) h = agree.opaque (a ∷ b ∷ c ∷ ts) ∙ ap (λ z. mine (cond z (divisor_rule b) Opaque) (a ∷ b ∷ c ∷ ts)) (sym (long (length ts)))

  table_law : (h : Head) (ts : List Term) → AllByRecursion P ts → meant (linear.rule_of h (map (λ t. (t, f t)) ts)) ≡ mine (rule_of h ts) ts
  table_law (head.Int op.Add) ts h = pair_law (λ us. meant (linear.rule_of (head.Int op.Add) us)) Sum refl (λ a. refl) agree.sum (λ a b c r. refl) ts
  table_law (head.Int op.Sub) ts h = pair_law (λ us. meant (linear.rule_of (head.Int op.Sub) us)) Difference refl (λ a. refl) agree.difference (λ a b c r. refl) ts
  table_law (head.Int op.Neg) ts h = negation_law (λ us. meant (linear.rule_of (head.Int op.Neg) us)) refl agree.negation (λ a b r. refl) ts
  table_law (head.Int op.Mul) ts h = pair_law (λ us. meant (linear.rule_of (head.Int op.Mul) us)) Product refl (λ a. refl) agree.product (λ a b c r. refl) ts
  table_law (head.Int op.Div) ts h = agree.opaque ts
  table_law (head.Int op.Mod) ts h = agree.opaque ts
  table_law (head.Real op.Add) ts h = pair_law (λ us. meant (linear.rule_of (head.Real op.Add) us)) Sum refl (λ a. refl) agree.sum (λ a b c r. refl) ts
  table_law (head.Real op.Sub) ts h = pair_law (λ us. meant (linear.rule_of (head.Real op.Sub) us)) Difference refl (λ a. refl) agree.difference (λ a b c r. refl) ts
  table_law (head.Real op.Neg) ts h = negation_law (λ us. meant (linear.rule_of (head.Real op.Neg) us)) refl agree.negation (λ a b r. refl) ts
  table_law (head.Real op.Mul) ts h = pair_law (λ us. meant (linear.rule_of (head.Real op.Mul) us)) Product refl (λ a. refl) agree.product (λ a b c r. refl) ts
  table_law (head.Real op.Div) ts h = quotient_law ts h
  table_law (head.Real op.Mod) ts h = agree.opaque ts
  table_law (head.Symbol n) ts h = agree.opaque ts
  table_law (head.Build n) ts h = agree.opaque ts
  table_law (head.Field n m) ts h = agree.opaque ts
  table_law head.True ts h = agree.opaque ts
  table_law head.False ts h = agree.opaque ts
  table_law head.Void ts h = agree.opaque ts

-- ---- the rules of computations
by_divisor : (whole : Term) (a : Computation) (f : Term → Computation) (ts : List Term) (t : Term) → f (at ts 0) ≡ a → divided_by whole a t ≡ ruled f (divisor_rule t) whole ts
by_divisor whole a f ts (Num n d real) e =
    elim (int_eq n (pos 0)) as (λ b. cond b (opaque whole) (scaled (inverse_top (numeral n d)) (inverse_bottom (numeral n d)) a) ≡ ruled f (cond b Opaque (Scale (inverse_top (numeral n d)) (inverse_bottom (numeral n d)))) whole ts) [
      | true ↦ refl
      | false ↦ ap (scaled (inverse_top (numeral n d)) (inverse_bottom (numeral n d))) (sym e)
    ]
by_divisor whole a f ts _ e = refl

anything : (ts : List Term) → AllByRecursion (λ t. Unit {0}) ts
anything [] = tt
anything (t ∷ ts) = (tt, anything ts)

computations_agree : (whole : Term) → Agree Computation computed (λ t. Unit {0}) (table.ruled whole) (λ r ts. ruled computed r whole ts)
computations_agree whole = record {
  opaque = λ ts. refl;
  sum = λ a b. refl;
  difference = λ a b. refl;
  product = λ a b. refl;
  negation = λ a. refl;
  quotient = λ a b u. by_divisor whole (computed a) computed (a ∷ b ∷ []) b refl;
}

pub ruled_computed : (h : Head) (ss : List Sort) (ts : List Term) → computed (Apply h ss ts) ≡ ruled computed (rule_of h ts) (Apply h ss ts) ts
ruled_computed h ss ts =
    computed-Apply h ss ts
    ∙ table_law Computation computed (λ t. Unit {0}) (table.ruled (Apply h ss ts)) (λ r us. ruled computed r (Apply h ss ts) us) (computations_agree (Apply h ss ts)) h ts (anything ts)

-- ---- sorted terms
all_sorted : (sig : Signature) (ts : List Term) → known (all_known (map (sort_of sig) ts)) ≡ true → AllByRecursion IsSorted ts
all_sorted sig [] h = tt
all_sorted sig (t ∷ ts) h = by_first (λ k. all_sorted sig ts k) (sort_of sig t) refl h
  where
    by_rest : (o : Option (List Sort)) (s : Sort) → known (o >>= λ xs. Some (s ∷ xs)) ≡ true → known o ≡ true
    by_rest (Some xs) s h = refl
    by_rest None s h = cc

    by_first : (known (all_known (map (sort_of sig) ts)) ≡ true → AllByRecursion IsSorted ts) → (o : Option Sort) → sort_of sig t ≡ o → known (o >>= λ x. all_known (map (sort_of sig) ts) >>= λ xs. Some (x ∷ xs)) ≡ true → AllByRecursion IsSorted (t ∷ ts)
    by_first ih (Some s) e h = ((sig, ap known e), ih (by_rest (all_known (map (sort_of sig) ts)) s h))
    by_first ih None e h = cc

pub args_sorted : (h : Head) (ss : List Sort) (ts : List Term) → IsSorted (Apply h ss ts) → AllByRecursion IsSorted ts
args_sorted h ss ts (sig, e) = all_sorted sig ts (by_parts (list_all (is_closed_sort sig) ss) (all_known (map (sort_of sig) ts)) (ap known (sym (sort_in_apply sig (is_closed_sort sig) [] h ss ts)) ∙ e))
  where
    by_parts : (b : Bool) (o : Option (List Sort)) → known (only b o >>= head_sort sig h ss) ≡ true → known o ≡ true
    by_parts true (Some xs) q = refl
    by_parts true None q = cc
    by_parts false o q = cc

within_means : (z : ℤ) → within z ≡ true → unsigned_abs z < 2 ^ 127
within_means z h = ltb-true (unsigned_abs z) (2 ^ 127) h

-- what holds of the numbers of a numeral
pub record AreNumbers (top bottom : ℤ) : Type 0 where
  pub top_within : unsigned_abs top < 2 ^ 127
  pub bottom_within : unsigned_abs bottom < 2 ^ 127
  pub positive : pos 0 <ℤ bottom

four_true : (a b c d : Bool) → a && b && c && d ≡ true → (a ≡ true) × (b ≡ true) × (c ≡ true)
four_true true true true d h = (refl, refl, refl)
four_true true true false d h = cc
four_true true false c d h = cc
four_true false b c d h = cc

pub numbers_sorted : (top bottom : ℤ) (real : Bool) → IsSorted (Num top bottom real) → AreNumbers top bottom
numbers_sorted a b r (sig, e) =
    let ok : numeral_ok a b r ≡ true = by_test (numeral_ok a b r) (cond r Real Int) (ap known (sym (sort_in_num sig (is_closed_sort sig) [] a b r)) ∙ e) in
    let parts = four_true (within a) (within b) (int_lt (pos 0) b) (r || not (int_lt (pos 1) b)) ok in
    record { top_within = within_means a parts.0; bottom_within = within_means b parts.1; positive = positive_is b parts.2 }
  where
    by_test : (t : Bool) (s : Sort) → known (when t s) ≡ true → t ≡ true
    by_test true s h = refl
    by_test false s h = cc

-- ---- the inverse of a number other than 0
module _ (c d : ℤ) (some : c ≢ pos 0) (positive : pos 0 <ℤ d) where
  other_than_zero : ratio c d ≡ zero_ℚ → ⊥
  other_than_zero e = some (ratio_none c d positive e)

same_ratio : (z : ℤ) → pos 0 <ℤ z → ratio z z ≡ one_ℚ
same_ratio (pos zero) p = absurd (omega (arith, ints))
same_ratio (pos (suc n)) p = frac_same (pos (suc n)) (pos 1) n 0 (*ℤ_comm (pos (suc n)) (pos 1)) ∙ one_ratio
same_ratio (negsuc n) p = absurd (omega (arith, ints))

inverse_by : (c d t b : ℤ) → c ≢ pos 0 → pos 0 <ℤ d → pos 0 <ℤ b → t *ℤ c ≡ b *ℤ d → inverse_ℚ (ratio c d) ≡ ratio t b
inverse_by c d t b n p q e =
    cancel_q (ratio c d) (inverse_ℚ (ratio c d)) (ratio t b) (other_than_zero c d n p)
    (times_inverse (ratio c d) (other_than_zero c d n p) ∙ sym (sym (ratio_times c d t b p q) ∙ ap (λ z. ratio z (b *ℤ d)) e ∙ same_ratio (b *ℤ d) (product_positive b d q p)))

flipped : (d x : ℤ) → neg_ℤ d *ℤ neg_ℤ x ≡ x *ℤ d
flipped d x = simp ring

flip : (m : ℕ) (d : ℤ) → neg_ℤ d *ℤ negsuc m ≡ pos (suc m) *ℤ d
flip m d = flipped d (pos (suc m))

not_below : (m : ℕ) → int_lt (pos (suc m)) (pos 0) ≡ false
not_below m = by_test (int_lt (pos (suc m)) (pos 0)) refl
  where
    by_test : (b : Bool) → int_lt (pos (suc m)) (pos 0) ≡ b → b ≡ false
    by_test true e = absurd (let l : suc m < 0 = (Decides-ltb (suc m) 0).0 e in omega (arith, l))
    by_test false e = refl

below_zero : (m : ℕ) → int_lt (negsuc m) (pos 0) ≡ true
below_zero m = refl

int_eq_means : (x y : ℤ) → int_eq x y ≡ true → x ≡ y
int_eq_means x y e = (Decides-int_eq x y).0 e

int_ne : (x y : ℤ) → int_eq x y ≡ false → x ≡ y → ⊥
int_ne x y e h = let t = (Decides-int_eq x y).1 h in cc

inverse_parts : (c d : ℤ) → c ≢ pos 0 → pos 0 <ℤ d → inverse_ℚ (ratio c d) ≡ ratio (cond (int_lt c (pos 0)) (neg_ℤ d) d) (pos (unsigned_abs c))
inverse_parts (pos zero) d n p = absurd (n refl)
inverse_parts (pos (suc m)) d n p = inverse_by (pos (suc m)) d d (pos (suc m)) n p (omega (arith, ints)) (*ℤ_comm d (pos (suc m))) ∙ ap (λ b. ratio (cond b (neg_ℤ d) d) (pos (suc m))) (sym (not_below m))
inverse_parts (negsuc m) d n p = inverse_by (negsuc m) d (neg_ℤ d) (pos (suc m)) n p (omega (arith, ints)) (flip m d) ∙ ap (λ b. ratio (cond b (neg_ℤ d) d) (pos (suc m))) (sym (below_zero m))

-- ---- the rules of linear forms
numeral_none : (n d : ℤ) → AreNumbers n d → (numeral n d).constant ≡ pos 0 → n ≡ pos 0
numeral_none n d h e = ratio_none n d h.positive (sym (number_value n d h.positive h.top_within h.bottom_within) ∙ ap (λ z. ratio z (numeral n d).den) e ∙ ratio_zero (numeral n d).den)

by_numeral : (whole : Term) (f : Term → Linear) (ts : List Term) (n d : ℤ) (r : Bool) → AreNumbers n d → (b : Bool) → int_eq n (pos 0) ≡ b
    → over whole (f (at ts 0)) (Num n d r) ≡ ruled_form f (cond b Opaque (Scale (inverse_top (numeral n d)) (inverse_bottom (numeral n d)))) whole ts
by_numeral whole f ts n d r h true e =
    ap (λ b. cond b (single whole) (scale (inverse_ℚ (ratio n d)) (f (at ts 0)))) (is_zero_yes (ratio n d) (ap (λ z. ratio z d) (int_eq_means n (pos 0) e) ∙ ratio_zero d))
by_numeral whole f ts n d r h false e =
    let some : n ≢ pos 0 = λ z. int_ne n (pos 0) e z in
    ap (λ b. cond b (single whole) (scale (inverse_ℚ (ratio n d)) (f (at ts 0)))) (zero_no (ratio n d) (λ z. some (ratio_none n d h.positive z)))
    ∙ ap (λ x. scale x (f (at ts 0)))
    (ap inverse_ℚ (sym (number_value n d h.positive h.top_within h.bottom_within)) ∙ inverse_parts (numeral n d).constant (numeral n d).den (λ z. some (numeral_none n d h z)) (number_normal n d h.positive h.top_within h.bottom_within).positive)
  where
    zero_no : (x : ℚ) → (x ≡ zero_ℚ → ⊥) → is_zero x ≡ false
    zero_no x n = pick_no (ℚ_discrete x zero_ℚ) true false n

divisor_form : (whole : Term) (f : Term → Linear) (ts : List Term) (t : Term) → IsSorted t → over whole (f (at ts 0)) t ≡ ruled_form f (divisor_rule t) whole ts
divisor_form whole f ts (Num n d r) h = by_numeral whole f ts n d r (numbers_sorted n d r h) (int_eq n (pos 0)) refl
divisor_form whole f ts _ h = refl

two_sorted : (ts : List Term) → AllByRecursion IsSorted ts → length ts ≡ 2 → IsSorted (at ts 1)
two_sorted [] h e = absurd (omega (arith, e))
two_sorted (a ∷ []) h e = absurd (omega (arith, e))
two_sorted (a ∷ b ∷ ts) h e = (h.1).0

forms_agree : (whole : Term) → Agree Linear form IsSorted (linear.ruled whole) (λ r ts. ruled_form form r whole ts)
forms_agree whole = record {
  opaque = λ ts. refl;
  sum = λ a b. refl;
  difference = λ a b. refl;
  product = λ a b. refl;
  negation = λ a. ap (λ x. scale x (form a)) (sym minus_ratio);
  quotient = λ a b s. divisor_form whole form (a ∷ b ∷ []) b s;
}

pub ruled_forms : (h : Head) (ss : List Sort) (ts : List Term) → AllByRecursion IsSorted ts → form (Apply h ss ts) ≡ ruled_form form (rule_of h ts) (Apply h ss ts) ts
ruled_forms h ss ts s =
    form-Apply h ss ts ∙ table_law Linear form IsSorted (linear.ruled (Apply h ss ts)) (λ r us. ruled_form form r (Apply h ss ts) us) (forms_agree (Apply h ss ts)) h ts s

-- ---- each rule has the arguments that it needs
size_positive : (z : ℤ) → z ≢ pos 0 → pos 0 <ℤ pos (unsigned_abs z)
size_positive (pos zero) n = absurd (n refl)
size_positive (pos (suc m)) n = omega (arith, ints)
size_positive (negsuc m) n = omega (arith, ints)

divisor_fits : (t : Term) (n : ℕ) → 0 < n → IsSorted t → Fits (divisor_rule t) n
divisor_fits (Num c d r) n l h = by_test (int_eq c (pos 0)) refl
  where
    by_test : (b : Bool) → int_eq c (pos 0) ≡ b → Fits (cond b Opaque (Scale (inverse_top (numeral c d)) (inverse_bottom (numeral c d)))) n
    by_test true e = tt
    by_test false e = (l, size_positive (numeral c d).constant (λ z. int_ne c (pos 0) e (numeral_none c d (numbers_sorted c d r h) z)))
divisor_fits _ n l h = tt

pair_fits : (o : Operation) (n : ℕ) → Fits (pair_rule o n) n
pair_fits o n = by_test (nat_eq n 2) refl
  where
    by_test : (b : Bool) → nat_eq n 2 ≡ b → Fits (cond b (Pair o) Opaque) n
    by_test true e = eqb-true n 2 e
    by_test false e = tt

operation_fits : (o : Op) (n : ℕ) → Fits (operation_rule o n) n
operation_fits op.Add n = pair_fits Sum n
operation_fits op.Sub n = pair_fits Difference n
operation_fits op.Neg n = by_test (nat_eq n 1) refl
  where
    by_test : (b : Bool) → nat_eq n 1 ≡ b → Fits (cond b (Scale (neg_ℤ (pos 1)) (pos 1)) Opaque) n
    by_test true e = (let q = eqb-true n 1 e in omega arith, omega (arith, ints))
    by_test false e = tt
operation_fits op.Mul n = pair_fits Product n
operation_fits op.Div n = tt
operation_fits op.Mod n = tt

quotient_fits : (ts : List Term) → AllByRecursion IsSorted ts → Fits (quotient_rule ts) (length ts)
quotient_fits ts h = by_test (nat_eq (length ts) 2) refl
  where
    by_test : (b : Bool) → nat_eq (length ts) 2 ≡ b → Fits (cond b (divisor_rule (at ts 1)) Opaque) (length ts)
    by_test true e = let q = eqb-true (length ts) 2 e in divisor_fits (at ts 1) (length ts) (omega (arith, q)) (two_sorted ts h q)
    by_test false e = tt

pub rule_fits : (h : Head) (ts : List Term) → AllByRecursion IsSorted ts → Fits (rule_of h ts) (length ts)
rule_fits (head.Int o) ts s = operation_fits o (length ts)
rule_fits (head.Real op.Add) ts s = pair_fits Sum (length ts)
rule_fits (head.Real op.Sub) ts s = pair_fits Difference (length ts)
rule_fits (head.Real op.Neg) ts s = operation_fits op.Neg (length ts)
rule_fits (head.Real op.Mul) ts s = pair_fits Product (length ts)
rule_fits (head.Real op.Div) ts s = quotient_fits ts s
rule_fits (head.Real op.Mod) ts s = tt
rule_fits (head.Symbol n) ts s = tt
rule_fits (head.Build n) ts s = tt
rule_fits (head.Field n m) ts s = tt
rule_fits head.True ts s = tt
rule_fits head.False ts s = tt
rule_fits head.Void ts s = tt

-- ---- numbers that are read back from their bits
pub numbers_read : (t : Term) (top bottom : ℤ) (real : Bool) → t ≡ Num top bottom real → IsSorted t → AreNumbers (to_z w128 (of_z w128 top)) (to_z w128 (of_z w128 bottom))
numbers_read t top bottom real e s =
    let h = numbers_sorted top bottom real (subst IsSorted e s) in
    subst (λ z. AreNumbers z (to_z w128 (of_z w128 bottom))) (sym (read_back top h.top_within)) (subst (AreNumbers top) (sym (read_back bottom h.bottom_within)) h)

-- ---- an application by its rule
module _ (t : Term) (h : Head) (ss : List Sort) (ts us : List Term) (r : Rule) (is : t ≡ Apply h ss ts) (view : us ≡ ts) (rule : r ≡ rule_of h us) where
  pub by_computed : computed t ≡ ruled computed r t us
  by_computed =
      ap computed is ∙ ruled_computed h ss ts ∙ (λ i. ruled computed (rule_of h (sym view i)) (sym is i) (sym view i)) ∙ ap (λ q. ruled computed q t us) (sym rule)

  module _ (sorted : IsSorted t) where
    pub by_args : AllByRecursion IsSorted us
    by_args = subst (AllByRecursion IsSorted) (sym view) (args_sorted h ss ts (subst IsSorted is sorted))

    pub by_form : form t ≡ ruled_form form r t us
    by_form =
        ap form is ∙ ruled_forms h ss ts (args_sorted h ss ts (subst IsSorted is sorted)) ∙ (λ i. ruled_form form (rule_of h (sym view i)) (sym is i) (sym view i)) ∙ ap (λ q. ruled_form form q t us) (sym rule)

    pub by_fits : Fits r (length us)
    by_fits = subst (λ q. Fits q (length us)) (sym rule) (rule_fits h us by_args)

pub first_sorted : (ts : List Term) → AllByRecursion IsSorted ts → 0 < length ts → IsSorted (at ts 0)
first_sorted [] s l = absurd (omega arith)
first_sorted (t ∷ ts) s l = s.0
