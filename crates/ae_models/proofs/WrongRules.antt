-- The wrong rules lead to what is false.
use Rattle.std.specs.Prelude.{ℕ, zero, suc, ◌*◌, ℤ, pos, ◌+ℤ◌, ◌*ℤ◌, true, false, not, ◌&&◌, List, [], ◌∷◌, ◌++◌, ◌≡◌, ◌≢◌, map, length, codes, Some}
use Rattle.std.specs.List.{list_all}
use Rattle.std.specs.List.Sorted.{IsPermutation}
use Rattle.std.specs.Int.RustNames.{unsigned_abs}
use Rattle.std.proofs.Common.{refl, sym, ap, ◌∙◌, subst, arith, inr, true≢false}
use Rattle.std.proofs.lemmas.Bool.{and_parts, eqb-true, ltb-true}
use Rattle.std.proofs.lemmas.List.Sorted.{IsPermutation-swap}
use lib.IntN.{negsuc, neg_ℤ}
use borrow.Author.Differences.{ints}
use Rattle.ae_base.specs.Decided.{pick}
use Rattle.ae_base.proofs.Decided.{pick_yes, decided_of}
use Rattle.ae_math.specs.Forms.{number, single, plus, minus, scale, SameForm}
use Rattle.ae_math.specs.Fractions.{ℚ, frac, zero_ℚ, one_ℚ, neg_ℚ, ◌+ℚ◌, ◌*ℚ◌, is_positive, whole}
use Rattle.ae_math.proofs.FractionOrder.{positive_zero}
use std.Quotient.{/_rec}
use Rattle.std.proofs.lemmas.Int.{unsigned_abs-mul}
use Rattle.ae_math.proofs.FractionLaws.{field, frac_plus, frac_same}
use Rattle.ae_core.specs.Decided.{Head_discrete, Sort_discrete, Sorts_discrete, Term_discrete}
use Rattle.ae_rules.specs.Clauses.{is_true, is_false, literal}
use Rattle.ae_rules.specs.Instances.{fresh_clause, choices_of, exhaustion}
use Rattle.ae_rules.specs.Linear.{Linear, form, factor_of}
use Rattle.ae_rules.specs.Lines.{equal, at_most, flat, SumsTo, AreMultiples}
use Rattle.ae_core.specs.Putting.{put_formula, put_sort}
use Rattle.ae_base.specs.Options.{◌>>=◌, only, when, all_known}
use Rattle.ae_core.specs.Sorts.{sort_in, sort_of, head_sort, is_closed_sort, sort_ok, type_fits, same_sorts, same_known, numeral_ok, formula_in, formula_ok}
use Rattle.ae_rules.proofs.LinearLaws.{form-Num, form-Fresh, real_sum}
use Rattle.ae_core.proofs.PuttingLaws.{put_not, put_eq, put_bound, put_fresh, put_named}
use Rattle.ae_rules.proofs.ClauseLaws.{literal_not, literal_eq}
use Rattle.ae_core.proofs.SortLaws.{ok_var, ok_named, ok_real, sort_in_num, sort_in_bound, sort_in_fresh, sort_in_apply, formula_in_ex}
use Rattle.ae_core.proofs.SortLaws.{formula_in_not, formula_in_eq, quant_in_block}
use Rattle.ae_core.specs.declared.terms.Sort.{Sort, Sort-F, Real, Named, out-Sort, roll-Sort, roll-out-Sort}
use Rattle.ae_core.specs.declared.terms.Sort.TheOpen as sort_layer
use Rattle.ae_core.specs.declared.terms.Sort.TheVariants.{rolls-Var, rolls-Rigid, rolls-Named}
use Rattle.ae_core.specs.declared.terms.Op.TheVariants as op
use Rattle.ae_core.specs.declared.terms.Head.TheVariants as head
use Rattle.ae_core.specs.declared.terms.Term.{Term, Bound, Num, Fresh as Constant, Apply}
use Rattle.ae_core.specs.declared.formulas.Formula.{Formula, Eq, Le, Not, Ex, out-Formula}
use Rattle.ae_core.specs.declared.formulas.Formula.TheVariants.{outs-Ex}
use Rattle.ae_core.specs.declared.formulas.Quant.{Quant}
use Rattle.ae_core.specs.declared.formulas.Lit.{Lit}
use Rattle.ae_core.specs.declared.problems.Problem.{Problem}
use Rattle.ae_core.specs.declared.problems.Item.TheVariants.{Axiom, Goal}
use Rattle.ae_core.specs.declared.proofs.EqLine.TheVariants.{EqHyp, LeHyp}
use Rattle.ae_math.proofs.Wholes.{zero_whole, whole_plus, whole_neg, whole_same, whole_positive, one_whole}
use Rattle.ae_models.specs.Structures.{Value, Element, Number, Truth, Void, BelongsTo}
use Rattle.ae_models.specs.Truth.{FreshValues, Holds as ClaimHolds, value, applied, below}
use Rattle.ae_models.specs.Examples.{Thing, Count, Red, Green, Point, Other, count, colour, green, red, first, example_signature, example}
use Rattle.ae_models.specs.WrongRules.{Values, Says, LinWithFactorZero, SumWithNegativeFactor, GcdOfReals, FreshOfUsedConstant}
use Rattle.ae_models.specs.WrongRules.{ExhaustionWithoutTheLast, AcOfAnotherSymbol, AxiomAfterTheGoal}
use Rattle.ae_rules.proofs.FlatLaws.{flat_apply, flat_fresh}
use Rattle.ae_models.proofs.ClaimLaws.{value_num, value_fresh, value_bound, value_apply, claim_eq, claim_le, claim_not, claim_ex}
use Rattle.ae_models.proofs.Example.{greater}
use Rattle.ae_models.proofs.ModelTerms.{out_real, out_named, belongs_real, real_belongs, same_is}
use Rattle.std.proofs.lemmas.List.{nil_from_length}

-- ---- values for the fresh constants: of `count` its own number, of `real` a half
half : ℚ
half = frac (pos 1) 1

constant_value : ℕ → Sort-F Sort → Value Thing ℚ
constant_value n sort_layer.Int = Number (whole (pos 0))
constant_value n sort_layer.Real = Number half
constant_value n sort_layer.Bool = Truth true
constant_value n sort_layer.Unit = Void
constant_value n (sort_layer.Var i) = Void
constant_value n (sort_layer.Rigid i) = Element (Other i)
constant_value n (sort_layer.Named zero ss) = Element (Count n)
constant_value n (sort_layer.Named (suc zero) ss) = Element Red
constant_value n (sort_layer.Named (suc (suc h)) ss) = Element (Point zero_ℚ zero_ℚ)

abbrev OfLayer : ℕ → Sort → Sort-F Sort → Type 0
OfLayer n s l = BelongsTo example s l (constant_value n l)

named_value : (n h : ℕ) (ss : List Sort) → type_fits example_signature h (length ss) ≡ true → OfLayer n (Named h ss) (sort_layer.Named h ss)
unfolding constant_value
named_value n zero ss e = (Count n, refl, ap (Named 0) (sym (nil_from_length ss (sym (eqb-true 0 (length ss) e)))))
named_value n (suc zero) ss e = (Red, refl, ap (Named 1) (sym (nil_from_length ss (sym (eqb-true 0 (length ss) e)))))
named_value n (suc (suc zero)) ss e = (Point zero_ℚ zero_ℚ, refl, ap (Named 2) (sym (nil_from_length ss (sym (eqb-true 0 (length ss) e)))))
named_value n (suc (suc (suc h))) ss e = absurd (true≢false (sym e))

layer_value : (n : ℕ) (s : Sort) (l : Sort-F Sort) → roll-Sort l ≡ s → is_closed_sort example_signature s ≡ true → OfLayer n s l
unfolding constant_value
layer_value n s sort_layer.Int r c = (pos 0, refl)
layer_value n s sort_layer.Real r c = (half, refl)
layer_value n s sort_layer.Bool r c = (true, refl)
layer_value n s sort_layer.Unit r c = refl
layer_value n s (sort_layer.Var i) r c =
    absurd (true≢false (sym c ∙ ap (is_closed_sort example_signature) (sym r ∙ rolls-Var i) ∙ ok_var example_signature (λ i. false) (λ i. true) i))
layer_value n s (sort_layer.Rigid i) r c = (Other i, refl, sym (rolls-Rigid i) ∙ r)
layer_value n s (sort_layer.Named h ss) r c =
    let is : Named h ss ≡ s = sym (rolls-Named h ss) ∙ r in
    let both = and_parts (type_fits example_signature h (length ss)) (list_all (sort_ok example_signature (λ i. false) (λ i. true)) ss)
    (sym (ok_named example_signature (λ i. false) (λ i. true) h ss) ∙ ap (is_closed_sort example_signature) is ∙ c) in
    subst (λ t. OfLayer n t (sort_layer.Named h ss)) is (named_value n h ss both.0)

constants : FreshValues example
constants n s = constant_value n (out-Sort s)

some_values : Values
unfolding constants
some_values = (constants, λ n s c. layer_value n s (out-Sort s) (roll-out-Sort s) c)

real_constant : (n : ℕ) → some_values.0 n Real ≡ Number half
unfolding some_values constants constant_value
real_constant n = ap (constant_value n) out_real

count_constant : (n : ℕ) → some_values.0 n count ≡ Element (Count n)
unfolding some_values constants constant_value
count_constant n = ap (constant_value n) (out_named 0 [])

-- ---- what equations and inequalities say
module _ (v : Values) where
  abbrev worth : Term → Value Thing ℚ
  worth = value example v.0 []

  says_equal : (s t : Term) → worth s ≡ worth t → Says v (Eq s t)
  says_equal s t e = subst ClaimHolds (sym (claim_eq example v.0 s t [])) ((same_is example (worth s) (worth t)).1 e)

  equal_said : (s t : Term) → Says v (Eq s t) → worth s ≡ worth t
  equal_said s t h = (same_is example (worth s) (worth t)).0 (subst ClaimHolds (claim_eq example v.0 s t []) h)

-- ---- numerals
abbrev nought : Term
nought = Num (pos 0) (pos 1) true

abbrev one : Term
one = Num (pos 1) (pos 1) true

num_sort : (a : ℤ) → numeral_ok a (pos 1) true ≡ true → sort_of example_signature (Num a (pos 1) true) ≡ Some Real
num_sort a ok = sort_in_num example_signature _ [] a (pos 1) true ∙ ap (λ b. when b Real) ok

nought_sort : sort_of example_signature nought ≡ Some Real
nought_sort = num_sort (pos 0) refl

one_sort : sort_of example_signature one ≡ Some Real
one_sort = num_sort (pos 1) refl

num_value : (v : Values) (a : ℤ) → worth v (Num a (pos 1) true) ≡ Number (whole a)
num_value v a = value_num example v.0 [] a (pos 1) true

abbrev number_in : Value Thing ℚ → ℚ
number_in (Number q) = q
number_in _ = zero_ℚ

numbers_apart : (v : Values) → ¬ (Says v (Eq nought one))
numbers_apart v h =
    let e : ◌≡◌ {A = Value Thing ℚ} (Number (whole (pos 0))) (Number (whole (pos 1))) = sym (num_value v (pos 0)) ∙ equal_said v nought one h ∙ num_value v (pos 1) in
    let z : pos 0 ≡ pos 1 = whole_same (pos 0) (pos 1) (ap number_in e) in
    absurd (omega (arith, ap unsigned_abs z))

-- the gap of two numerals
num_gap : (a b : ℤ) → minus (form (Num b (pos 1) true)) (form (Num a (pos 1) true)) ≡ number (whole b +ℚ neg_ℚ one_ℚ *ℚ whole a)
num_gap a b = λ i. minus (form-Num b (pos 1) true i) (form-Num a (pos 1) true i)

pub lin_with_factor_zero : LinWithFactorZero
lin_with_factor_zero = (nought, one, ([], tt, tt, sums), numbers_apart)
  where
    zero_times : (q : ℚ) → zero_ℚ *ℚ q ≡ zero_ℚ
    zero_times q = simp field

    sums : SumsTo example_signature (pos 0) (equal nought one) []
    sums = record {
      sort = Real;
      numeric = inr refl;
      sorted = (nought_sort, one_sort);
      all_sorted = tt;
      sums = subst (λ f. SameForm Term_discrete (scale (whole (pos 0)) f) (number zero_ℚ)) (sym (num_gap (pos 0) (pos 1)))
          (record { factors = λ k. refl; constants = ap (λ q. q *ℚ (whole (pos 1) +ℚ neg_ℚ one_ℚ *ℚ whole (pos 0))) (sym zero_whole) ∙ zero_times (whole (pos 1) +ℚ neg_ℚ one_ℚ *ℚ whole (pos 0)) });
    }

-- ---- sums
at_most_says : (v : Values) (a b : ℤ) → not (is_positive (whole a +ℚ neg_ℚ (whole b))) ≡ true
    → Says v (Le (Num a (pos 1) true) (Num b (pos 1) true))
at_most_says v a b e = subst ClaimHolds (sym (claim_le example v.0 (Num a (pos 1) true) (Num b (pos 1) true) [])) ((λ i. not (below example (num_value v b i) (num_value v a i))) ∙ e)

says_at_most : (v : Values) (a b : ℤ) → Says v (Le (Num a (pos 1) true) (Num b (pos 1) true))
    → not (is_positive (whole a +ℚ neg_ℚ (whole b))) ≡ true
says_at_most v a b h =
    sym (λ i. not (below example (num_value v b i) (num_value v a i)))
    ∙ subst ClaimHolds (claim_le example v.0 (Num a (pos 1) true) (Num b (pos 1) true) []) h

difference : (a b : ℤ) → whole a +ℚ neg_ℚ (whole b) ≡ whole (a +ℤ neg_ℤ b)
difference a b = ap (λ q. whole a +ℚ q) (whole_neg b) ∙ whole_plus a (neg_ℤ b)

minus_one_not : is_positive (whole (negsuc 0)) ≡ false
unfolding is_positive frac /_rec
minus_one_not = refl

pub sum_with_negative_factor : SumWithNegativeFactor
sum_with_negative_factor = (
  LeHyp nought one 0 ∷ [],
  one,
  nought,
  record { factor = negsuc 0; line = 0 } ∷ [],
  (omega (arith, ints), (negsuc 0, at_most nought one) ∷ [], (refl, refl, tt), sums),
  (λ v. (at_most_says v (pos 0) (pos 1) (ap not (ap is_positive (difference (pos 0) (pos 1)) ∙ minus_one_not)), tt)),
  λ v h. true≢false (sym (says_at_most v (pos 1) (pos 0) h) ∙ ap not (ap is_positive (difference (pos 1) (pos 0)) ∙ whole_positive (pos 1) (omega (arith, ints)))),
)
  where
    turned : (x y : ℚ) → one_ℚ *ℚ (y +ℚ neg_ℚ one_ℚ *ℚ x) ≡ neg_ℚ one_ℚ *ℚ (x +ℚ neg_ℚ one_ℚ *ℚ y) +ℚ zero_ℚ
    turned x y = simp field

    minus_one : whole (negsuc 0) ≡ neg_ℚ one_ℚ
    minus_one = sym (ap neg_ℚ one_whole ∙ whole_neg (pos 1))

    sums : SumsTo example_signature (pos 1) (at_most one nought) ((negsuc 0, at_most nought one) ∷ [])
    sums = record {
      sort = Real;
      numeric = inr refl;
      sorted = (one_sort, nought_sort);
      all_sorted = ((nought_sort, one_sort), tt);
      sums = subst (λ (fs : Linear × Linear). SameForm Term_discrete (scale (whole (pos 1)) fs.0) (plus (scale (whole (negsuc 0)) fs.1) (number zero_ℚ))) (λ i. (sym (num_gap (pos 1) (pos 0)) i, sym (num_gap (pos 0) (pos 1)) i))
          (record {
            factors = λ k. refl;
            constants = ap (λ q. q *ℚ (whole (pos 0) +ℚ neg_ℚ one_ℚ *ℚ whole (pos 1))) (sym one_whole) ∙ turned (whole (pos 1)) (whole (pos 0))
                ∙ ap (λ q. q *ℚ (whole (pos 1) +ℚ neg_ℚ one_ℚ *ℚ whole (pos 0)) +ℚ zero_ℚ) (sym minus_one);
          });
    }

-- ---- an equation of reals
abbrev unknown : Term
unknown = Constant 0 Real

abbrev twice : Term
twice = Apply (head.Real op.Add) [] (unknown ∷ unknown ∷ [])

real_closed : is_closed_sort example_signature Real ≡ true
real_closed = ok_real example_signature (λ i. false) (λ i. true)

unknown_sort : sort_of example_signature unknown ≡ Some Real
unknown_sort = sort_in_fresh example_signature _ [] 0 Real ∙ ap (λ b. when b Real) real_closed

same_itself : (ss : List Sort) → same_sorts ss ss ≡ true
same_itself ss = decided_of (Sorts_discrete ss ss) refl

twice_sort : sort_of example_signature twice ≡ Some Real
twice_sort =
    sort_in_apply example_signature _ [] (head.Real op.Add) [] (unknown ∷ unknown ∷ [])
    ∙ (λ i. only true (all_known (unknown_sort i ∷ unknown_sort i ∷ [])) >>= head_sort example_signature (head.Real op.Add) [])
    ∙ (λ i. when (same_itself [] i && same_itself (Real ∷ Real ∷ []) i) Real)

twice_gap : minus (form one) (form twice) ≡ minus (number (whole (pos 1))) (plus (single unknown) (single unknown))
twice_gap = λ i. minus (form-Num (pos 1) (pos 1) true i) ((real_sum [] unknown unknown ∙ (λ j. plus (form-Fresh 0 Real j) (form-Fresh 0 Real j))) i)

abbrev the_gap : Linear
the_gap = minus (number (whole (pos 1))) (plus (single unknown) (single unknown))

minus_two : neg_ℚ one_ℚ *ℚ one_ℚ +ℚ (neg_ℚ one_ℚ *ℚ one_ℚ +ℚ zero_ℚ) ≡ whole (negsuc 0 *ℤ pos 2)
minus_two =
    (let e : neg_ℚ one_ℚ *ℚ one_ℚ +ℚ (neg_ℚ one_ℚ *ℚ one_ℚ +ℚ zero_ℚ) ≡ neg_ℚ one_ℚ +ℚ neg_ℚ one_ℚ = simp field in e)
    ∙ (λ i. neg_one i +ℚ neg_one i) ∙ whole_plus (negsuc 0) (negsuc 0)
  where
    neg_one : neg_ℚ one_ℚ ≡ whole (negsuc 0)
    neg_one = ap neg_ℚ one_whole ∙ whole_neg (pos 1)

its_factor : (u : Term) (d : Dec (unknown ≡ u))
    → (z : ℤ) × (pick d (neg_ℚ one_ℚ *ℚ one_ℚ +ℚ pick d (neg_ℚ one_ℚ *ℚ one_ℚ +ℚ zero_ℚ) zero_ℚ) (pick d (neg_ℚ one_ℚ *ℚ one_ℚ +ℚ zero_ℚ) zero_ℚ) ≡ whole (z *ℤ pos 2))
its_factor u (yes e) = (negsuc 0, minus_two)
its_factor u (no n) = (pos 0, zero_whole)

factor_there : (d : Dec (unknown ≡ unknown))
    → pick d (neg_ℚ one_ℚ *ℚ one_ℚ +ℚ pick d (neg_ℚ one_ℚ *ℚ one_ℚ +ℚ zero_ℚ) zero_ℚ) (pick d (neg_ℚ one_ℚ *ℚ one_ℚ +ℚ zero_ℚ) zero_ℚ) ≢ zero_ℚ
factor_there (yes e) h = let z : negsuc 0 *ℤ pos 2 ≡ pos 0 = whole_same (negsuc 0 *ℤ pos 2) (pos 0) (sym minus_two ∙ h ∙ zero_whole) in absurd (omega (arith, ap unsigned_abs z))
factor_there (no n) h = n refl

not_even : (z : ℤ) → pos 1 ≢ z *ℤ pos 2
not_even z e = let h : 1 ≡ unsigned_abs z * 2 = ap unsigned_abs e ∙ unsigned_abs-mul z (pos 2) in absurd (omega (arith, h))

two_halves : half +ℚ half ≡ whole (pos 1)
unfolding half
two_halves = frac_plus (pos 1) (pos 1) 1 1 ∙ frac_same _ (pos 1) _ 0 refl

pub gcd_of_reals : GcdOfReals
gcd_of_reals = (
  EqHyp twice one 0 ∷ [],
  0,
  (
    twice,
    one,
    refl,
    (twice_sort, one_sort),
    record {
      occurs = (unknown, subst (λ f. factor_of f unknown ≢ zero_ℚ) (sym twice_gap) (factor_there (Term_discrete unknown unknown)));
      divisor = 2;
      divides = subst (λ f. AreMultiples f 2) (sym twice_gap) (λ u. its_factor u (Term_discrete unknown u));
      constant = pos 1;
      is = ap (λ f. f.constant) twice_gap ∙ constant_one (whole (pos 1));
      not_divided = not_even;
    },
  ),
  some_values,
  (says_equal some_values twice one (doubled ∙ sym (num_value some_values (pos 1))), tt),
)
  where
    constant_one : (q : ℚ) → q +ℚ neg_ℚ one_ℚ *ℚ (zero_ℚ +ℚ zero_ℚ) ≡ q
    constant_one q = simp field

    unknown_value : worth some_values unknown ≡ Number half
    unknown_value = value_fresh example some_values.0 [] 0 Real ∙ real_constant 0

    doubled : worth some_values twice ≡ Number (whole (pos 1))
    doubled =
        value_apply example some_values.0 [] (head.Real op.Add) [] (unknown ∷ unknown ∷ [])
        ∙ (λ i. applied example (head.Real op.Add) [] (unknown_value i ∷ unknown_value i ∷ [])) ∙ ap Number two_halves

-- ---- a used constant
abbrev other_than : Formula
other_than = Not (Eq (Bound 0) unknown)

abbrev the_block : Quant
the_block = record { sorts = Real ∷ []; triggers = []; body = other_than }

abbrev some_other : Formula
some_other = Ex the_block

pub fresh_of_used_constant : FreshOfUsedConstant
fresh_of_used_constant =
    (some_other, 0, is_false some_other ∷ is_false (Eq unknown unknown) ∷ [], sorted, stated, λ v. (there_is v, (says_equal v unknown unknown refl, tt)))
  where
    sorted : formula_ok example_signature some_other ≡ true
    sorted =
        formula_in_ex example_signature (is_closed_sort example_signature) [] the_block
        ∙ quant_in_block example_signature (is_closed_sort example_signature) [] the_block
        ∙ (λ i. (real_closed i && true) && true && formula_in example_signature (is_closed_sort example_signature) (Real ∷ []) other_than)
        ∙ formula_in_not example_signature (is_closed_sort example_signature) (Real ∷ []) (Eq (Bound 0) unknown)
        ∙ formula_in_eq example_signature (is_closed_sort example_signature) (Real ∷ []) (Bound 0) unknown
        ∙ (λ i. same_known (sort_in_bound example_signature (is_closed_sort example_signature) (Real ∷ []) 0 i) (unknown_there i))
        ∙ decided_of (Sort_discrete Real Real) refl
      where
        unknown_there : sort_in example_signature (is_closed_sort example_signature) (Real ∷ []) unknown ≡ Some Real
        unknown_there = sort_in_fresh example_signature (is_closed_sort example_signature) (Real ∷ []) 0 Real ∙ ap (λ b. when b Real) real_closed

    put : put_formula (unknown ∷ []) other_than ≡ Not (Eq unknown unknown)
    put =
        put_not 0 (unknown ∷ []) (Eq (Bound 0) unknown)
        ∙ ap Not (put_eq 0 (unknown ∷ []) (Bound 0) unknown ∙ (λ i. Eq (put_bound 0 (unknown ∷ []) 0 i) (put_fresh 0 (unknown ∷ []) 0 Real i)))

    stated : fresh_clause some_other 0 (out-Formula some_other) ≡ Some (is_false some_other ∷ is_false (Eq unknown unknown) ∷ [])
    stated =
        ap (fresh_clause some_other 0) (outs-Ex the_block)
        ∙ ap (λ f. Some (is_false some_other ∷ literal true f ∷ [])) put
        ∙ ap (λ l. Some (is_false some_other ∷ l ∷ [])) (literal_not true (Eq unknown unknown) ∙ literal_eq false unknown unknown)

    there_is : (v : Values) → Says v some_other
    there_is v =
        let r = belongs_real example (v.0 0 Real) (v.1 0 Real real_closed) in
        let w = Number (r.0 +ℚ one_ℚ) in
        let first_value : value example v.0 (w ∷ []) (Bound 0) ≡ w = value_bound example v.0 (w ∷ []) 0 in
        let other_value : value example v.0 (w ∷ []) unknown ≡ Number r.0 = value_fresh example v.0 (w ∷ []) 0 Real ∙ r.1 in
        subst ClaimHolds (sym (claim_ex example v.0 the_block []))
        (λ none. none (w ∷ []) (real_belongs example w (r.0 +ℚ one_ℚ, refl), tt)
        (subst ClaimHolds (sym (claim_not example v.0 (Eq (Bound 0) unknown) (w ∷ [])))
        (λ k. apart r.0 (sym first_value ∙ (same_is example _ _).0 (subst ClaimHolds (claim_eq example v.0 (Bound 0) unknown (w ∷ [])) k) ∙ other_value))))
      where
        apart : (q : ℚ) → ◌≢◌ {A = Value Thing ℚ} (Number (q +ℚ one_ℚ)) (Number q)
        apart q e =
            true≢false (sym (greater v.0 q) ∙ ap (λ t. is_positive (t +ℚ neg_ℚ q)) (ap number_in e) ∙ ap is_positive (let z : q +ℚ neg_ℚ q ≡ zero_ℚ = simp field in z) ∙ positive_zero)

-- ---- colours
abbrev is_red : Lit
is_red = is_true (Eq green red)

green_sort : sort_of example_signature green ≡ Some colour
green_sort =
    sort_in_apply example_signature _ [] (head.Symbol 2) [] []
    ∙ (λ i. only (same_itself [] i) (Some colour) >>= λ s. Some (put_sort [] s)) ∙ ap Some (put_named [] 1 [])

pub exhaustion_without_the_last : ExhaustionWithoutTheLast
exhaustion_without_the_last = (green, is_red ∷ [], is_true (Eq green green), stated, λ v. (apart v, tt))
  where
    stated : exhaustion example_signature green ≡ Some (is_red ∷ is_true (Eq green green) ∷ [])
    stated =
        (λ i. green_sort i >>= λ s. choices_of example_signature (out-Sort s) >>= λ cs. Some (map (λ h. is_true (Eq green (Apply h [] []))) cs))
        ∙ (λ i. choices_of example_signature (out_named 1 [] i) >>= λ cs. Some (map (λ h. is_true (Eq green (Apply h [] []))) cs))

    apart : (v : Values) → ¬ (Says v (Eq green red))
    apart v h =
        let e : ◌≡◌ {A = Value Thing ℚ} (Element Green) (Element Red) =
        sym (value_apply example v.0 [] (head.Symbol 2) [] []) ∙ equal_said v green red h ∙ value_apply example v.0 [] (head.Symbol 1) [] [] in
        cc

-- ---- arguments in another order
abbrev this : Term
this = Constant 0 count

abbrev that : Term
that = Constant 1 count

count_closed : is_closed_sort example_signature count ≡ true
count_closed = ok_named example_signature _ _ 0 []

constant_sort : (n : ℕ) → sort_of example_signature (Constant n count) ≡ Some count
constant_sort n = sort_in_fresh example_signature _ [] n count ∙ ap (λ b. when b count) count_closed

first_sort : (m n : ℕ) → sort_of example_signature (first (Constant m count) (Constant n count)) ≡ Some count
first_sort m n =
    sort_in_apply example_signature _ [] (head.Symbol 3) [] (Constant m count ∷ Constant n count ∷ [])
    ∙ (λ i. only true (all_known (constant_sort m i ∷ constant_sort n i ∷ [])) >>= head_sort example_signature (head.Symbol 3) [])
    ∙ (λ i. only (same_sorts (count ∷ count ∷ []) (put_named [] 0 [] i ∷ put_named [] 0 [] i ∷ [])) (Some count) >>= λ s. Some (put_sort [] s))
    ∙ (λ i. only (same_itself (count ∷ count ∷ []) i) (Some count) >>= λ s. Some (put_sort [] s)) ∙ ap Some (put_named [] 0 [])

flat_first : (m n : ℕ) → flat (head.Symbol 3) [] (first (Constant m count) (Constant n count)) ≡ Constant m count ∷ Constant n count ∷ []
flat_first m n =
    flat_apply (head.Symbol 3) [] (head.Symbol 3) [] (Constant m count ∷ Constant n count ∷ [])
    ∙ pick_yes (Head_discrete (head.Symbol 3) (head.Symbol 3)) _ _ refl ∙ pick_yes (Sorts_discrete [] []) _ _ refl
    ∙ (λ i. flat_fresh (head.Symbol 3) [] m count i ++ flat_fresh (head.Symbol 3) [] n count i)

pub ac_of_another_symbol : AcOfAnotherSymbol
ac_of_another_symbol = (
  first this that,
  first that this,
  (
    head.Symbol 3,
    [],
    this ∷ that ∷ [],
    that ∷ this ∷ [],
    refl,
    refl,
    subst (λ (ls : List Term × List Term). IsPermutation ls.0 ls.1) (λ i. (sym (flat_first 0 1) i, sym (flat_first 1 0) i)) (IsPermutation-swap (this ∷ that ∷ []) (that ∷ this ∷ []) 0 1 (omega arith) (omega arith) refl),
  ),
  (λ i. same_known (first_sort 0 1 i) (first_sort 1 0 i)) ∙ decided_of (Sort_discrete count count) refl,
  some_values,
  apart,
)
  where
    first_value : (m n : ℕ) → worth some_values (first (Constant m count) (Constant n count)) ≡ Element (Count m)
    first_value m n =
        value_apply example some_values.0 [] (head.Symbol 3) [] (Constant m count ∷ Constant n count ∷ [])
        ∙ value_fresh example some_values.0 [] m count ∙ count_constant m

    apart : ¬ (Says some_values (Eq (first this that) (first that this)))
    apart h =
        let e : ◌≡◌ {A = Value Thing ℚ} (Element (Count 0)) (Element (Count 1)) = sym (first_value 0 1) ∙ equal_said some_values (first this that) (first that this) h ∙ first_value 1 0 in
        cc

-- ---- an axiom after the goal
abbrev late : Problem
late = record { signature = example_signature; items = Goal (codes "g") 0 (Eq nought one) ∷ Axiom (codes "a") 0 (Eq nought one) ∷ [] }

pub axiom_after_the_goal : AxiomAfterTheGoal
axiom_after_the_goal =
    (late, refl, 0, 1, codes "a", Eq nought one, refl, refl, (λ k name vars f ss l at len closed. absurd (omega (arith, ltb-true k 0 l))), numbers_apart)
