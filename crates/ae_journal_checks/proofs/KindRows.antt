-- The combination of the two bounds may come first.
use Rattle.std.proofs.Common.{◌≡◌, ◌≢◌, ℕ, [], ◌∷◌, ◌++◌, Bool, true, false, Some, refl, sym, ◌∙◌, ap, subst, arith, inl, inr}
use Rattle.std.specs.Prelude.{pos}
use Rattle.std.proofs.Math.Nat.{one-dvd}
use Rattle.std.proofs.lemmas.Bool.{cases_eq}
use Rattle.std.proofs.lemmas.Option.{same_Some}
use borrow.Author.Differences.{ints}
use Rattle.ae_base.proofs.Options.{never_some}
use Rattle.ae_math.specs.Fractions.{ℚ, zero_ℚ, one_ℚ, neg_ℚ, ratio, ◌+ℚ◌, ◌*ℚ◌, is_positive}
use Rattle.ae_math.proofs.FractionLaws.{field, add_zero_q, one_mul_q', neg_neg_q, neg_zero_q, zero_mul_q}
use Rattle.ae_math.proofs.FractionOrder.{positive_zero}
use Rattle.ae_num.specs.Forms.{IsNormal}
use Rattle.ae_core.specs.declared.terms.Term.{Term}
use Rattle.ae_core.specs.declared.formulas.Formula.TheVariants.{outs-True, outs-Le, outs-Or}
use Rattle.ae_core.specs.declared.formulas.Formula.{Formula}
use Rattle.ae_core.specs.declared.formulas.Lit.{Lit}
use Rattle.ae_rules.specs.Clauses.{is_true}
use Rattle.ae_journal.specs.declared.lines.Line.TheVariants as line
use Rattle.ae_journal.specs.States.{inequality, inequality_of}
use Rattle.ae_journal.specs.Values.{Val, Sum, leaf_factor, settled, scaled, minus_val, sum_in, sum_of_lin, once, constant_val}
use Rattle.ae_journal.specs.TermValues.{IsLargest}
use Rattle.ae_journal.specs.Rows.{IsMultiple, IsRow, add_sums, MayCombine}
use Rattle.ae_journal.specs.Rows.IsRow.{of_literal}
use Rattle.ae_journal.specs.Standing.{value_now}
use Rattle.ae_evaluation.proofs.Sums.{factor_same, factor_other, factor-append, factor-scaled, factor-settled, one_sum, settles}
use Rattle.ae_journal_checks.specs.EveryKind.{x, zero_numeral, from_below, from_above, one as first_choice, other as second_choice, names, row}
use Rattle.ae_journal_checks.proofs.KindTerms.{x_value, zero_value}
use Rattle.ae_journal_checks.proofs.KindFormulas.{S, Sure, below, above, chosen, goal_fails, goal_holds, sure, below_stands, above_stands}
use Rattle.ae_journal_checks.proofs.NoBlocks.{nothing}
use Rattle.ae_journal_checks.proofs.RefusedLines.{one_positive}
use Rattle.ae_journal_checks.proofs.RuleJournal.{no_end}

abbrev zero : Val
zero = constant_val (ratio (pos 0) (pos 1))

-- x - 0 and 0 - x
abbrev lower : Sum
lower = sum_in (minus_val (once 5) zero)

abbrev upper : Sum
upper = sum_in (minus_val zero (once 5))

zero_is : ratio (pos 0) (pos 1) ≡ zero_ℚ
unfolding zero_ℚ
zero_is = refl

-- ---- factors
lower_5 : leaf_factor lower.parts 5 ≡ one_ℚ
lower_5 = factor-settled ((5, one_ℚ) ∷ []) 5 ∙ factor_same 5 one_ℚ [] ∙ add_zero_q one_ℚ

lower_other : (j : ℕ) → j ≢ 5 → leaf_factor lower.parts j ≡ zero_ℚ
lower_other j d = factor-settled ((5, one_ℚ) ∷ []) j ∙ factor_other j 5 one_ℚ [] d

upper_5 : leaf_factor upper.parts 5 ≡ neg_ℚ one_ℚ
upper_5 =
    factor-settled (settled ((5, neg_ℚ one_ℚ *ℚ one_ℚ) ∷ [])) 5 ∙ factor-settled ((5, neg_ℚ one_ℚ *ℚ one_ℚ) ∷ []) 5 ∙ factor_same 5 (neg_ℚ one_ℚ *ℚ one_ℚ) []
    ∙ add_zero_q (neg_ℚ one_ℚ *ℚ one_ℚ) ∙ one_mul_q' (neg_ℚ one_ℚ)

upper_other : (j : ℕ) → j ≢ 5 → leaf_factor upper.parts j ≡ zero_ℚ
upper_other j d =
    factor-settled (settled ((5, neg_ℚ one_ℚ *ℚ one_ℚ) ∷ [])) j ∙ factor-settled ((5, neg_ℚ one_ℚ *ℚ one_ℚ) ∷ []) j ∙ factor_other j 5 (neg_ℚ one_ℚ *ℚ one_ℚ) [] d

not_positive : (q : ℚ) → is_positive q ≡ true → q ≢ zero_ℚ
not_positive q p e = let z : true ≡ false = sym p ∙ ap is_positive e ∙ positive_zero in cc

one_nonzero : one_ℚ ≢ zero_ℚ
one_nonzero = not_positive one_ℚ one_positive

neg_nonzero : neg_ℚ one_ℚ ≢ zero_ℚ
neg_nonzero e = one_nonzero (sym (neg_neg_q one_ℚ) ∙ ap neg_ℚ e ∙ neg_zero_q)

lower_largest : IsLargest names 5 lower
lower_largest = (omega arith, λ e. one_nonzero (sym lower_5 ∙ e), λ m h. lower_other m (λ e. omega (arith, h, e)))

upper_largest : IsLargest names 5 upper
upper_largest = (omega arith, λ e. neg_nonzero (sym upper_5 ∙ e), λ m h. upper_other m (λ e. omega (arith, h, e)))

lower_sign : is_positive (leaf_factor lower.parts 5) ≡ true
lower_sign = ap is_positive lower_5 ∙ one_positive

upper_sign : is_positive (neg_ℚ (leaf_factor upper.parts 5)) ≡ true
upper_sign = ap is_positive (ap neg_ℚ upper_5 ∙ neg_neg_q one_ℚ) ∙ one_positive

-- ---- the combination is 0
abbrev plain : Sum
plain = add_sums (neg_ℚ (leaf_factor upper.parts 5)) lower (leaf_factor lower.parts 5) upper

vanishes : (j : ℕ) → neg_ℚ (leaf_factor upper.parts 5) *ℚ leaf_factor lower.parts j +ℚ leaf_factor lower.parts 5 *ℚ leaf_factor upper.parts j ≡ zero_ℚ
vanishes j =
    elim (cases_eq j 5) [
      | inl e ↦
          (λ i. neg_ℚ (upper_5 i) *ℚ leaf_factor lower.parts (e i) +ℚ lower_5 i *ℚ leaf_factor upper.parts (e i))
          ∙ (λ i. neg_ℚ (neg_ℚ one_ℚ) *ℚ lower_5 i +ℚ one_ℚ *ℚ upper_5 i) ∙ at_five
      | inr d ↦
          (λ i. neg_ℚ (leaf_factor upper.parts 5) *ℚ lower_other j d i +ℚ leaf_factor lower.parts 5 *ℚ upper_other j d i)
          ∙ nothing_left (neg_ℚ (leaf_factor upper.parts 5)) (leaf_factor lower.parts 5)
    ]
  where
    at_five : neg_ℚ (neg_ℚ one_ℚ) *ℚ one_ℚ +ℚ one_ℚ *ℚ neg_ℚ one_ℚ ≡ zero_ℚ
    at_five = simp field

    nothing_left : (p q : ℚ) → p *ℚ zero_ℚ +ℚ q *ℚ zero_ℚ ≡ zero_ℚ
    nothing_left p q = simp field

no_parts : [] ≡ plain.parts
no_parts =
    one_sum [] plain.parts tt (settles (scaled (neg_ℚ (leaf_factor upper.parts 5)) lower.parts ++ scaled (leaf_factor lower.parts 5) upper.parts))
    (λ j. sym (factor-settled (scaled (neg_ℚ (leaf_factor upper.parts 5)) lower.parts ++ scaled (leaf_factor lower.parts 5) upper.parts) j
    ∙ factor-append (scaled (neg_ℚ (leaf_factor upper.parts 5)) lower.parts) (scaled (leaf_factor lower.parts 5) upper.parts) j
    ∙ (λ i. factor-scaled (neg_ℚ (leaf_factor upper.parts 5)) lower.parts j i +ℚ factor-scaled (leaf_factor lower.parts 5) upper.parts j i) ∙ vanishes j))

abbrev p : ℚ
p = neg_ℚ (leaf_factor upper.parts 5)

abbrev q : ℚ
q = leaf_factor lower.parts 5

no_constant : ratio (pos 0) (pos 1) ≡ plain.constant
no_constant = zero_is ∙ sym ((λ i. p *ℚ (zero_ℚ +ℚ neg_ℚ one_ℚ *ℚ zero_is i) +ℚ q *ℚ (zero_is i +ℚ neg_ℚ one_ℚ *ℚ zero_ℚ)) ∙ collapse p q)
  where
    collapse : (p q : ℚ) → p *ℚ (zero_ℚ +ℚ neg_ℚ one_ℚ *ℚ zero_ℚ) +ℚ q *ℚ (zero_ℚ +ℚ neg_ℚ one_ℚ *ℚ zero_ℚ) ≡ zero_ℚ
    collapse p q = simp field

row_is : sum_of_lin row ≡ plain
row_is i = record { parts = no_parts i; constant = no_constant i }

row_normal : IsNormal row
row_normal = record {
  positive = omega (arith, ints);
  rising = tt;
  nonzero = tt;
  lowest = ((one-dvd 1, (one-dvd 0, tt)), λ d a. a.0);
  within = (omega arith, (omega arith, tt));
}

-- ---- it is no multiple of a row whose factor of x is 1 or -1
no_multiple : (v : ℚ) → v *ℚ v ≡ one_ℚ → (h : Sum) → leaf_factor h.parts 5 ≡ v → ¬ IsMultiple (sum_of_lin row) h
no_multiple v square h f (q, p, e) = not_positive q p (sym back ∙ ap (λ y. y *ℚ v) (sym none) ∙ zero_mul_q v)
  where
    none : zero_ℚ ≡ q *ℚ v +ℚ zero_ℚ *ℚ v
    none =
        ap (λ (s : Sum). leaf_factor s.parts 5) e ∙ factor-settled (scaled q h.parts ++ scaled zero_ℚ h.parts) 5
        ∙ factor-append (scaled q h.parts) (scaled zero_ℚ h.parts) 5
        ∙ (λ i. factor-scaled q h.parts 5 i +ℚ factor-scaled zero_ℚ h.parts 5 i) ∙ (λ i. q *ℚ f i +ℚ zero_ℚ *ℚ f i)

    grouped : (q *ℚ v +ℚ zero_ℚ *ℚ v) *ℚ v ≡ q *ℚ (v *ℚ v)
    grouped = simp field

    back : (q *ℚ v +ℚ zero_ℚ *ℚ v) *ℚ v ≡ q
    back = grouped ∙ ap (λ y. q *ℚ y) square ∙ one_mul_q' q

module _ (fresh : Formula → ℕ) where
  abbrev value : Term → Val
  value = value_now (S fresh) []

  lower_is : sum_in (minus_val (value x) (value zero_numeral)) ≡ lower
  lower_is i = sum_in (minus_val (x_value [] i) (zero_value [] i))

  upper_is : sum_in (minus_val (value zero_numeral) (value x)) ≡ upper
  upper_is i = sum_in (minus_val (zero_value [] i) (x_value [] i))

  below_inequality : inequality (is_true from_below) ≡ Some (x, zero_numeral, false)
  below_inequality = ap (inequality_of true) (outs-Le zero_numeral x)

  above_inequality : inequality (is_true from_above) ≡ Some (zero_numeral, x, false)
  above_inequality = ap (inequality_of true) (outs-Le x zero_numeral)

  lower_row : IsRow (S fresh) [] false lower
  lower_row = subst (IsRow (S fresh) [] false) lower_is (of_literal (is_true from_below) x zero_numeral (below_stands fresh []) below_inequality)

  upper_row : IsRow (S fresh) [] false upper
  upper_row = subst (IsRow (S fresh) [] false) upper_is (of_literal (is_true from_above) zero_numeral x (above_stands fresh []) above_inequality)

  -- the rows that surely stand
  refused : (l : Lit) → Sure l → (s t : Term) (c : Bool) → inequality l ≡ Some (s, t, c) → ¬ IsMultiple (sum_of_lin row) (sum_in (minus_val (value s) (value t)))
  refused _ below s t c e m =
      let z = same_Some (x, zero_numeral, false) (s, t, c) (sym below_inequality ∙ e) in
      no_multiple one_ℚ (one_mul_q' one_ℚ) lower lower_5
      (subst (IsMultiple (sum_of_lin row)) ((λ i. sum_in (minus_val (value (sym z i).0) (value (sym z i).1))) ∙ lower_is) m)
  refused _ above s t c e m =
      let z = same_Some (zero_numeral, x, false) (s, t, c) (sym above_inequality ∙ e) in
      no_multiple (neg_ℚ one_ℚ) square upper upper_5
      (subst (IsMultiple (sum_of_lin row)) ((λ i. sum_in (minus_val (value (sym z i).0) (value (sym z i).1))) ∙ upper_is) m)
    where
      square : neg_ℚ one_ℚ *ℚ neg_ℚ one_ℚ ≡ one_ℚ
      square = simp field
  refused _ chosen s t c e m = never_some (s, t, c) (sym (ap (inequality_of true) (outs-Or first_choice second_choice)) ∙ e)
  refused _ goal_fails s t c e m = never_some (s, t, c) (sym (ap (inequality_of false) outs-True) ∙ e)
  refused _ goal_holds s t c e m = never_some (s, t, c) (sym (ap (inequality_of true) outs-True) ∙ e)

  pub combines : MayCombine (S fresh) [] false row
  combines = record {
    plain = plain;
    was_strict = false;
    combination = record {
      one = lower;
      other = upper;
      strict_one = false;
      strict_other = false;
      key = 5;
      combined = record { first = lower_row; second = upper_row; largest = (lower_largest, upper_largest); signs = (lower_sign, upper_sign) };
      strictness = refl;
      is = refl;
    };
    normal = row_normal;
    is = inl (refl, row_is);
    no_literal = λ l s t c h e. refused l (sure fresh [] tt (λ m i. nothing m i) l h) s t c e;
    no_line = λ before after c h e o m. no_end before after (line.Combine c h) e;
  }
