-- The equation of the value of an integer, of which a number divides the denominator and the factors but not the constant.
use Rattle.std.specs.Prelude.{ℕ, ℤ, pos, neg_ℤ, ◌+ℤ◌, ◌*ℤ◌, false, List, [], ◌∷◌, ◌≡◌, ◌≢◌, Some}
use Rattle.std.specs.List.{AllByRecursion}
use Rattle.std.proofs.Common.{sym, ap, ◌∙◌, subst}
use lib.IntN.{zero-*ℤ, +ℤ_idl, +ℤ_idr, +ℤ_invr, +ℤ_assoc}
use Rattle.ae_math.specs.Fractions.{ℚ, zero_ℚ, one_ℚ, neg_ℚ, ◌+ℚ◌, ◌*ℚ◌, whole}
use Rattle.ae_math.specs.Forms.{scale}
use Rattle.ae_math.specs.Inner.Integers.{ring}
use Rattle.ae_math.proofs.FormLaws.{factor_in-append, factor_in-scale, minus_factor, minus_one}
use Rattle.ae_math.proofs.Wholes.{whole_plus, whole_times, whole_neg, whole_same, zero_whole}
use Rattle.ae_core.specs.Decided.{Term_discrete}
use Rattle.ae_core.specs.Sorts.{sort_of}
use Rattle.ae_core.specs.declared.problems.Signature.{Signature}
use Rattle.ae_core.specs.declared.terms.Sort.{Int}
use Rattle.ae_core.specs.declared.terms.Term.{Term}
use Rattle.ae_rules.specs.Derivations.{HasNoSolution}
use Rattle.ae_rules.specs.Linear.{Linear, form, factor_of}
use Rattle.ae_rules.specs.Lines.{gap, AreMultiples}
use Rattle.ae_store.specs.Terms.{named}
use Rattle.ae_just.specs.declared.steps.Times.{Times}
use Rattle.ae_just.specs.Values.{combination, value_equation}
use Rattle.ae_just.proofs.ValueLaws.{written_out}
use Rattle.ae_whole_values.specs.Inner.Multiples.{IsNotWhole, AreIntegers}
use Rattle.ae_whole_values.proofs.WholeForms.{IsWholeForm, form_whole}

-- ---- arithmetic
sum_past : (k a c b d : ℤ) → (k *ℤ d) *ℤ a +ℤ (c +ℤ b *ℤ d) ≡ c +ℤ (k *ℤ a +ℤ b) *ℤ d
sum_past k a c b d = simp ring

difference_past : (c a b d : ℤ) → (c +ℤ a *ℤ d) +ℤ neg_ℤ (b *ℤ d) ≡ c +ℤ (a +ℤ neg_ℤ b) *ℤ d
difference_past c a b d = simp ring

back : (c x y : ℤ) → c +ℤ x ≡ y → c ≡ y +ℤ neg_ℤ x
back c x y e = sym (+ℤ_idr c) ∙ ap (λ z. c +ℤ z) (sym (+ℤ_invr x)) ∙ sym (+ℤ_assoc c x (neg_ℤ x)) ∙ ap (λ z. z +ℤ neg_ℤ x) e

-- a multiple of d, and c with a multiple of d
abbrev Multiple : ℤ → ℚ → Type 0
Multiple d q = (z : ℤ) × (q ≡ whole (z *ℤ d))

abbrev Past : ℤ → ℤ → ℚ → Type 0
Past c d q = (z : ℤ) × (q ≡ whole (c +ℤ z *ℤ d))

-- ---- sums
module _ (ts : List Term) (d : ℕ) where
  -- the forms of the names of a sum are whole
  abbrev HaveWholeForms : List Times → Type 0
  HaveWholeForms ps = AllByRecursion (λ p. IsWholeForm (form (named ts p.name))) ps

  part_multiple : (p : Times) → ((z : ℤ) × (p.factor ≡ z *ℤ pos d)) → IsWholeForm (form (named ts p.name)) → (q : ℚ) → Multiple (pos d) q → (u : Term) → Multiple (pos d) (whole p.factor *ℚ factor_of (form (named ts p.name)) u +ℚ q)
  part_multiple p k w q m u =
      let a = w.factors u in (
        k.0 *ℤ a.0 +ℤ m.0,
        (λ i. whole p.factor *ℚ a.1 i +ℚ m.1 i) ∙ ap (λ z. z +ℚ whole (m.0 *ℤ pos d)) (whole_times p.factor a.0) ∙ whole_plus (p.factor *ℤ a.0) (m.0 *ℤ pos d)
            ∙ ap (λ z. whole (z *ℤ a.0 +ℤ m.0 *ℤ pos d)) k.1 ∙ ap whole (let e : (k.0 *ℤ pos d) *ℤ a.0 +ℤ m.0 *ℤ pos d ≡ (k.0 *ℤ a.0 +ℤ m.0) *ℤ pos d = simp ring in e),
      )

  part_past : (p : Times) → ((z : ℤ) × (p.factor ≡ z *ℤ pos d)) → IsWholeForm (form (named ts p.name)) → (c : ℤ) (q : ℚ) → Past c (pos d) q → Past c (pos d) (whole p.factor *ℚ (form (named ts p.name)).constant +ℚ q)
  part_past p k w c q m =
      let a = w.constant in (
        k.0 *ℤ a.0 +ℤ m.0,
        (λ i. whole p.factor *ℚ a.1 i +ℚ m.1 i) ∙ ap (λ z. z +ℚ whole (c +ℤ m.0 *ℤ pos d)) (whole_times p.factor a.0) ∙ whole_plus (p.factor *ℤ a.0) (c +ℤ m.0 *ℤ pos d)
            ∙ ap (λ z. whole (z *ℤ a.0 +ℤ (c +ℤ m.0 *ℤ pos d))) k.1 ∙ ap whole (sum_past k.0 a.0 c m.0 (pos d)),
      )

  factors_multiple : (ps : List Times) (c : ℤ) → AllByRecursion (λ p. (z : ℤ) × (p.factor ≡ z *ℤ pos d)) ps → HaveWholeForms ps → (u : Term) → Multiple (pos d) (factor_of (combination ts ps c) u)
  factors_multiple [] c k w u = (pos 0, zero_whole ∙ ap whole (sym (zero-*ℤ (pos d))))
  factors_multiple (p ∷ ps) c k w u =
      let F = form (named ts p.name) in
      let same : factor_of (combination ts (p ∷ ps) c) u ≡ whole p.factor *ℚ factor_of F u +ℚ factor_of (combination ts ps c) u =
      factor_in-append Term_discrete (scale (whole p.factor) F).parts (combination ts ps c).parts u ∙ ap (λ z. z +ℚ factor_of (combination ts ps c) u) (factor_in-scale Term_discrete (whole p.factor) F.parts u) in
      subst (Multiple (pos d)) (sym same) (part_multiple p k.0 w.0 (factor_of (combination ts ps c) u) (factors_multiple ps c k.1 w.1 u) u)

  constant_past : (ps : List Times) (c : ℤ) → AllByRecursion (λ p. (z : ℤ) × (p.factor ≡ z *ℤ pos d)) ps → HaveWholeForms ps → Past c (pos d) (combination ts ps c).constant
  constant_past [] c k w = (pos 0, ap whole (sym (ap (λ z. c +ℤ z) (zero-*ℤ (pos d)) ∙ +ℤ_idr c)))
  constant_past (p ∷ ps) c k w = part_past p k.0 w.0 c (combination ts ps c).constant (constant_past ps c k.1 w.1)

-- ---- the equation
module _ (sig : Signature) (ts : List Term) (d : ℕ) (den c : ℤ) (ps : List Times) (name : ℕ) (bad : IsNotWhole d den ps c) (ints : AreIntegers sig ts name ps) where
  abbrev side : Times
  side = record { factor = den; name = name }

  abbrev difference : Linear
  difference = gap (value_equation ts false den ps c side)

  abbrev left : Linear
  left = combination ts (side ∷ []) (pos 0)

  abbrev right : Linear
  right = combination ts ps c

  own_whole : HaveWholeForms ts d (side ∷ [])
  own_whole = (form_whole sig (named ts name) ints.of_name, tt)

  whole_parts : (qs : List Times) → AllByRecursion (λ p. sort_of sig (named ts p.name) ≡ Some Int) qs → HaveWholeForms ts d qs
  whole_parts [] a = tt
  whole_parts (q ∷ qs) a = (form_whole sig (named ts q.name) a.0, whole_parts qs a.1)

  parts_whole : HaveWholeForms ts d ps
  parts_whole = whole_parts ps ints.of_parts

  own_factor : AllByRecursion (λ p. (z : ℤ) × (p.factor ≡ z *ℤ pos d)) (side ∷ [])
  own_factor = (bad.of_denominator, tt)

  factor_is : (u : Term) → factor_of difference u ≡ factor_of right u +ℚ neg_ℚ one_ℚ *ℚ factor_of left u
  factor_is u =
      minus_factor Term_discrete (form (value_equation ts false den ps c side).right) (form (value_equation ts false den ps c side).left) u
      ∙ (λ i. (written_out ts ps c false).factors u i +ℚ neg_ℚ one_ℚ *ℚ (written_out ts (side ∷ []) (pos 0) false).factors u i)

  constant_is : difference.constant ≡ right.constant +ℚ neg_ℚ one_ℚ *ℚ left.constant
  constant_is = λ i. (written_out ts ps c false).constants i +ℚ neg_ℚ one_ℚ *ℚ (written_out ts (side ∷ []) (pos 0) false).constants i

  pub are_multiples : AreMultiples difference d
  are_multiples u =
      let a = factors_multiple ts d ps c bad.of_factors parts_whole u in
      let b = factors_multiple ts d (side ∷ []) (pos 0) own_factor own_whole u in (
        a.0 +ℤ neg_ℤ b.0,
        factor_is u ∙ (λ i. a.1 i +ℚ (minus_one (factor_of left u) ∙ ap neg_ℚ b.1 ∙ whole_neg (b.0 *ℤ pos d)) i)
            ∙ whole_plus (a.0 *ℤ pos d) (neg_ℤ (b.0 *ℤ pos d)) ∙ ap whole (let e : a.0 *ℤ pos d +ℤ neg_ℤ (b.0 *ℤ pos d) ≡ (a.0 +ℤ neg_ℤ b.0) *ℤ pos d = simp ring in e),
      )

  past : Past c (pos d) difference.constant
  past =
      let a = constant_past ts d ps c bad.of_factors parts_whole in
      let b = constant_past ts d (side ∷ []) (pos 0) own_factor own_whole in
      let zero_off : left.constant ≡ whole (b.0 *ℤ pos d) = b.1 ∙ ap whole (+ℤ_idl (b.0 *ℤ pos d)) in (
        a.0 +ℤ neg_ℤ b.0,
        constant_is ∙ (λ i. a.1 i +ℚ (minus_one left.constant ∙ ap neg_ℚ zero_off ∙ whole_neg (b.0 *ℤ pos d)) i) ∙ whole_plus (c +ℤ a.0 *ℤ pos d) (neg_ℤ (b.0 *ℤ pos d)) ∙ ap whole (difference_past c a.0 b.0 (pos d)),
      )

  not_divided : (z : ℤ) → c +ℤ past.0 *ℤ pos d ≢ z *ℤ pos d
  not_divided z e = bad.not_of_constant (z +ℤ neg_ℤ past.0) (back c (past.0 *ℤ pos d) (z *ℤ pos d) e ∙ (let f : z *ℤ pos d +ℤ neg_ℤ (past.0 *ℤ pos d) ≡ (z +ℤ neg_ℤ past.0) *ℤ pos d = simp ring in f))

  -- no integers solve it, where it has an opaque term
  pub no_solution : (u : Term) → factor_of difference u ≢ zero_ℚ → HasNoSolution difference
  no_solution u n = record {
    occurs = (u, n);
    divisor = d;
    divides = are_multiples;
    constant = c +ℤ past.0 *ℤ pos d;
    is = past.1;
    not_divided = not_divided;
  }

  -- its constant isn't 0
  pub other_constant : difference.constant ≢ zero_ℚ
  other_constant e =
      let z : c +ℤ past.0 *ℤ pos d ≡ pos 0 = whole_same (c +ℤ past.0 *ℤ pos d) (pos 0) (sym past.1 ∙ e ∙ zero_whole) in
      not_divided (pos 0) (z ∙ sym (zero-*ℤ (pos d)))
