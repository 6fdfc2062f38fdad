use Rattle.std.specs.Prelude.{ℕ, ◌≡◌, None, IfSome, IfNone, ◌<◌, length}
use Rattle.std.proofs.Common.{refl, sym, ap, subst, arith}
use Rattle.ae_math.specs.Forms.{scale as scale_form}
use Rattle.ae_num.specs.Forms.{meaning}
use Rattle.ae_num.specs.declared.forms.Lin.{Lin}
use Rattle.ae_store.specs.Shapes.{shapes}
use Rattle.ae_store.specs.Terms.{terms}
use Rattle.ae_store.proofs.EnterLaws.{front_same}
use Rattle.ae_value_table.specs.Table.{number_at}
use Rattle.ae_math.specs.Fractions.{neg_ℚ, one_ℚ}
use Rattle.ae_math.specs.Forms.{plus as plus_form, minus as minus_form}
use Rattle.ae_constants.specs.Rules.{IsBelow}
use Rattle.ae_constants.specs.declared.rules.Computed.{Computed}
use Rattle.ae_take_in.specs.Widths.{of_sum, of_difference}
use Rattle.ae_take_in.specs.Inner.Operations.{IsApplied, IsGivenBy, form_by}
use Rattle.ae_strips.proofs.FieldTerms.{length_is}
use Rattle.ae_take_in.proofs.Passing.{wide_passed}
use Rattle.ae_take_in.proofs.computing.operation.Goals as goal

pub sum_of-requires-clause-on : goal.sum_of-requires-clause-on
sum_of-requires-clause-on c = let s = c.args.store.now in subst (IsApplied s.signature (terms (shapes s.nodes)) c.args.real c.args.name) c.in-Sum.is c.requires.applied

pub difference_of-requires-clause-on : goal.difference_of-requires-clause-on
difference_of-requires-clause-on c = let s = c.args.store.now in subst (IsApplied s.signature (terms (shapes s.nodes)) c.args.real c.args.name) c.in-Difference.is c.requires.applied

pub negation_of-requires-clause-on : goal.negation_of-requires-clause-on
negation_of-requires-clause-on c = let s = c.args.store.now in subst (IsApplied s.signature (terms (shapes s.nodes)) c.args.real c.args.name) c.in-Negation.is c.requires.applied

pub product_of-requires-clause-on : goal.product_of-requires-clause-on
product_of-requires-clause-on c = let s = c.args.store.now in subst (IsApplied s.signature (terms (shapes s.nodes)) c.args.real c.args.name) c.in-Product.is c.requires.applied

pub quotient_of-requires-clause-on : goal.quotient_of-requires-clause-on
quotient_of-requires-clause-on c = let s = c.args.store.now in (subst (IsApplied s.signature (terms (shapes s.nodes)) c.args.real c.args.name) c.in-Quotient.is c.requires.applied).1

pub returns-in_ok-sum-in-Sum-clause-some : goal.returns-in_ok-sum-in-Sum-clause-some
returns-in_ok-sum-in-Sum-clause-some c =
    let s = c.args.store.now in
    let ts = terms (shapes s.nodes) in
    let v = c.args.values.now in
    subst (λ (r : Computed). IsGivenBy s.signature ts c.args.justs.now c.sum_of.new.justs v c.args.real c.args.name r c.in_ok-sum-in-Sum.sum) (sym c.in-Sum.is)
    (record { form = plus_form (meaning (number_at v c.in-Sum.left)) (meaning (number_at v c.in-Sum.right)); is = refl; given = c.in_ok-sum-in-Sum.ensures.given })

pub returns-in_ok-apart-in-Difference-clause-some : goal.returns-in_ok-apart-in-Difference-clause-some
returns-in_ok-apart-in-Difference-clause-some c =
    let s = c.args.store.now in
    let ts = terms (shapes s.nodes) in
    let v = c.args.values.now in
    subst (λ (r : Computed). IsGivenBy s.signature ts c.args.justs.now c.difference_of.new.justs v c.args.real c.args.name r c.in_ok-apart-in-Difference.apart) (sym c.in-Difference.is)
    (record { form = minus_form (meaning (number_at v c.in-Difference.left)) (meaning (number_at v c.in-Difference.right)); is = refl; given = c.in_ok-apart-in-Difference.ensures.given })

pub returns-in_ok-negated-in-Negation-clause-some : goal.returns-in_ok-negated-in-Negation-clause-some
returns-in_ok-negated-in-Negation-clause-some c =
    let s = c.args.store.now in
    let ts = terms (shapes s.nodes) in
    let v = c.args.values.now in
    subst (λ (r : Computed). IsGivenBy s.signature ts c.args.justs.now c.negation_of.new.justs v c.args.real c.args.name r c.in_ok-negated-in-Negation.negated) (sym c.in-Negation.is)
    (record { form = scale_form (neg_ℚ one_ℚ) (meaning (number_at v c.in-Negation.of)); is = refl; given = c.in_ok-negated-in-Negation.ensures.given })

pub returns-in_err-sum-in-Sum-clause-wide : goal.returns-in_err-sum-in-Sum-clause-wide
returns-in_err-sum-in-Sum-clause-wide c =
    let s = c.args.store.now in
    let on = subst (IsApplied s.signature (terms (shapes s.nodes)) c.args.real c.args.name) c.in-Sum.is c.requires.applied in
    wide_passed c.from_residual.result c.in_err-sum-in-Sum.field-0.0 c.from_residual.ensures.1 (λ w i. of_sum c.in-Sum.left c.in-Sum.right c.args.real on.is i) c.in_err-sum-in-Sum.ensures.wide

pub returns-in_err-apart-in-Difference-clause-wide : goal.returns-in_err-apart-in-Difference-clause-wide
returns-in_err-apart-in-Difference-clause-wide c =
    let s = c.args.store.now in
    let on = subst (IsApplied s.signature (terms (shapes s.nodes)) c.args.real c.args.name) c.in-Difference.is c.requires.applied in
    wide_passed c.from_residual-in_err-apart-in-Difference.result c.in_err-apart-in-Difference.field-0.0 c.from_residual-in_err-apart-in-Difference.ensures.1 (λ w i. of_difference c.in-Difference.left c.in-Difference.right c.args.real on.is i) c.in_err-apart-in-Difference.ensures.wide

pub returns-in-Opaque-clause-none : goal.returns-in-Opaque-clause-none
returns-in-Opaque-clause-none c = λ number. ap (form_by (terms (shapes c.args.store.now.nodes)) number) c.in-Opaque.is

pub returns-in-Opaque-clause-front : goal.returns-in-Opaque-clause-front
returns-in-Opaque-clause-front c = front_same c.args.justs.now

-- ---- products and quotients
pub product_of-requires-clause-left : goal.product_of-requires-clause-left
product_of-requires-clause-left c =
    let s = c.args.store.now in
    let b = subst (IsBelow c.args.name) c.in-Product.is c.requires.below in
    let l : c.in-Product.left < c.args.name = b.0 in
    let long : length (terms (shapes s.nodes)) ≡ length s.nodes = length_is s.signature s.nodes c.len-len.ensures.store in
    omega (arith, l, c.requires.within, c.requires.one_each, long)

pub product_of-requires-clause-right : goal.product_of-requires-clause-right
product_of-requires-clause-right c =
    let s = c.args.store.now in
    let b = subst (IsBelow c.args.name) c.in-Product.is c.requires.below in
    let l : c.in-Product.right < c.args.name = b.1 in
    let long : length (terms (shapes s.nodes)) ≡ length s.nodes = length_is s.signature s.nodes c.len-len.ensures.store in
    omega (arith, l, c.requires.within, c.requires.one_each, long)

pub product_of-requires-clause-left_number : goal.product_of-requires-clause-left_number
product_of-requires-clause-left_number c = λ h. let b = subst (IsBelow c.args.name) c.in-Product.is c.requires.below in c.requires.numbers c.in-Product.left b.0 h

pub product_of-requires-clause-right_number : goal.product_of-requires-clause-right_number
product_of-requires-clause-right_number c = λ h. let b = subst (IsBelow c.args.name) c.in-Product.is c.requires.below in c.requires.numbers c.in-Product.right b.1 h

pub quotient_of-requires-clause-real : goal.quotient_of-requires-clause-real
quotient_of-requires-clause-real c = let s = c.args.store.now in (subst (IsApplied s.signature (terms (shapes s.nodes)) c.args.real c.args.name) c.in-Quotient.is c.requires.applied).0

pub quotient_of-requires-clause-by : goal.quotient_of-requires-clause-by
quotient_of-requires-clause-by c =
    let b = subst (IsBelow c.args.name) c.in-Quotient.is c.requires.below in
    let l : c.in-Quotient.by < c.args.name = b.1 in
    omega (arith, l, c.requires.within)

pub returns-in_ok-product-in-Product-clause-some : goal.returns-in_ok-product-in-Product-clause-some
returns-in_ok-product-in-Product-clause-some c =
    let s = c.args.store.now in
    subst (λ (r : Computed). IfSome c.in_ok-product-in-Product.product (λ given. IsGivenBy s.signature (terms (shapes s.nodes)) c.args.justs.now c.product_of.new.justs c.args.values.now c.args.real c.args.name r given)) (sym c.in-Product.is)
    c.in_ok-product-in-Product.ensures.some

pub returns-in_ok-product-in-Product-clause-none : goal.returns-in_ok-product-in-Product-clause-none
returns-in_ok-product-in-Product-clause-none c =
    subst (λ (r : Computed). IfNone c.in_ok-product-in-Product.product ((number : ℕ → Lin) → form_by (terms (shapes c.args.store.now.nodes)) number r ≡ None)) (sym c.in-Product.is) c.in_ok-product-in-Product.ensures.none

pub returns-in_ok-quotient-in-Quotient-clause-some : goal.returns-in_ok-quotient-in-Quotient-clause-some
returns-in_ok-quotient-in-Quotient-clause-some c =
    let s = c.args.store.now in
    subst (λ (r : Computed). IfSome c.in_ok-quotient-in-Quotient.quotient (λ given. IsGivenBy s.signature (terms (shapes s.nodes)) c.args.justs.now c.quotient_of.new.justs c.args.values.now c.args.real c.args.name r given)) (sym c.in-Quotient.is)
    c.in_ok-quotient-in-Quotient.ensures.some

pub returns-in_ok-quotient-in-Quotient-clause-none : goal.returns-in_ok-quotient-in-Quotient-clause-none
returns-in_ok-quotient-in-Quotient-clause-none c =
    subst (λ (r : Computed). IfNone c.in_ok-quotient-in-Quotient.quotient ((number : ℕ → Lin) → form_by (terms (shapes c.args.store.now.nodes)) number r ≡ None)) (sym c.in-Quotient.is) c.in_ok-quotient-in-Quotient.ensures.none
