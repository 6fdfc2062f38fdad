use Rattle.std.specs.Prelude.{ℤ, pos, ◌≡◌, ◌≢◌, ◌<ℤ◌, Bool, []}
use Rattle.std.proofs.Common.{rules, sym, ◌∙◌, subst}
use Rattle.ae_math.specs.Fractions.{ℚ, ratio, inverse_ℚ}
use Rattle.ae_core.specs.declared.terms.Op.TheVariants as op
use Rattle.ae_math.specs.Forms.{number as number_form, scale as scale_form}
use Rattle.ae_num.specs.Forms.{meaning, SameMeaning}
use Rattle.ae_num.specs.Limits.{FitsLimits}
use Rattle.ae_num.proofs.ReductionLaws.{read_back}
use Rattle.ae_rules.specs.Linear.{form, IsSame}
use Rattle.ae_store.specs.Shapes.{shapes}
use Rattle.ae_store.specs.Terms.{terms, named}
use Rattle.ae_store.proofs.EnterLaws.{front_same}
use Rattle.ae_just.specs.Sides.{joined, numeric}
use Rattle.ae_value_table.specs.Table.{number_at}
use Rattle.ae_take_in.specs.Inner.Operations.{IsGiven}
use Rattle.ae_take_in.specs.Widths.{of_quotient}
use Rattle.ae_take_in.proofs.Firsts.{some_numeral, numeral_numbers, fresh_no_numeral, apply_no_numeral}
use Rattle.ae_take_in.proofs.Numbers.{nonzero, quotient_is, by_numeral, by_zero, by_other}
use Rattle.ae_take_in.proofs.Passing.{wide_passed}
use Rattle.ae_take_in.proofs.products.quotient_of.Goals as goal

pub returns-then-top-eq0-clause-none : goal.returns-then-top-eq0-clause-none
returns-then-top-eq0-clause-none c = λ number.
    let s = c.args.store.now in
    let ts = terms (shapes s.nodes) in
    let zero : c.in-Num.top ≡ pos 0 = search rules in
    let u = some_numeral s.signature s.nodes c.len-len.ensures.store c.args.by c.node-divisor.result.now c.node-divisor.ensures.node c.in-Num.top c.in-Num.bottom c.in-Num.is in
    by_zero (meaning (number c.args.of)) (named ts c.args.by) c.in-Num.top c.in-Num.bottom u.0 u.1 zero

pub returns-then-top-eq0-clause-front : goal.returns-then-top-eq0-clause-front
returns-then-top-eq0-clause-front c = front_same c.args.justs.now

pub divided-requires-clause-of : goal.divided-requires-clause-of
divided-requires-clause-of c = c.requires.on.left

pub divided-requires-clause-top : goal.divided-requires-clause-top
divided-requires-clause-top c =
    let s = c.args.store.now in
    let some : c.in-Num.top ≢ pos 0 = search rules in
    let n = numeral_numbers s.signature s.nodes c.len-len.ensures.store c.args.by c.node-divisor.result.now c.node-divisor.ensures.node c.in-Num.top c.in-Num.bottom c.in-Num.is in
    λ e. some (sym (read_back c.in-Num.top n.top_within) ∙ e)

pub divided-requires-clause-bottom : goal.divided-requires-clause-bottom
divided-requires-clause-bottom c =
    let s = c.args.store.now in
    let n = numeral_numbers s.signature s.nodes c.len-len.ensures.store c.args.by c.node-divisor.result.now c.node-divisor.ensures.node c.in-Num.top c.in-Num.bottom c.in-Num.is in
    subst (λ (z : ℤ). pos 0 <ℤ z) (sym (read_back c.in-Num.bottom n.bottom_within)) n.positive

pub divided-requires-clause-top_within : goal.divided-requires-clause-top_within
divided-requires-clause-top_within c =
    let s = c.args.store.now in
    let n = numeral_numbers s.signature s.nodes c.len-len.ensures.store c.args.by c.node-divisor.result.now c.node-divisor.ensures.node c.in-Num.top c.in-Num.bottom c.in-Num.is in
    subst FitsLimits (sym (read_back c.in-Num.top n.top_within)) n.top_within

pub divided-requires-clause-bottom_within : goal.divided-requires-clause-bottom_within
divided-requires-clause-bottom_within c =
    let s = c.args.store.now in
    let n = numeral_numbers s.signature s.nodes c.len-len.ensures.store c.args.by c.node-divisor.result.now c.node-divisor.ensures.node c.in-Num.top c.in-Num.bottom c.in-Num.is in
    subst FitsLimits (sym (read_back c.in-Num.bottom n.bottom_within)) n.bottom_within

pub divided-requires-clause-is : goal.divided-requires-clause-is
divided-requires-clause-is c =
    let s = c.args.store.now in
    let ts = terms (shapes s.nodes) in
    let store = c.len-len.ensures.store in
    let some : c.in-Num.top ≢ pos 0 = search rules in
    let u = some_numeral s.signature s.nodes store c.args.by c.node-divisor.result.now c.node-divisor.ensures.node c.in-Num.top c.in-Num.bottom c.in-Num.is in
    let n = numeral_numbers s.signature s.nodes store c.args.by c.node-divisor.result.now c.node-divisor.ensures.node c.in-Num.top c.in-Num.bottom c.in-Num.is in
    subst (λ (y : ℚ). IsSame (form (named ts c.args.name)) (scale_form (inverse_ℚ y) (form (named ts c.args.of))))
    (λ j. ratio (sym (read_back c.in-Num.top n.top_within) j) (sym (read_back c.in-Num.bottom n.bottom_within) j))
    (quotient_is (named ts c.args.name) (named ts c.args.of) (named ts c.args.by) c.in-Num.top c.in-Num.bottom u.0 (subst (λ (b : Bool). named ts c.args.name ≡ joined (numeric b op.Div) [] (named ts c.args.of) (named ts c.args.by)) c.requires.real c.requires.on.is)
    u.1 (nonzero c.in-Num.top c.in-Num.bottom some n.positive))

pub returns-in_ok-quotient-in-Num-clause-some : goal.returns-in_ok-quotient-in-Num-clause-some
returns-in_ok-quotient-in-Num-clause-some c =
    let s = c.args.store.now in
    let ts = terms (shapes s.nodes) in
    let v = c.args.values.now in
    let store = c.len-len.ensures.store in
    let some : c.in-Num.top ≢ pos 0 = search rules in
    let u = some_numeral s.signature s.nodes store c.args.by c.node-divisor.result.now c.node-divisor.ensures.node c.in-Num.top c.in-Num.bottom c.in-Num.is in
    let n = numeral_numbers s.signature s.nodes store c.args.by c.node-divisor.result.now c.node-divisor.ensures.node c.in-Num.top c.in-Num.bottom c.in-Num.is in
    record {
      form = scale_form (inverse_ℚ (ratio c.in-Num.top c.in-Num.bottom)) (meaning (number_at v c.args.of));
      is = by_numeral (meaning (number_at v c.args.of)) (named ts c.args.by) c.in-Num.top c.in-Num.bottom u.0 u.1 (nonzero c.in-Num.top c.in-Num.bottom some n.positive);
      given =
          subst (λ (y : ℚ). IsGiven s.signature ts c.args.justs.now c.divided.new.justs v c.args.real c.args.name (scale_form (inverse_ℚ y) (meaning (number_at v c.args.of))) c.in_ok-quotient-in-Num.quotient)
          (λ j. ratio (read_back c.in-Num.top n.top_within j) (read_back c.in-Num.bottom n.bottom_within j)) c.in_ok-quotient-in-Num.ensures.given;
    }

pub returns-in_err-quotient-in-Num-clause-wide : goal.returns-in_err-quotient-in-Num-clause-wide
returns-in_err-quotient-in-Num-clause-wide c =
    let s = c.args.store.now in
    let ts = terms (shapes s.nodes) in
    let v = c.args.values.now in
    let store = c.len-len.ensures.store in
    let some : c.in-Num.top ≢ pos 0 = search rules in
    let u = some_numeral s.signature s.nodes store c.args.by c.node-divisor.result.now c.node-divisor.ensures.node c.in-Num.top c.in-Num.bottom c.in-Num.is in
    let n = numeral_numbers s.signature s.nodes store c.args.by c.node-divisor.result.now c.node-divisor.ensures.node c.in-Num.top c.in-Num.bottom c.in-Num.is in
    wide_passed c.from_residual.result c.in_err-quotient-in-Num.field-0.0 c.from_residual.ensures.1
    (λ w i. of_quotient c.args.of c.args.by c.in-Num.top c.in-Num.bottom u.0
    (subst (λ (b : Bool). named ts c.args.name ≡ joined (numeric b op.Div) [] (named ts c.args.of) (named ts c.args.by)) c.requires.real c.requires.on.is) u.1 (nonzero c.in-Num.top c.in-Num.bottom some n.positive)
    (subst (λ (y : ℚ). SameMeaning (meaning w.right) (number_form (inverse_ℚ y))) (λ j. ratio (read_back c.in-Num.top n.top_within j) (read_back c.in-Num.bottom n.bottom_within j)) i.1) i.0)
    c.in_err-quotient-in-Num.ensures.wide

pub returns-in-Of-clause-none : goal.returns-in-Of-clause-none
returns-in-Of-clause-none c = λ number.
    let s = c.args.store.now in
    let ts = terms (shapes s.nodes) in
    by_other (meaning (number c.args.of)) (named ts c.args.by) (λ a b r. apply_no_numeral s.signature s.nodes c.len-len.ensures.store c.args.by c.node-divisor.result.now c.node-divisor.ensures.node c.in-Of.field-0 c.in-Of.is a b r)

pub returns-in-Of-clause-front : goal.returns-in-Of-clause-front
returns-in-Of-clause-front c = front_same c.args.justs.now

pub returns-in-Fresh-clause-none : goal.returns-in-Fresh-clause-none
returns-in-Fresh-clause-none c = λ number.
    let s = c.args.store.now in
    let ts = terms (shapes s.nodes) in
    by_other (meaning (number c.args.of)) (named ts c.args.by) (λ a b r. fresh_no_numeral s.signature s.nodes c.len-len.ensures.store c.args.by c.node-divisor.result.now c.node-divisor.ensures.node c.in-Fresh.field-0 c.in-Fresh.is a b r)

pub returns-in-Fresh-clause-front : goal.returns-in-Fresh-clause-front
returns-in-Fresh-clause-front c = front_same c.args.justs.now
