use Rattle.std.specs.Prelude.{◌≡◌, true, Err}
use Rattle.std.proofs.Common.{ap, ◌∙◌, refl, inl}
use Rattle.std.proofs.lemmas.Result.{err_from_is_err_and}
use Rattle.ae_theory.specs.declared.theory.Fail.TheVariants.{Number}
use Rattle.ae_bound_rest.specs.Rest.{plain}
use Rattle.ae_bound_rest.specs.Rest.IsGrown.{as_it_was}
use Rattle.ae_bound_rest.proofs.Counting.{wide_of, form_made, rounding_form, done_form}
use Rattle.ae_bound_rest.proofs.Pairing.{none_opposed}
use Rattle.ae_bound_rest.proofs.combining.combine_two.Goals as goal

pub returns-in_err-lin-in-Some-clause-grown : goal.returns-in_err-lin-in-Some-clause-grown
returns-in_err-lin-in-Some-clause-grown c = λ a b. as_it_was

pub returns-in_err-lin-in-Some-clause-number : goal.returns-in_err-lin-in-Some-clause-number
returns-in_err-lin-in-Some-clause-number c = λ w e a b.
    let p = err_from_is_err_and c.from_residual.result c.from_residual.ensures.1 in
    let failed : c.in_err-lin-in-Some.field-0.0 ≡ Number w = (let g = p.1 in let h = p.2 in cc) in
    wide_of c.args.sure.now c.args.low.now c.args.high.now c.requires.lower c.requires.upper c.in-Some.at c.in-Some.ensures.some w a b (c.in_err-lin-in-Some.ensures.number w (ap Err failed))

pub returns-in_ok-lin-in-Some-clause-done : goal.returns-in_ok-lin-in-Some-clause-done
returns-in_ok-lin-in-Some-clause-done c =
    done_form c.note_both.new.sure c.args.low.now c.args.high.now c.requires.lower c.requires.upper c.in-Some.at c.in-Some.ensures.some c.in_ok-lin-in-Some.lin c.plain-row.result
    (c.plain-row.ensures ∙ (λ i. plain c.in_ok-lin-in-Some.lin (c.one_strict-strict.ensures i) (c.both_integral-integral.ensures i) true)) c.in_ok-lin-in-Some.ensures.normal c.in_ok-lin-in-Some.ensures.exact
    c.note_both.result c.note_both.ensures.there c.note_both.ensures.rounded

pub returns-in_ok-lin-in-Some-clause-grown : goal.returns-in_ok-lin-in-Some-clause-grown
returns-in_ok-lin-in-Some-clause-grown c = λ a b.
    let is = c.plain-row.ensures ∙ (λ i. plain c.in_ok-lin-in-Some.lin (c.one_strict-strict.ensures i) (c.both_integral-integral.ensures i) true) in
    let made = form_made c.args.sure.now c.args.low.now c.args.high.now c.requires.lower c.requires.upper c.in-Some.at c.in-Some.ensures.some c.in_ok-lin-in-Some.lin c.plain-row.result is c.in_ok-lin-in-Some.ensures.normal
    c.in_ok-lin-in-Some.ensures.exact in
    c.note_both.ensures.grown (made c.plain-row.result (inl is) a b)
    (λ r h. made r (rounding_form c.args.sure.now c.args.low.now c.args.high.now c.requires.lower c.requires.upper c.in-Some.at c.in-Some.ensures.some c.in_ok-lin-in-Some.lin c.plain-row.result is c.in_ok-lin-in-Some.ensures.normal
    c.in_ok-lin-in-Some.ensures.exact r h) a b)

pub returns-in-None-clause-done : goal.returns-in-None-clause-done
returns-in-None-clause-done c = λ n low up.
    absurd (none_opposed c.args.low.now c.args.high.now c.args.low.now c.args.high.now c.requires.lower c.requires.upper c.in-None.ensures.none (inl refl) (inl refl) n low up)

pub returns-in-None-clause-grown : goal.returns-in-None-clause-grown
returns-in-None-clause-grown c = λ a b. as_it_was
