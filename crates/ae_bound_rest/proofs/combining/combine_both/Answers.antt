use Rattle.std.specs.Prelude.{◌≡◌, Err}
use Rattle.std.proofs.Common.{ap, refl, inl, inr}
use Rattle.std.proofs.lemmas.Result.{err_from_is_err_and}
use Rattle.ae_theory.specs.declared.theory.Fail.TheVariants.{Number}
use Rattle.ae_bound_rest.proofs.Counting.{grown_on, standing_grown, both_done}
use Rattle.ae_bound_rest.proofs.combining.combine_both.Goals as goal

pub returns-in_err-combine_with-clause-grown : goal.returns-in_err-combine_with-clause-grown
returns-in_err-combine_with-clause-grown c = λ a b. c.combine_with.ensures.grown (a c.args.low.now.own (inl refl)) b

pub returns-in_err-combine_with-clause-number : goal.returns-in_err-combine_with-clause-number
returns-in_err-combine_with-clause-number c = λ w e a b.
    let p = err_from_is_err_and c.from_residual.result c.from_residual.ensures.1 in
    let failed : c.in_err-combine_with.field-0.0 ≡ Number w = (let g = p.1 in let h = p.2 in cc) in
    c.in_err-combine_with.ensures.number w (ap Err failed) (a c.args.low.now.own (inl refl)) b

pub combine_with-requires-in-Some-clause-lower : goal.combine_with-requires-in-Some-clause-lower
combine_with-requires-in-Some-clause-lower c = c.requires.lower.rounded c.in-Some.rounded c.in-Some.is

pub returns-in-Some-clause-done : goal.returns-in-Some-clause-done
returns-in-Some-clause-done c =
    both_done c.combine_with-in-Some.result c.in-Some.rounded c.args.low.now c.args.high.now c.combine_with.new.sure c.combine_with-in-Some.new.sure c.combine_with-in-Some.ensures.keeps c.in_ok-combine_with.ensures.done c.in-Some.is
    c.combine_with-in-Some.ensures.done

pub returns-in-Some-clause-grown : goal.returns-in-Some-clause-grown
returns-in-Some-clause-grown c = λ a b.
    let one = c.combine_with.ensures.grown (a c.args.low.now.own (inl refl)) b in
    let still = standing_grown c.args.sure.now c.args.journal.now.lines c.combine_with.new.sure c.combine_with.new.journal.lines one in
    grown_on c.args.sure.now c.args.journal.now.lines c.combine_with.new.sure c.combine_with.new.journal.lines c.combine_with-in-Some.new.sure c.combine_with-in-Some.new.journal.lines one
    (c.combine_with-in-Some.ensures.grown (still c.in-Some.rounded (a c.in-Some.rounded (inr c.in-Some.is))) (λ q o. still q (b q o)))

pub returns-in-Some-clause-number : goal.returns-in-Some-clause-number
returns-in-Some-clause-number c = λ w e a b.
    let one = c.combine_with.ensures.grown (a c.args.low.now.own (inl refl)) b in
    let still = standing_grown c.args.sure.now c.args.journal.now.lines c.combine_with.new.sure c.combine_with.new.journal.lines one in
    c.combine_with-in-Some.ensures.number w e (still c.in-Some.rounded (a c.in-Some.rounded (inr c.in-Some.is))) (λ q o. still q (b q o))

pub returns-in-None-clause-grown : goal.returns-in-None-clause-grown
returns-in-None-clause-grown c = λ a b. c.combine_with.ensures.grown (a c.args.low.now.own (inl refl)) b
