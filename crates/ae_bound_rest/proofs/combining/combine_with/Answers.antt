use Rattle.std.specs.Prelude.{◌≡◌, Err}
use Rattle.std.proofs.Common.{ap, refl, inl, inr}
use Rattle.std.proofs.lemmas.Result.{err_from_is_err_and}
use Rattle.ae_theory.specs.declared.theory.Fail.TheVariants.{Number}
use Rattle.ae_bound_rest.proofs.Counting.{grown_on, standing_grown, with_done}
use Rattle.ae_bound_rest.proofs.combining.combine_with.Goals as goal

pub returns-in_err-combine_two-clause-grown : goal.returns-in_err-combine_two-clause-grown
returns-in_err-combine_two-clause-grown c = λ a b. c.combine_two.ensures.grown a (b c.args.high.now.own (inl refl))

pub returns-in_err-combine_two-clause-number : goal.returns-in_err-combine_two-clause-number
returns-in_err-combine_two-clause-number c = λ w e a b.
    let p = err_from_is_err_and c.from_residual.result c.from_residual.ensures.1 in
    let failed : c.in_err-combine_two.field-0.0 ≡ Number w = (let g = p.1 in let h = p.2 in cc) in
    c.in_err-combine_two.ensures.number w (ap Err failed) a (b c.args.high.now.own (inl refl))

pub combine_two-requires-in-Some-clause-upper : goal.combine_two-requires-in-Some-clause-upper
combine_two-requires-in-Some-clause-upper c = c.requires.upper.rounded c.in-Some.rounded c.in-Some.is

pub returns-in-Some-clause-done : goal.returns-in-Some-clause-done
returns-in-Some-clause-done c =
    with_done c.combine_two-in-Some.result c.args.low.now c.in-Some.rounded c.args.high.now c.combine_two.new.sure c.combine_two-in-Some.new.sure c.combine_two-in-Some.ensures.keeps c.in_ok-combine_two.ensures.done c.in-Some.is
    c.combine_two-in-Some.ensures.done

pub returns-in-Some-clause-grown : goal.returns-in-Some-clause-grown
returns-in-Some-clause-grown c = λ a b.
    let one = c.combine_two.ensures.grown a (b c.args.high.now.own (inl refl)) in
    let still = standing_grown c.args.sure.now c.args.journal.now.lines c.combine_two.new.sure c.combine_two.new.journal.lines one in
    grown_on c.args.sure.now c.args.journal.now.lines c.combine_two.new.sure c.combine_two.new.journal.lines c.combine_two-in-Some.new.sure c.combine_two-in-Some.new.journal.lines one
    (c.combine_two-in-Some.ensures.grown (still c.args.low.now a) (still c.in-Some.rounded (b c.in-Some.rounded (inr c.in-Some.is))))

pub returns-in-Some-clause-number : goal.returns-in-Some-clause-number
returns-in-Some-clause-number c = λ w e a b.
    let one = c.combine_two.ensures.grown a (b c.args.high.now.own (inl refl)) in
    let still = standing_grown c.args.sure.now c.args.journal.now.lines c.combine_two.new.sure c.combine_two.new.journal.lines one in
    c.combine_two-in-Some.ensures.number w e (still c.args.low.now a) (still c.in-Some.rounded (b c.in-Some.rounded (inr c.in-Some.is)))

pub returns-in-None-clause-grown : goal.returns-in-None-clause-grown
returns-in-None-clause-grown c = λ a b. c.combine_two.ensures.grown a (b c.args.high.now.own (inl refl))
