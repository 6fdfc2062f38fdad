use Rattle.std.specs.Prelude.{Option, IfSome}
use Rattle.std.proofs.Common.{ap, ◌∙◌, subst}
use Rattle.std.proofs.lemmas.Result.{on_ok_weaker}
use Rattle.ae_num.specs.Forms.{meaning}
use Rattle.ae_bounds.specs.declared.rows.Row.{Row}
use Rattle.ae_bounds.specs.Combinations.{IsThere}
use Rattle.ae_bound_rest.specs.Rest.{IsRoundingOf}
use Rattle.ae_bound_rest.specs.Rest.IsGrown.{as_it_was}
use Rattle.ae_bound_rest.proofs.Counting.{grown_on, made_grown, rounding_there}
use Rattle.ae_bound_rest.proofs.combining.note_both.Goals as goal

pub returns-in_err-rounded-clause-grown : goal.returns-in_err-rounded-clause-grown
returns-in_err-rounded-clause-grown c = λ m k. as_it_was

pub note_one-requires-in-Some-clause-counts : goal.note_one-requires-in-Some-clause-counts
note_one-requires-in-Some-clause-counts c =
    let is : IsRoundingOf c.args.row c.in-Some.form = subst (λ (o : Option Row). IfSome o (IsRoundingOf c.args.row)) c.in-Some.is c.in_ok-rounded.ensures.some in
    ap (λ (y : Row). y.counts) is.own ∙ c.requires.counts

pub returns-in-Some-clause-there : goal.returns-in-Some-clause-there
returns-in-Some-clause-there c =
    on_ok_weaker c.note_one-in-Some.result (λ (t : IsThere c.note_one-in-Some.new.sure (meaning c.in-Some.form.lin)). c.note_one-in-Some.ensures.keeps (meaning c.args.row.lin) c.in_ok-note_one.ensures.there) c.note_one-in-Some.ensures.there

pub returns-in-Some-clause-rounded : goal.returns-in-Some-clause-rounded
returns-in-Some-clause-rounded c =
    rounding_there c.note_one-in-Some.new.sure c.args.row c.in-Some.form c.note_one-in-Some.result c.requires.normal
    (subst (λ (o : Option Row). IfSome o (IsRoundingOf c.args.row)) c.in-Some.is c.in_ok-rounded.ensures.some) c.note_one-in-Some.ensures.there

pub returns-in-Some-clause-grown : goal.returns-in-Some-clause-grown
returns-in-Some-clause-grown c = λ m k.
    let one = c.note_one.ensures.grown m in
    let is : IsRoundingOf c.args.row c.in-Some.form = subst (λ (o : Option Row). IfSome o (IsRoundingOf c.args.row)) c.in-Some.is c.in_ok-rounded.ensures.some in
    grown_on c.args.sure.now c.args.journal.now.lines c.note_one.new.sure c.note_one.new.journal.lines c.note_one-in-Some.new.sure c.note_one-in-Some.new.journal.lines one
    (c.note_one-in-Some.ensures.grown (made_grown c.args.sure.now c.args.journal.now.lines c.note_one.new.sure c.note_one.new.journal.lines one c.in-Some.form (k c.in-Some.form is)))
