use Rattle.std.specs.Prelude.{◌≡◌, Bool, Err}
use Rattle.std.proofs.Common.{ap, ◌∙◌, subst}
use Rattle.std.proofs.lemmas.Result.{err_from_is_err_and}
use Rattle.ae_theory.specs.declared.theory.Fail.TheVariants.{Number}
use Rattle.ae_bounds.specs.Rounding.{IsRowOf}
use Rattle.ae_bounds.proofs.Made.{first_normal, second_normal, wide_in, combined_in, made_of, not_opposed}
use Rattle.ae_bounds.proofs.bounds.made.Goals as goal

pub combined-requires-clause-lower : goal.combined-requires-clause-lower
combined-requires-clause-lower c =
    first_normal c.args.rows.now c.args.lower c.args.upper c.index-rows-lower.result c.index-rows-upper.result c.requires.normal c.requires.lower c.requires.upper c.index-rows-lower.is c.index-rows-upper.is

pub combined-requires-clause-upper : goal.combined-requires-clause-upper
combined-requires-clause-upper c =
    second_normal c.args.rows.now c.args.lower c.args.upper c.index-rows-lower.result c.index-rows-upper.result c.requires.normal c.requires.lower c.requires.upper c.index-rows-lower.is c.index-rows-upper.is

pub returns-in_err-lin-in-Some-clause-number : goal.returns-in_err-lin-in-Some-clause-number
returns-in_err-lin-in-Some-clause-number c = λ w e.
    let p = err_from_is_err_and c.from_residual.result c.from_residual.ensures.1 in
    let failed : c.in_err-lin-in-Some.field-0.0 ≡ Number w = (let a = p.1 in let b = p.2 in cc) in
    wide_in c.args.rows.now c.args.lower c.args.upper c.index-rows-lower.result c.index-rows-upper.result c.requires.normal c.requires.lower c.requires.upper c.index-rows-lower.is c.index-rows-upper.is
    c.in-Some.at w c.in-Some.ensures.some (c.in_err-lin-in-Some.ensures.number w (ap Err failed))

pub returns-in_ok-row-in-Some-clause-some : goal.returns-in_ok-row-in-Some-clause-some
returns-in_ok-row-in-Some-clause-some c =
    combined_in c.args.rows.now c.args.lower c.args.upper c.index-rows-lower.result c.index-rows-upper.result c.requires.normal c.requires.lower c.requires.upper c.index-rows-lower.is c.index-rows-upper.is
    c.in-Some.at c.in_ok-row-in-Some.row c.in-Some.ensures.some c.in_ok-row-in-Some.ensures.from
    (record {
      form = c.in_ok-lin-in-Some.lin;
      form_normal = c.in_ok-lin-in-Some.ensures.normal;
      same = c.in_ok-lin-in-Some.ensures.exact;
      sort = c.in_ok-row-in-Some.ensures.integral ∙ c.both_integral-integral.ensures;
      of = subst (λ (s : Bool). IsRowOf c.in_ok-lin-in-Some.lin s c.in_ok-row-in-Some.row) c.one_strict-strict.ensures c.in_ok-row-in-Some.ensures.row;
      normal = c.in_ok-row-in-Some.ensures.normal;
    })
    c.in_ok-lin-in-Some.ensures.fits

pub returns-in_ok-row-in-Some-clause-pair : goal.returns-in_ok-row-in-Some-clause-pair
returns-in_ok-row-in-Some-clause-pair c =
    made_of c.args.rows.now c.args.lower c.args.upper c.index-rows-lower.result c.index-rows-upper.result c.requires.normal c.requires.lower c.requires.upper c.index-rows-lower.is c.index-rows-upper.is
    c.in-Some.at c.in_ok-row-in-Some.row c.in-Some.ensures.some
    (record {
      form = c.in_ok-lin-in-Some.lin;
      form_normal = c.in_ok-lin-in-Some.ensures.normal;
      same = c.in_ok-lin-in-Some.ensures.exact;
      sort = c.in_ok-row-in-Some.ensures.integral ∙ c.both_integral-integral.ensures;
      of = subst (λ (s : Bool). IsRowOf c.in_ok-lin-in-Some.lin s c.in_ok-row-in-Some.row) c.one_strict-strict.ensures c.in_ok-row-in-Some.ensures.row;
      normal = c.in_ok-row-in-Some.ensures.normal;
    })

pub returns-in-None-clause-none : goal.returns-in-None-clause-none
returns-in-None-clause-none c = λ s t u f g h.
    absurd (not_opposed c.args.rows.now c.args.lower c.args.upper c.index-rows-lower.result c.index-rows-upper.result c.requires.normal c.requires.lower c.requires.upper c.index-rows-lower.is c.index-rows-upper.is
    c.in-None.ensures.none s t u f g h)
