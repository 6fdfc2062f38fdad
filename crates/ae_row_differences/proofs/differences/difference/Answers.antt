use Rattle.ae_theory.specs.declared.theory.Fail.TheVariants.{Number}
use Rattle.ae_num.specs.Forms.{meaning}
use Rattle.ae_first_values.proofs.Limits.{sum_within, difference_within, difference_means}
use Rattle.ae_row_differences.proofs.DifferenceWidths.{difference_wide, this_refusal}
use Rattle.ae_row_differences.proofs.differences.difference.Goals as goal

pub returns-in-Ok-clause-means : goal.returns-in-Ok-clause-means
returns-in-Ok-clause-means c =
    difference_means (meaning c.args.upper.now) (meaning c.in_ok-negated.negated) (meaning c.args.lower.now) (meaning c.in-Ok.form) c.in-Ok.ensures.exact c.in_ok-negated.ensures.meaning

pub returns-in-Ok-clause-within : goal.returns-in-Ok-clause-within
returns-in-Ok-clause-within c =
    difference_within c.multiples_are_over_the_product.ensures c.args.upper.now c.args.lower.now c.in_ok-negated.negated c.requires.upper c.requires.lower c.in_ok-negated.ensures.normal c.in_ok-negated.ensures.meaning
    (sum_within c.args.upper.now c.in_ok-negated.negated c.in-Ok.ensures.fits)

pub returns-in-Err-clause-number : goal.returns-in-Err-clause-number
returns-in-Err-clause-number c w e =
    difference_wide c.args.upper.now c.args.lower.now c.in_ok-negated.negated w c.requires.lower
    (record { normal = c.in_ok-negated.ensures.normal; form = c.in_ok-negated.ensures.form; means = c.in_ok-negated.ensures.meaning }) (c.refused.ensures.number w (this_refusal c.refused.result (Number w) e))
