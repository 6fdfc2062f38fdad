use Rattle.ae_num.specs.Forms.{meaning}
use Rattle.ae_first_values.proofs.Limits.{sum_within, difference_within, difference_means}
use Rattle.ae_number_solving.proofs.SumWidths.{if_number, difference_wide}
use Rattle.ae_number_solving.proofs.differences.difference_of.Goals as goal

pub returns-in-Ok-clause-means : goal.returns-in-Ok-clause-means
returns-in-Ok-clause-means c =
    difference_means (meaning c.args.left.now) (meaning c.in_ok-negated.negated) (meaning c.args.right.now) (meaning c.in-Ok.form) c.in-Ok.ensures.exact c.in_ok-negated.ensures.meaning

pub returns-in-Ok-clause-within : goal.returns-in-Ok-clause-within
returns-in-Ok-clause-within c =
    difference_within c.multiples_are_over_the_product.ensures c.args.left.now c.args.right.now c.in_ok-negated.negated c.requires.left c.requires.right c.in_ok-negated.ensures.normal c.in_ok-negated.ensures.meaning
    (sum_within c.args.left.now c.in_ok-negated.negated c.in-Ok.ensures.fits)

pub returns-in-Err-clause-wide : goal.returns-in-Err-clause-wide
returns-in-Err-clause-wide c =
    if_number c.difference_refused.result
    (λ w h. difference_wide c.args.left.now c.args.right.now c.in_ok-negated.negated w c.requires.right c.in_ok-negated.ensures.normal c.in_ok-negated.ensures.form c.in_ok-negated.ensures.meaning h) c.difference_refused.ensures
