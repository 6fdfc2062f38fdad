use Rattle.std.proofs.Common.{◌∙◌, suc, length}
use Rattle.ae_num.proofs.Rests.{minus_one_ratio}
use Rattle.ae_rules.specs.Linear.{form}
use Rattle.ae_naturals.specs.Fractions.{value_of}
use Rattle.ae_store.specs.Terms.{named}
use Rattle.ae_constants.specs.Forms.{meaning}
use Rattle.ae_constants.proofs.ExactLaws.{minus_exact}
use Rattle.ae_constants.proofs.TableLaws.{form_at}
use Rattle.ae_constants.proofs.table.difference.Goals as goal

pub returns : goal.returns
returns c =
    let fs = c.args.earlier.now in
    let n = suc (length fs) in
    λ ts e.
    minus_exact ts n (form (named ts c.args.left)) (form (named ts c.args.right)) (value_of c.in_ok-minus_one.minus_one) (meaning c.in_ok-difference.difference) (c.in_ok-minus_one.ensures ∙ minus_one_ratio)
    (c.in_ok-difference.ensures ts n (form (named ts c.args.left)) (form (named ts c.args.right)) (form_at ts fs c.args.left _ _ e c.requires.left c.index-earlier-left.is) (form_at ts fs c.args.right _ _ e c.requires.right c.index-earlier-right.is))
