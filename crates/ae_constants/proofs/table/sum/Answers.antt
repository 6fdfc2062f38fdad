use Rattle.std.proofs.Common.{◌∙◌, suc, length}
use Rattle.ae_rules.specs.Linear.{form}
use Rattle.ae_naturals.specs.Fractions.{value_of}
use Rattle.ae_store.specs.Terms.{named}
use Rattle.ae_constants.specs.Forms.{meaning}
use Rattle.ae_constants.proofs.ExactLaws.{one_ratio, plus_exact}
use Rattle.ae_constants.proofs.TableLaws.{form_at}
use Rattle.ae_constants.proofs.table.sum.Goals as goal

pub returns : goal.returns
returns c =
    let fs = c.args.earlier.now in
    let n = suc (length fs) in
    λ ts e.
    plus_exact ts n (form (named ts c.args.left)) (form (named ts c.args.right)) (value_of c.in_ok-one.one) (meaning c.in_ok-sum.sum) (c.in_ok-one.ensures ∙ one_ratio)
    (c.in_ok-sum.ensures ts n (form (named ts c.args.left)) (form (named ts c.args.right)) (form_at ts fs c.args.left _ _ e c.requires.left c.index-earlier-left.is) (form_at ts fs c.args.right _ _ e c.requires.right c.index-earlier-right.is))
