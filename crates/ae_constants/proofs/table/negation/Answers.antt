use Rattle.std.proofs.Common.{◌∙◌, subst, suc, length}
use Rattle.ae_math.specs.Forms.{scale}
use Rattle.ae_num.proofs.Rests.{minus_one_ratio}
use Rattle.ae_rules.specs.Linear.{form}
use Rattle.ae_store.specs.Terms.{named}
use Rattle.ae_constants.specs.Forms.{meaning, IsExact}
use Rattle.ae_constants.proofs.TableLaws.{form_at}
use Rattle.ae_constants.proofs.table.negation.Goals as goal

pub returns : goal.returns
returns c =
    let fs = c.args.earlier.now in
    let n = suc (length fs) in
    λ ts e.
    subst (λ x. IsExact ts n (scale x (form (named ts c.args.of))) (meaning c.in_ok-negation.negation)) (c.in_ok-minus_one.ensures ∙ minus_one_ratio)
    (c.in_ok-negation.ensures ts n (form (named ts c.args.of)) (form_at ts fs c.args.of _ _ e c.requires c.index-earlier-of.is))
