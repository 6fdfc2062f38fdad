use Rattle.std.specs.Prelude.{◌≡◌, Some, None, OnOk, IfErr}
use Rattle.std.proofs.Common.{subst, sym, ap, ◌∙◌, refl}
use Rattle.ae_math.specs.Forms.{plus}
use Rattle.ae_num.specs.declared.forms.Lin.{Lin}
use Rattle.ae_num.specs.declared.sums.Combination.{Combination}
use Rattle.ae_num.specs.declared.sums.Combination.TheVariants.{Sum}
use Rattle.ae_num.specs.Forms.{meaning, SameMeaning, IsNormal, first_wide, IfWide, lowest, sum_of, Reduced}
use Rattle.ae_num.specs.Inner.Reduction.{whole_of, whole_steps}
use Rattle.std.proofs.lemmas.Result.{IfOk-weaker}
use Rattle.ae_base.proofs.Results.{if_ok_both}
use Rattle.ae_num.proofs.MeaningLaws.{plus_means}
use Rattle.ae_num.proofs.WholeLaws.{plus_stated}
use Rattle.ae_num.proofs.LowestLaws.{sum_made}
use Rattle.ae_num.proofs.forms.plus.Goals as goal

pub returns-clause-exact : goal.returns-clause-exact
returns-clause-exact c =
    let p = c.args.left.now in
    let q = c.args.right.now in
    if_ok_both c.made.result (Reduced (whole_of c.sum_rule.result p q)) IsNormal (λ f. SameMeaning (meaning f) (plus (meaning p) (meaning q)))
    (λ (f : Lin) r n. plus_means p q (whole_of (Sum q.den p.den) p q) f refl (subst (λ (m : Combination). Reduced (whole_of m p q) f) c.sum_rule.ensures r) n c.requires.left c.requires.right)
    c.made.ensures.exact c.made.ensures.normal

pub returns-clause-form : goal.returns-clause-form
returns-clause-form c =
    let p = c.args.left.now in
    let q = c.args.right.now in
    IfOk-weaker c.made.result (λ f. f ≡ lowest (whole_of c.sum_rule.result p q)) (λ f. f ≡ sum_of p q)
    (λ (f : Lin) e. e ∙ ap (λ m. lowest (whole_of m p q)) c.sum_rule.ensures ∙ sum_made p q) c.made.ensures.form

pub returns-clause-fits : goal.returns-clause-fits
returns-clause-fits c =
    let p = c.args.left.now in
    let q = c.args.right.now in
    subst (λ t. OnOk c.made.result (first_wide t ≡ None)) (ap (λ m. whole_steps m p q) c.sum_rule.ensures ∙ sym (plus_stated p q)) c.made.ensures.fits

pub returns-clause-wide : goal.returns-clause-wide
returns-clause-wide c =
    let p = c.args.left.now in
    let q = c.args.right.now in
    subst (λ t. IfErr c.made.result (λ fail. IfWide fail (λ w. first_wide t ≡ Some w))) (ap (λ m. whole_steps m p q) c.sum_rule.ensures ∙ sym (plus_stated p q)) c.made.ensures.wide
