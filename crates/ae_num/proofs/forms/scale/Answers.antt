use Rattle.std.specs.Prelude.{◌≡◌, Some, None, OnOk, IfErr, pos, [], ◌<ℤ◌}
use Rattle.std.proofs.Common.{subst, sym, ap, ◌∙◌, refl}
use Rattle.std.proofs.lemmas.Int.{to_z-of_z}
use mir.Syntax.{w128}
use Rattle.ae_math.specs.Fractions.{ratio}
use Rattle.ae_math.specs.Forms.{scale}
use Rattle.ae_num.specs.declared.forms.Lin.{Lin}
use Rattle.ae_num.specs.declared.sums.Combination.{Combination}
use Rattle.ae_num.specs.declared.sums.Combination.TheVariants.{Multiple}
use Rattle.ae_num.specs.Forms.{meaning, SameMeaning, IsNormal, IsRising, first_wide, IfWide, lowest, multiple_of, Reduced}
use Rattle.ae_num.specs.Inner.Reduction.{whole_of, whole_steps}
use Rattle.std.proofs.lemmas.Result.{IfOk-weaker}
use Rattle.ae_base.proofs.Results.{if_ok_both}
use Rattle.ae_num.proofs.MeaningLaws.{scale_means}
use Rattle.ae_num.proofs.WholeLaws.{scale_stated}
use Rattle.ae_num.proofs.LowestLaws.{multiple_made}
use Rattle.ae_num.proofs.forms.scale.Goals as goal

pub returns-clause-exact : goal.returns-clause-exact
returns-clause-exact c =
    let p = c.args.of.now in
    let rule : c.product_rule.result ≡ Multiple c.args.top = c.product_rule.ensures ∙ ap Multiple (to_z-of_z w128 c.args.top c.ranges.top) in
    let over : c.zero_over-divisor.result ≡ record { den = c.args.bottom; parts = []; constant = pos 0 } = c.zero_over-divisor.ensures ∙ ap (λ d. record { den = d; parts = []; constant = pos 0 }) (to_z-of_z w128 c.args.bottom c.ranges.bottom) in
    if_ok_both c.made.result (Reduced (whole_of c.product_rule.result p c.zero_over-divisor.result)) IsNormal (λ f. SameMeaning (meaning f) (scale (ratio c.args.top c.args.bottom) (meaning p)))
    (λ (f : Lin) r n. scale_means c.args.top c.args.bottom p (whole_of (Multiple c.args.top) p (record { den = c.args.bottom; parts = []; constant = pos 0 })) f refl
    (subst (λ (q : Lin). Reduced (whole_of (Multiple c.args.top) p q) f) over (subst (λ (m : Combination). Reduced (whole_of m p c.zero_over-divisor.result) f) rule r)) n c.requires.of c.requires.bottom)
    c.made.ensures.exact c.made.ensures.normal

pub returns-clause-form : goal.returns-clause-form
returns-clause-form c =
    let p = c.args.of.now in
    let rule : c.product_rule.result ≡ Multiple c.args.top = c.product_rule.ensures ∙ ap Multiple (to_z-of_z w128 c.args.top c.ranges.top) in
    let over : c.zero_over-divisor.result ≡ record { den = c.args.bottom; parts = []; constant = pos 0 } = c.zero_over-divisor.ensures ∙ ap (λ d. record { den = d; parts = []; constant = pos 0 }) (to_z-of_z w128 c.args.bottom c.ranges.bottom) in
    IfOk-weaker c.made.result (λ f. f ≡ lowest (whole_of c.product_rule.result p c.zero_over-divisor.result)) (λ f. f ≡ multiple_of c.args.top c.args.bottom p)
    (λ (f : Lin) e. e ∙ (λ i. lowest (whole_of (rule i) p (over i))) ∙ multiple_made c.args.top c.args.bottom p) c.made.ensures.form

pub returns-clause-fits : goal.returns-clause-fits
returns-clause-fits c =
    let p = c.args.of.now in
    let rule : c.product_rule.result ≡ Multiple c.args.top = c.product_rule.ensures ∙ ap Multiple (to_z-of_z w128 c.args.top c.ranges.top) in
    let over : c.zero_over-divisor.result ≡ record { den = c.args.bottom; parts = []; constant = pos 0 } = c.zero_over-divisor.ensures ∙ ap (λ d. record { den = d; parts = []; constant = pos 0 }) (to_z-of_z w128 c.args.bottom c.ranges.bottom) in
    subst (λ t. OnOk c.made.result (first_wide t ≡ None)) ((λ i. whole_steps (rule i) p (over i)) ∙ sym (scale_stated c.args.top c.args.bottom p c.requires.of.rising)) c.made.ensures.fits

pub returns-clause-wide : goal.returns-clause-wide
returns-clause-wide c =
    let p = c.args.of.now in
    let rule : c.product_rule.result ≡ Multiple c.args.top = c.product_rule.ensures ∙ ap Multiple (to_z-of_z w128 c.args.top c.ranges.top) in
    let over : c.zero_over-divisor.result ≡ record { den = c.args.bottom; parts = []; constant = pos 0 } = c.zero_over-divisor.ensures ∙ ap (λ d. record { den = d; parts = []; constant = pos 0 }) (to_z-of_z w128 c.args.bottom c.ranges.bottom) in
    subst (λ t. IfErr c.made.result (λ fail. IfWide fail (λ w. first_wide t ≡ Some w))) ((λ i. whole_steps (rule i) p (over i)) ∙ sym (scale_stated c.args.top c.args.bottom p c.requires.of.rising)) c.made.ensures.wide

pub made-requires-clause-right : goal.made-requires-clause-right
made-requires-clause-right c = subst (λ (q : Lin). IsRising q.parts) (sym c.zero_over-divisor.ensures) tt

pub made-requires-clause-right_den : goal.made-requires-clause-right_den
made-requires-clause-right_den c =
    subst (λ (q : Lin). pos 0 <ℤ q.den) (sym c.zero_over-divisor.ensures) (subst (λ z. pos 0 <ℤ z) (sym (to_z-of_z w128 c.args.bottom c.ranges.bottom)) c.requires.bottom)
