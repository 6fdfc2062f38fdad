use Rattle.std.proofs.Common.{◌≡◌, ◌++◌, [], ◌∷◌, ◌∙◌, sym, ap, subst, pos}
use Rattle.ae_math.specs.Fractions.{zero_ℚ, one_ℚ}
use Rattle.ae_math.specs.Forms.{Form}
use Rattle.ae_math.specs.Forms as forms
use Rattle.ae_math.proofs.Wholes.{ratio_of_zero}
use Rattle.ae_naturals.specs.Fractions.{value_of}
use Rattle.ae_store.specs.Terms.{named}
use Rattle.ae_constants.specs.declared.forms.Multiple.{Multiple}
use Rattle.ae_constants.specs.Forms.{multiples, IsExact}
use Rattle.ae_constants.proofs.ExactLaws.{single_exact, one_ratio}
use Rattle.ae_constants.proofs.forms.single.Goals as goal

pub returns : goal.returns
returns c =
    let one : value_of c.in_ok-factor.factor ≡ one_ℚ = c.in_ok-factor.ensures ∙ one_ratio in
    let none : value_of c.in_ok-constant.constant ≡ zero_ℚ = c.in_ok-constant.ensures ∙ ratio_of_zero (pos 1) in
    let new : Multiple = record { name = c.args.name; factor = c.in_ok-factor.factor } in
    let parts : multiples c.push.new.self.items ≡ (c.args.name, one_ℚ) ∷ [] =
    ap multiples (c.in_ok-push.ensures.items ∙ ap (λ ms. ms ++ new ∷ []) c.new-parts.ensures.items) ∙ (λ j. (c.args.name, one j) ∷ []) in
    λ ts below h.
    subst (IsExact ts below (forms.single (named ts c.args.name))) (sym (λ j. record { parts = parts j; constant = none j })) (single_exact ts below c.args.name h)
