use Rattle.std.proofs.Common.{◌≡◌, ◌∙◌, sym}
use Rattle.std.specs.List.{list_all}
use Rattle.std.proofs.lemmas.Result.{IfOk-weaker}
use Rattle.ae_math.specs.Forms.{is_zero, factor_in}
use Rattle.ae_core.specs.Decided.{Term_discrete}
use Rattle.ae_rules.specs.Linear.{is_number}
use Rattle.ae_computing.specs.Inner.Exact.{multiple, multiples, meaning, is_nought_in}
use Rattle.std.proofs.lemmas.List.Folds.{list_all-map}
use Rattle.ae_computing.proofs.forms.is_number.Goals as goal

pub returns : goal.returns
returns c =
    let ms = c.args.form.now.parts.items in
    let us = c.as_slice.result.now in
    IfOk-weaker c.are_nought.result (λ b. b ≡ list_all (is_nought_in us) us) (λ b. b ≡ is_number (meaning c.args.form.now))
    (λ b e. e ∙ (λ j. list_all (is_nought_in (c.as_slice.ensures.value j)) (c.as_slice.ensures.value j))
    ∙ sym (list_all-map (λ p. is_zero (factor_in Term_discrete (multiples ms) p.0)) multiple ms)) c.are_nought.ensures
