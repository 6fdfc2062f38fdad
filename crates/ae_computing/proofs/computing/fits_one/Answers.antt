use Rattle.std.proofs.Common.{◌≡◌, ◌∙◌, [], ◌∷◌, sym, ap}
use Rattle.std.proofs.lemmas.Result.{IfOk-weaker}
use Rattle.ae_naturals.specs.Fractions.{value_of}
use Rattle.ae_computing.specs.Inner.Totals.{is_total}
use Rattle.ae_computing.specs.Inner.Computed.{fits_one}
use Rattle.ae_computing.proofs.computing.fits_one.Goals as goal

pub returns-in_ok-minus_one-in-Negation : goal.returns-in_ok-minus_one-in-Negation
returns-in_ok-minus_one-in-Negation c =
    let v = c.args.value.now in
    let w = c.args.of.now in
    IfOk-weaker c.is_multiple.result (λ r. r ≡ is_total v ((value_of c.in_ok-minus_one-in-Negation.field-0, w) ∷ [])) (λ r. r ≡ fits_one c.args.operation v w)
    (λ r e. e ∙ ap (λ z. is_total v ((z, w) ∷ [])) c.in_ok-minus_one-in-Negation.ensures ∙ sym (ap (λ o. fits_one o v w) c.in-Negation.is))
    c.is_multiple.ensures
