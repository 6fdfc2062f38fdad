use Rattle.std.proofs.Common.{◌≡◌, ◌∙◌, [], ◌∷◌, ap}
use Rattle.std.proofs.lemmas.Result.{IfOk-weaker}
use Rattle.ae_math.specs.Forms.{single, scale}
use Rattle.ae_core.specs.declared.terms.Term.{Term}
use Rattle.ae_rules.specs.Linear.{ruled}
use Rattle.ae_naturals.specs.Fractions.{value_of}
use Rattle.ae_computing.specs.Inner.Operations.{ruled_by}
use Rattle.ae_computing.specs.Inner.Exact.{meaning}
use Rattle.ae_computing.specs.declared.operations.Operation.TheVariants.{Negation}
use Rattle.ae_computing.proofs.ExactLaws.{by_operation, not_negated}
use Rattle.ae_computing.proofs.forms.turned.Goals as goal

pub returns-in_ok-minus_one-in-Negation : goal.returns-in_ok-minus_one-in-Negation
returns-in_ok-minus_one-in-Negation c =
    let w = c.args.whole.now in
    let f = meaning c.args.of.now in
    IfOk-weaker c.multiple_of.result (λ p. meaning p ≡ scale (value_of c.in_ok-minus_one-in-Negation.field-0) f)
    (λ p. (first : Term) → meaning p ≡ ruled w (ruled_by c.args.operation ((first, f) ∷ [])))
    (λ p e first. by_operation w c.args.operation Negation ((first, f) ∷ []) (meaning p) c.in-Negation.is
    (e ∙ ap (λ z. scale z f) c.in_ok-minus_one-in-Negation.ensures)) c.multiple_of.ensures

pub returns-in_default : goal.returns-in_default
returns-in_default c =
    let w = c.args.whole.now in
    let f = meaning c.args.of.now in
    IfOk-weaker c.single.result (λ p. meaning p ≡ single w) (λ p. (first : Term) → meaning p ≡ ruled w (ruled_by c.args.operation ((first, f) ∷ [])))
    (λ p e first. e ∙ not_negated w c.args.operation (first, f) c.in_default.not-Negation) c.single.ensures
