use Rattle.std.proofs.Common.{◌≡◌, ◌∙◌, ap, ◌++◌, [], ◌∷◌, map}
use Rattle.std.proofs.lemmas.Result.{IfOk-weaker}
use Rattle.ae_naturals.specs.Fractions.{value_of}
use Rattle.ae_computing.specs.Inner.Totals.{summand, is_total}
use Rattle.ae_computing.specs.declared.values.Summand.{Summand}
use Rattle.ae_computing.proofs.computing.is_multiple.Goals as goal

pub returns : goal.returns
returns c =
    let v = c.args.value.now in
    let new : Summand = record { factor = c.args.factor; value = c.args.of } in
    let items : c.as_slice.result.now ≡ new ∷ [] = c.as_slice.ensures.value ∙ c.in_ok-push.ensures.items ∙ ap (λ ss. ss ++ new ∷ []) c.new-summands.ensures.items in
    IfOk-weaker c.is_total.result (λ b. b ≡ is_total v (map summand c.as_slice.result.now)) (λ b. b ≡ is_total v ((value_of c.args.factor, c.args.of.now) ∷ []))
    (λ b e. e ∙ ap (λ ss. is_total v (map summand ss)) items) c.is_total.ensures
