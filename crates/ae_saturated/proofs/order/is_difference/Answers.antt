use Rattle.std.proofs.Common.{◌≡◌, ◌∙◌, ap, ◌++◌, [], ◌∷◌, map}
use Rattle.std.proofs.lemmas.Result.{IfOk-weaker}
use Rattle.ae_math.specs.Fractions.{one_ℚ, neg_ℚ}
use Rattle.ae_computing.specs.Inner.Totals.{summand, is_total}
use Rattle.ae_computing.specs.declared.values.Summand.{Summand}
use Rattle.ae_saturated.proofs.order.is_difference.Goals as goal

pub returns : goal.returns
returns c =
    let x = c.args.value.now in
    let v = c.args.upper.now in
    let w = c.args.lower.now in
    let one : Summand = record { factor = c.in_ok-once.once; value = c.args.upper } in
    let two : Summand = record { factor = c.in_ok-minus.minus; value = c.args.lower } in
    let first : c.push.new.self.items ≡ one ∷ [] = c.in_ok-push.ensures.items ∙ ap (λ ss. ss ++ one ∷ []) c.new-summands.ensures.items in
    let items : c.as_slice.result.now ≡ one ∷ two ∷ [] = c.as_slice.ensures.value ∙ c.in_ok-push-2.ensures.items ∙ ap (λ ss. ss ++ two ∷ []) first in
    IfOk-weaker c.is_total.result (λ b. b ≡ is_total x (map summand c.as_slice.result.now)) (λ b. b ≡ is_total x ((one_ℚ, v) ∷ (neg_ℚ one_ℚ, w) ∷ []))
    (λ b e. e ∙ ap (λ ss. is_total x (map summand ss)) items ∙ (λ i. is_total x ((c.in_ok-once.ensures i, v) ∷ (c.in_ok-minus.ensures i, w) ∷ []))) c.is_total.ensures
