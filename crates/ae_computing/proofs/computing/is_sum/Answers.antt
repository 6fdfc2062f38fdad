use Rattle.std.proofs.Common.{◌≡◌, ◌∙◌, ap, ◌++◌, [], ◌∷◌, map}
use Rattle.std.proofs.lemmas.Result.{IfOk-weaker}
use Rattle.ae_naturals.specs.Fractions.{value_of}
use Rattle.ae_computing.specs.Inner.Totals.{summand, is_total}
use Rattle.ae_computing.specs.Inner.Computed.{is_sum}
use Rattle.ae_computing.specs.declared.values.Summand.{Summand}
use Rattle.ae_computing.proofs.computing.is_sum.Goals as goal

pub returns : goal.returns
returns c =
    let v = c.args.value.now in
    let w = c.args.left.now in
    let u = c.args.right.now in
    let x = value_of c.args.factor in
    let one : Summand = record { factor = c.in_ok-once.once; value = c.args.left } in
    let two : Summand = record { factor = c.args.factor; value = c.args.right } in
    let first : c.push.new.self.items ≡ one ∷ [] = c.in_ok-push.ensures.items ∙ ap (λ ss. ss ++ one ∷ []) c.new-summands.ensures.items in
    let items : c.as_slice.result.now ≡ one ∷ two ∷ [] = c.as_slice.ensures.value ∙ c.in_ok-push-2.ensures.items ∙ ap (λ ss. ss ++ two ∷ []) first in
    IfOk-weaker c.is_total.result (λ b. b ≡ is_total v (map summand c.as_slice.result.now)) (λ b. b ≡ is_sum v w x u)
    (λ b e. e ∙ ap (λ ss. is_total v (map summand ss)) items ∙ ap (λ z. is_total v ((z, w) ∷ (x, u) ∷ [])) c.in_ok-once.ensures) c.is_total.ensures
