use Rattle.std.proofs.Common.{◌≡◌, ◌∙◌, sym, ap}
use Rattle.std.proofs.lemmas.Result.{IfOk-weaker}
use Rattle.ae_naturals.specs.Fractions.{value_of}
use Rattle.ae_computing.specs.Inner.Computed.{is_sum, fits_two}
use Rattle.ae_computing.proofs.computing.fits_two.Goals as goal

pub returns-in_ok-one-in-Sum : goal.returns-in_ok-one-in-Sum
returns-in_ok-one-in-Sum c =
    let v = c.args.value.now in
    let a = c.args.left.now in
    let b = c.args.right.now in
    let w = c.args.first.now in
    let u = c.args.second.now in
    IfOk-weaker c.is_sum.result (λ r. r ≡ is_sum v w (value_of c.in_ok-one-in-Sum.field-0) u) (λ r. r ≡ fits_two c.args.operation v a b w u)
    (λ r e. e ∙ ap (λ z. is_sum v w z u) c.in_ok-one-in-Sum.ensures ∙ sym (ap (λ o. fits_two o v a b w u) c.in-Sum.is)) c.is_sum.ensures

pub returns-in_ok-minus_one-in-Difference : goal.returns-in_ok-minus_one-in-Difference
returns-in_ok-minus_one-in-Difference c =
    let v = c.args.value.now in
    let a = c.args.left.now in
    let b = c.args.right.now in
    let w = c.args.first.now in
    let u = c.args.second.now in
    IfOk-weaker c.is_sum-in-Difference.result (λ r. r ≡ is_sum v w (value_of c.in_ok-minus_one-in-Difference.field-0) u)
    (λ r. r ≡ fits_two c.args.operation v a b w u)
    (λ r e. e ∙ ap (λ z. is_sum v w z u) c.in_ok-minus_one-in-Difference.ensures ∙ sym (ap (λ o. fits_two o v a b w u) c.in-Difference.is))
    c.is_sum-in-Difference.ensures
