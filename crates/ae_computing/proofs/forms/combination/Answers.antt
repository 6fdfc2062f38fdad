use Rattle.std.proofs.Common.{◌≡◌, ◌∙◌, ◌++◌, ap}
use Rattle.ae_math.specs.Fractions.{◌+ℚ◌}
use Rattle.ae_naturals.specs.Fractions.{value_of}
use Rattle.ae_computing.specs.Inner.Exact.{multiples, scaled}
use Rattle.ae_computing.proofs.ExactLaws.{scaled_once}
use Rattle.ae_computing.proofs.forms.combination.Goals as goal

pub returns : goal.returns
returns c =
    let x = value_of c.args.by.now in
    let ls = multiples c.args.left.now.parts.items in
    let left : multiples c.add_multiples.new.parts.items ≡ ls =
    c.in_ok-add_multiples.ensures
    ∙ (λ j. multiples (c.new-parts.ensures.items j) ++ scaled (c.in_ok-once.ensures j) (multiples (c.as_slice.ensures.value j))) ∙ scaled_once ls in
    let parts : multiples c.add_multiples-2.new.parts.items ≡ ls ++ scaled x (multiples c.args.right.now.parts.items) =
    c.in_ok-add_multiples-2.ensures ∙ (λ j. left j ++ scaled x (multiples (c.as_slice-2.ensures.value j))) in
    let constant = c.in_ok-constant.ensures ∙ ap (λ z. value_of c.args.left.now.constant +ℚ z) c.in_ok-product.ensures in
    λ j. record { parts = parts j; constant = constant j }
