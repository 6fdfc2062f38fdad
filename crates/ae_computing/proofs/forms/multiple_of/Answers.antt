use Rattle.std.proofs.Common.{◌≡◌, ◌∙◌, ◌++◌}
use Rattle.ae_naturals.specs.Fractions.{value_of}
use Rattle.ae_computing.specs.Inner.Exact.{multiples, scaled}
use Rattle.ae_computing.proofs.forms.multiple_of.Goals as goal

pub returns : goal.returns
returns c =
    let x = value_of c.args.by.now in
    let parts : multiples c.add_multiples.new.parts.items ≡ scaled x (multiples c.args.form.now.parts.items) =
    c.in_ok-add_multiples.ensures ∙ (λ j. multiples (c.new-parts.ensures.items j) ++ scaled x (multiples (c.as_slice.ensures.value j))) in
    λ j. record { parts = parts j; constant = c.in_ok-constant.ensures j }
