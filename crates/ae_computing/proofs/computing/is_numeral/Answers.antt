use Rattle.std.proofs.Common.{rules, ◌≡◌, ◌∙◌, [], ◌∷◌}
use Rattle.std.proofs.lemmas.Int.{to_z-of_z}
use Rattle.std.proofs.lemmas.Result.{IfOk-weaker}
use mir.Syntax.{w128}
use mir.Val.{to_z, of_z}
use Rattle.ae_num.specs.declared.forms.Value.{Number}
use Rattle.ae_naturals.specs.Fractions.{value_of}
use Rattle.ae_computing.specs.Inner.Totals.{is_total}
use Rattle.ae_computing.specs.Inner.Computed.{is_numeral}
use Rattle.ae_computing.proofs.computing.is_numeral.Goals as goal

pub returns : goal.returns
returns c =
    let v = c.args.value.now in
    let a = c.args.top in
    let b = c.args.bottom in
    let top : to_z w128 (of_z w128 a) ≡ a = to_z-of_z w128 a (search rules) in
    let bottom : to_z w128 (of_z w128 b) ≡ b = to_z-of_z w128 b (search rules) in
    IfOk-weaker c.is_multiple.result
    (λ r. r ≡ is_total v ((value_of c.in_ok-once.once, Number (record { den = to_z w128 (of_z w128 b); parts = c.new.result; constant = to_z w128 (of_z w128 a) })) ∷ []))
    (λ r. r ≡ is_numeral v a b)
    (λ r e. e ∙ (λ j. is_total v ((c.in_ok-once.ensures j, Number (record { den = bottom j; parts = c.new.ensures j; constant = top j })) ∷ [])))
    c.is_multiple.ensures
