use Rattle.std.proofs.Common.{rules, ◌≡◌, ◌<ℤ◌, pos, List, ◌∙◌, sym, subst, to_z, of_z, ℤ, unsigned_abs}
use Rattle.std.proofs.lemmas.Int.{to_z-of_z}
use mir.Syntax.{w128}
use Rattle.ae_num.specs.declared.forms.Part.{Part}
use Rattle.ae_num.specs.Forms.{IsCommonDivisor, sizes}
use Rattle.ae_ineq.proofs.Directions.{divisor_above, above_zero}
use Rattle.ae_ineq.proofs.rows.over_content.Goals as goal

pub returns-clause-positive : goal.returns-clause-positive
returns-clause-positive c =
    let l = c.args.form.now in
    let d = c.common_divisor-divisor.result in
    let k : to_z w128 (of_z w128 l.constant) ≡ l.constant = to_z-of_z w128 l.constant (search rules) in
    let common : IsCommonDivisor (sizes l.constant l.parts l.constant) (unsigned_abs d) =
    subst (λ (ps : List Part). IsCommonDivisor (sizes l.constant ps l.constant) (unsigned_abs d)) (c.in_ok-from_slice.ensures ∙ c.as_slice.ensures)
    (subst (λ (z : ℤ). IsCommonDivisor (sizes z c.in_ok-from_slice.field-0 z) (unsigned_abs d)) k c.common_divisor-divisor.ensures.common) in
    subst (λ (z : ℤ). pos 0 <ℤ z) (sym (to_z-of_z w128 d (search rules))) (above_zero d c.common_divisor-divisor.ensures.sign (divisor_above l (unsigned_abs d) c.requires.normal c.requires.nonzero common))

pub returns-clause-common : goal.returns-clause-common
returns-clause-common c =
    let l = c.args.form.now in
    let d = c.common_divisor-divisor.result in
    let k : to_z w128 (of_z w128 l.constant) ≡ l.constant = to_z-of_z w128 l.constant (search rules) in
    subst (λ (z : ℤ). IsCommonDivisor (sizes l.constant l.parts l.constant) (unsigned_abs z)) (sym (to_z-of_z w128 d (search rules)))
    (subst (λ (ps : List Part). IsCommonDivisor (sizes l.constant ps l.constant) (unsigned_abs d)) (c.in_ok-from_slice.ensures ∙ c.as_slice.ensures)
    (subst (λ (z : ℤ). IsCommonDivisor (sizes z c.in_ok-from_slice.field-0 z) (unsigned_abs d)) k c.common_divisor-divisor.ensures.common))
