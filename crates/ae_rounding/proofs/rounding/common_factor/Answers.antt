use Rattle.std.proofs.Common.{rules, ◌<ℤ◌, pos, ◌∙◌, sym, subst, ℤ, unsigned_abs}
use Rattle.std.specs.Prelude.{List}
use Rattle.std.proofs.lemmas.Int.{to_z-of_z}
use mir.Syntax.{w128}
use Rattle.ae_num.specs.declared.forms.Part.{Part}
use Rattle.ae_num.specs.Forms.{IsCommonDivisor, sizes}
use Rattle.ae_rounding.proofs.Quotients.{Factors, of_factors, above_zero}
use Rattle.ae_rounding.proofs.rounding.common_factor.Goals as goal

pub returns-clause-common : goal.returns-clause-common
returns-clause-common c =
    let l = c.args.form.now in
    let d = c.common_divisor.result in
    subst (λ (z : ℤ). IsCommonDivisor (Factors l.parts) (unsigned_abs z)) (sym (to_z-of_z w128 d (search rules)))
    (of_factors l.parts (unsigned_abs d) (subst (λ (ps : List Part). IsCommonDivisor (sizes (pos 0) ps (pos 0)) (unsigned_abs d)) (c.in_ok-from_slice.ensures ∙ c.as_slice.ensures) c.common_divisor.ensures.common))

pub returns-clause-positive : goal.returns-clause-positive
returns-clause-positive c =
    let l = c.args.form.now in
    let d = c.common_divisor.result in
    subst (λ (z : ℤ). pos 0 <ℤ z) (sym (to_z-of_z w128 d (search rules)))
    (above_zero l.parts d c.requires.normal.nonzero c.requires.names c.common_divisor.ensures.sign
    (of_factors l.parts (unsigned_abs d) (subst (λ (ps : List Part). IsCommonDivisor (sizes (pos 0) ps (pos 0)) (unsigned_abs d)) (c.in_ok-from_slice.ensures ∙ c.as_slice.ensures) c.common_divisor.ensures.common)))
