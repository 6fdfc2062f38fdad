use Rattle.std.proofs.Common.{pos, ◌<ℤ◌, ◌≡◌, unsigned_abs, sym, subst}
use Rattle.std.proofs.lemmas.Int.{to_z-of_z}
use mir.Syntax.{w128}
use mir.Val.{of_z, to_z}
use Rattle.ae_num.specs.Forms.{IsCommonDivisor}
use Rattle.ae_num.proofs.ReductionLaws.{read_back}
use Rattle.ae_numeric.specs.Inner.Rounding.{factor_sizes}
use Rattle.ae_numeric.proofs.RoundingLaws.{positive_common, apart_test}
use Rattle.ae_numeric.proofs.rounding.is_apart.Goals as goal

pub is_divisor-requires : goal.is_divisor-requires
is_divisor-requires c =
    let f = c.args.of.now in
    let g = c.common_factor.result in
    let whole = c.is_whole_sum.ensures.0 c.if-not-is_whole_sum.false in
    let common : IsCommonDivisor (factor_sizes f.parts) (unsigned_abs g) = subst (λ ps. IsCommonDivisor (factor_sizes ps) (unsigned_abs g)) c.as_slice.ensures c.common_factor.ensures.common in
    let back : to_z w128 (of_z w128 g) ≡ g = to_z-of_z w128 g (record { sfits = c.common_factor.type_inv }) in
    subst (λ z. pos 0 <ℤ z) (sym back) (positive_common f g c.requires whole.1 common c.common_factor.ensures.sign)

pub returns : goal.returns
returns c =
    let f = c.args.of.now in
    let g = c.common_factor.result in
    let common : IsCommonDivisor (factor_sizes f.parts) (unsigned_abs g) = subst (λ ps. IsCommonDivisor (factor_sizes ps) (unsigned_abs g)) c.as_slice.ensures c.common_factor.ensures.common in
    apart_test f g (to_z w128 (of_z w128 g)) (to_z w128 (of_z w128 f.constant)) c.is_divisor.result (to_z-of_z w128 g (record { sfits = c.common_factor.type_inv })) (read_back f.constant c.requires.within.1.0)
    (c.is_whole_sum.ensures.0 c.if-not-is_whole_sum.false) common c.is_divisor.ensures
