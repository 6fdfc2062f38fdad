use Rattle.std.proofs.Common.{pos, ◌<ℤ◌, ◌≡◌, map, unsigned_abs, sym, ap, ◌∙◌, subst, IsTrue}
use Rattle.std.proofs.lemmas.Int.{to_z-of_z}
use mir.Syntax.{w128}
use mir.Val.{of_z, to_z}
use Rattle.ae_num.specs.Forms.{IsCommonDivisor}
use Rattle.ae_num.proofs.ReductionLaws.{read_back}
use Rattle.ae_numeric.specs.Inner.Rounding.{factor_sizes, times_part}
use Rattle.ae_numeric.proofs.RoundingLaws.{positive_common, multiples_test, quotient_test}
use Rattle.ae_numeric.proofs.rounding.is_quotient.Goals as goal

pub is_floor-requires : goal.is_floor-requires
is_floor-requires c =
    let f = c.args.of.now in
    let g = c.common_factor-divisor.result in
    let whole = c.is_whole_sum.ensures.0 c.if-not-is_whole_sum.false in
    let common : IsCommonDivisor (factor_sizes f.parts) (unsigned_abs g) = subst (λ ps. IsCommonDivisor (factor_sizes ps) (unsigned_abs g)) c.as_slice.ensures c.common_factor-divisor.ensures.common in
    let back : to_z w128 (of_z w128 g) ≡ g = to_z-of_z w128 g (record { sfits = c.common_factor-divisor.type_inv }) in
    subst (λ z. pos 0 <ℤ z) (sym back) (positive_common f g c.requires.of whole.1 common c.common_factor-divisor.ensures.sign)

pub returns-then-are_multiples : goal.returns-then-are_multiples
returns-then-are_multiples c =
    let x = c.args.of.now in
    let y = c.args.by.now in
    let g = c.common_factor-divisor.result in
    let h = to_z w128 (of_z w128 g) in
    let a = c.are_multiples.result in
    let whole = c.is_whole_sum.ensures.0 c.if-not-is_whole_sum.false in
    let common : IsCommonDivisor (factor_sizes x.parts) (unsigned_abs g) = subst (λ ps. IsCommonDivisor (factor_sizes ps) (unsigned_abs g)) c.as_slice.ensures c.common_factor-divisor.ensures.common in
    let positive : pos 0 <ℤ g = positive_common x g c.requires.of whole.1 common c.common_factor-divisor.ensures.sign in
    let multiples : (IsTrue a → x.parts ≡ map (times_part h) y.parts) × (x.parts ≡ map (times_part h) y.parts → IsTrue a) =
    subst (λ (qs : _). (IsTrue a → x.parts ≡ map (times_part h) qs) × (x.parts ≡ map (times_part h) qs → IsTrue a)) c.as_slice-3.ensures
    (subst (λ (ps : _). (IsTrue a → ps ≡ map (times_part h) c.as_slice-3.result.now) × (ps ≡ map (times_part h) c.as_slice-3.result.now → IsTrue a)) c.as_slice-2.ensures c.are_multiples.ensures) in
    let den : y.den ≡ pos 1 = sym (read_back y.den c.requires.by.within.0) ∙ ap (to_z w128) c.if-by-ne1.false in
    quotient_test x y g h (to_z-of_z w128 g (record { sfits = c.common_factor-divisor.type_inv })) whole den positive common a c.is_floor.result (to_z w128 (of_z w128 x.constant)) (to_z w128 (of_z w128 y.constant))
    c.if-are_multiples.true (read_back x.constant c.requires.of.within.1.0) (read_back y.constant c.requires.by.within.1.0) multiples c.is_floor.ensures

pub returns-else-are_multiples : goal.returns-else-are_multiples
returns-else-are_multiples c =
    let x = c.args.of.now in
    let y = c.args.by.now in
    let g = c.common_factor-divisor.result in
    let h = to_z w128 (of_z w128 g) in
    let a = c.are_multiples.result in
    let whole = c.is_whole_sum.ensures.0 c.if-not-is_whole_sum.false in
    let common : IsCommonDivisor (factor_sizes x.parts) (unsigned_abs g) = subst (λ ps. IsCommonDivisor (factor_sizes ps) (unsigned_abs g)) c.as_slice.ensures c.common_factor-divisor.ensures.common in
    let positive : pos 0 <ℤ g = positive_common x g c.requires.of whole.1 common c.common_factor-divisor.ensures.sign in
    let multiples : (IsTrue a → x.parts ≡ map (times_part h) y.parts) × (x.parts ≡ map (times_part h) y.parts → IsTrue a) =
    subst (λ (qs : _). (IsTrue a → x.parts ≡ map (times_part h) qs) × (x.parts ≡ map (times_part h) qs → IsTrue a)) c.as_slice-3.ensures
    (subst (λ (ps : _). (IsTrue a → ps ≡ map (times_part h) c.as_slice-3.result.now) × (ps ≡ map (times_part h) c.as_slice-3.result.now → IsTrue a)) c.as_slice-2.ensures c.are_multiples.ensures) in
    let den : y.den ≡ pos 1 = sym (read_back y.den c.requires.by.within.0) ∙ ap (to_z w128) c.if-by-ne1.false in
    multiples_test x y g h (to_z-of_z w128 g (record { sfits = c.common_factor-divisor.type_inv })) whole den positive common a c.if-are_multiples.false multiples
