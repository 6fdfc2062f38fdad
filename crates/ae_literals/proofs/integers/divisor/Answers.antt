use Rattle.std.proofs.Common.{◌∷◌, map, ◌≤◌, ◌<◌, ◌^◌, subst, sym, refl, length, unsigned_abs}
use Rattle.ae_num.specs.Forms.{IsCommonDivisor}
use Rattle.ae_num.proofs.ReductionLaws.{read_back, small_read, next_gcd, all_read}
use Rattle.ae_literals.proofs.integers.divisor.Goals as goal

pub gcd-divisor-requires-clause-right : goal.gcd-divisor-requires-clause-right
gcd-divisor-requires-clause-right c =
    small_read c.args.form.now.parts c.as_slice-part-items.result.now c.loop-part.part-index _ c.as_slice-part-items.ensures c.loop-part-test.true c.requires.normal.within.1.1

pub loop-part-preserved : goal.loop-part-preserved
loop-part-preserved c =
    let a = c.gcd-divisor.ensures in
    let back = sym (read_back c.gcd-divisor.result a.within) in
    record {
      common = λ g h. c.loop-part.invariant.common g (next_gcd c.args.form.now.parts c.as_slice-part-items.result.now c.loop-part.part-index _ _ c.gcd-divisor.result g c.as_slice-part-items.ensures c.loop-part-test.true c.requires.normal.within.1.1 a.within a.divisor h);
      within = subst (λ z. unsigned_abs z < 2 ^ 127) back a.within;
    }

pub loop-part-init : goal.loop-part-init
loop-part-init c =
    let w = c.requires.normal.within.0 in
    let back = read_back c.args.form.now.den w in
    record { common = λ g h. subst (λ z. IsCommonDivisor (unsigned_abs z ∷ map (λ p. unsigned_abs p.factor) c.args.form.now.parts) g) back h; within = subst (λ z. unsigned_abs z < 2 ^ 127) (sym back) w }

pub returns-clause-common : goal.returns-clause-common
returns-clause-common c =
    let ended : length c.args.form.now.parts ≤ c.loop-part.part-index = subst (λ ps. length ps ≤ c.loop-part.part-index) c.as_slice-part-items.ensures c.loop-part-test.false in
    c.loop-part.invariant.common _ (all_read c.args.form.now.parts c.loop-part.part-index _ _ ended refl)
