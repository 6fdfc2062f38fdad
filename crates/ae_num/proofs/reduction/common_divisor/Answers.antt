use Rattle.std.proofs.Common.{◌≤◌, ◌<◌, ◌^◌, ◌≤ℤ◌, pos, subst, sym, refl, length, unsigned_abs}
use Rattle.ae_num.proofs.ReductionLaws.{read_back, small_read, next_gcd, start_gcd, all_read}
use Rattle.ae_num.proofs.reduction.common_divisor.Goals as goal

pub gcd-divisor-requires-in-loop-part-clause-right : goal.gcd-divisor-requires-in-loop-part-clause-right
gcd-divisor-requires-in-loop-part-clause-right c =
    small_read c.args.form.now.parts c.as_slice-part-items.result.now c.loop-part.part-index _ c.as_slice-part-items.ensures c.loop-part-test.true c.requires.within.1.1

pub loop-part-preserved : goal.loop-part-preserved
loop-part-preserved c =
    let a = c.gcd-divisor-in-loop-part.ensures in
    let back = sym (read_back c.gcd-divisor-in-loop-part.result a.within) in
    record {
      common = λ g h. c.loop-part.invariant.common g (next_gcd c.args.form.now.parts c.as_slice-part-items.result.now c.loop-part.part-index _ _ c.gcd-divisor-in-loop-part.result g c.as_slice-part-items.ensures c.loop-part-test.true c.requires.within.1.1 a.within a.divisor h);
      within = subst (λ z. unsigned_abs z < 2 ^ 127) back a.within;
      sign = subst (λ z. pos 0 ≤ℤ z) back a.sign;
    }

pub loop-part-init : goal.loop-part-init
loop-part-init c =
    let a = c.gcd-divisor.ensures in
    let back = sym (read_back c.gcd-divisor.result a.within) in
    record {
      common = λ g h. start_gcd c.args.form.now.den c.args.form.now.constant c.gcd-divisor.result _ g c.requires.within.0 c.requires.within.1.0 a.within a.divisor h;
      within = subst (λ z. unsigned_abs z < 2 ^ 127) back a.within;
      sign = subst (λ z. pos 0 ≤ℤ z) back a.sign;
    }

pub returns-clause-common : goal.returns-clause-common
returns-clause-common c =
    let ended : length c.args.form.now.parts ≤ c.loop-part.part-index = subst (λ ps. length ps ≤ c.loop-part.part-index) c.as_slice-part-items.ensures c.loop-part-test.false in
    c.loop-part.invariant.common _ (all_read c.args.form.now.parts c.loop-part.part-index _ _ ended refl)
