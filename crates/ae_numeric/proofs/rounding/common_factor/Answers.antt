use Rattle.std.proofs.Common.{◌<◌, ◌^◌, ◌≤ℤ◌, pos, subst, sym, refl, unsigned_abs}
use Rattle.ae_num.proofs.ReductionLaws.{read_back, small_read, next_gcd, all_read}
use Rattle.ae_numeric.proofs.rounding.common_factor.Goals as goal

pub gcd-divisor-requires-clause-right : goal.gcd-divisor-requires-clause-right
gcd-divisor-requires-clause-right c = small_read c.args.parts.now c.args.parts.now c.loop-part.part-index _ refl c.loop-part-test.true c.requires

pub loop-part-preserved : goal.loop-part-preserved
loop-part-preserved c =
    let a = c.gcd-divisor.ensures in
    let back = sym (read_back c.gcd-divisor.result a.within) in
    record {
      common = λ g h. c.loop-part.invariant.common g (next_gcd c.args.parts.now c.args.parts.now c.loop-part.part-index _ _ c.gcd-divisor.result g refl c.loop-part-test.true c.requires a.within a.divisor h);
      within = subst (λ z. unsigned_abs z < 2 ^ 127) back a.within;
      sign = subst (λ z. pos 0 ≤ℤ z) back a.sign;
    }

pub returns-clause-common : goal.returns-clause-common
returns-clause-common c = c.loop-part.invariant.common _ (all_read c.args.parts.now c.loop-part.part-index _ _ c.loop-part-test.false refl)
