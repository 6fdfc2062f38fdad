use Rattle.std.proofs.Common.{arith, ap, ◌∙◌, ◌<◌, ◌^◌, unsigned_abs}
use Rattle.std.proofs.lemmas.Nat.Gcd.{le_of_dvd}
use Rattle.ae_base.proofs.Integers.{size_positive}
use Rattle.ae_num.specs.Forms.{sizes}
use Rattle.ae_num.proofs.ReductionLaws.{read_back}
use Rattle.ae_decide.proofs.LeafTests.{lowest_by}
use Rattle.ae_decide.proofs.leaves.is_lowest.Goals as goal

pub returns : goal.returns
returns c =
    let common = c.common_divisor.ensures.common in
    let most = le_of_dvd (size_positive c.args.form.now.den c.requires.positive) (common.0).0 in
    let den = c.requires.within.0 in
    let small : unsigned_abs c.common_divisor.result < 2 ^ 127 = omega (arith, most, den) in
    lowest_by (sizes c.args.form.now.den c.args.form.now.parts c.args.form.now.constant) (unsigned_abs c.common_divisor.result) c.unsigned_abs.result common
    (c.unsigned_abs.ensures.value ∙ ap unsigned_abs (read_back c.common_divisor.result small))
