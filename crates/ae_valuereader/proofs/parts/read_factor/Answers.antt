use Rattle.std.proofs.Common.{sym, subst, unsigned_abs, ◌≤◌}
use Rattle.ae_readers.specs.Readers.{greatest}
use Rattle.ae_valuereader.proofs.FormReading.{sign_small, whole_back}
use Rattle.ae_valuereader.proofs.parts.read_factor.Goals as goal

pub returns-clause-range : goal.returns-clause-range
returns-clause-range c =
    let small = subst (λ z. unsigned_abs z ≤ greatest) (sym c.signed.ensures) (sign_small c.in_ok-negated.negated c.in_ok-size.size c.in_ok-size.ensures.range) in
    subst (λ z. unsigned_abs z ≤ greatest) (sym (whole_back c.signed.result small)) small
