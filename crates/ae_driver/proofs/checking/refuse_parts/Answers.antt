use Rattle.std.proofs.Common.{sym, subst}
use Rattle.ae_report.specs.declared.refusal.Refusal.TheVariants as refusal
use Rattle.ae_driver.specs.declared.reasons.Reason.TheVariants.{Plain}
use Rattle.ae_driver.specs.Checking.{IsRefusedInput}
use Rattle.ae_driver.specs.Inner.Endings.{PlacesStand}
use Rattle.ae_driver.proofs.Checked.{moved_within, input_refusal_ends}
use Rattle.ae_driver.proofs.checking.refuse_parts.Goals as goal

pub refuse-requires : goal.refuse-requires
refuse-requires g c =
    subst (λ t. PlacesStand c.args.input.now (Plain (refusal.Proof t))) (sym c.moved-there.ensures)
    (moved_within c.args.input.now c.args.begin c.args.fault c.requires.begins c.requires.stands)

pub returns-in_default-clause-ends : goal.returns-in_default-clause-ends
returns-in_default-clause-ends g c =
    input_refusal_ends c.args.input.now (Plain (refusal.Proof c.moved-there.result)) _ _ c.refuse.result
    (subst (λ t. IsRefusedInput c.args.input.now (Plain (refusal.Proof t))) (sym c.moved-there.ensures) (c.requires.refused c.in_default.not-Memory)) c.refuse.ensures.ends
