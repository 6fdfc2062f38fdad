use Rattle.std.proofs.Common.{take, subst}
use Rattle.ae_driver.specs.Checking.{by_problem}
use Rattle.ae_driver.specs.Inner.Endings.{IsNotRead}
use Rattle.ae_driver.proofs.Checked.{input_refusal_ends}
use Rattle.ae_driver.proofs.Fronts.{front_places}
use Rattle.ae_driver.proofs.checking.refuse_problem.Goals as goal

pub refuse-requires : goal.refuse-requires
refuse-requires g c =
    front_places c.args.input.now c.args.parted.before c.in-Refused.why
    (subst (IsNotRead (take c.args.parted.before c.args.input.now)) c.in-Refused.is c.requires.none).1

pub returns-in-Refused-clause-ends : goal.returns-in-Refused-clause-ends
returns-in-Refused-clause-ends g c =
    let none = subst (IsNotRead (take c.args.parted.before c.args.input.now)) c.in-Refused.is c.requires.none in
    input_refusal_ends c.args.input.now c.in-Refused.why _ _ c.refuse.result (by_problem _ _ c.in-Refused.why c.requires.parted none.0) c.refuse.ensures.ends
