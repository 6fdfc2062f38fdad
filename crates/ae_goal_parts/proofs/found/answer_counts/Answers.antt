use Rattle.std.proofs.Common.{sym, subst}
use Rattle.ae_core.specs.declared.problems.Signature.{Signature}
use Rattle.ae_writable.specs.Writable.{IsWritable}
use Rattle.ae_goal_parts.specs.Inner.Shown.{IsFoundWithin}
use Rattle.ae_goal_parts.proofs.found.answer_counts.Goals as goal

pub returns-in-Valid : goal.returns-in-Valid
returns-in-Valid c = subst (λ a. (sig : Signature) → IsWritable sig a → IsFoundWithin sig a) (sym c.in-Valid.is) (λ sig w. tt)

pub returns-in-Unknown : goal.returns-in-Unknown
returns-in-Unknown c = subst (λ a. (sig : Signature) → IsWritable sig a → IsFoundWithin sig a) (sym c.in-Unknown.is) c.state_counts.ensures.limits

pub returns-in-Steps : goal.returns-in-Steps
returns-in-Steps c = subst (λ a. (sig : Signature) → IsWritable sig a → IsFoundWithin sig a) (sym c.in-Steps.is) c.story_counts.ensures.limits

pub returns-in-Number : goal.returns-in-Number
returns-in-Number c =
    subst (λ a. (sig : Signature) → IsWritable sig a → IsFoundWithin sig a) (sym c.in-Number.is)
    (λ sig w. c.width_counts.ensures.limits sig c.in-Number.story (c.story_counts-in-Number.ensures.limits sig w))
