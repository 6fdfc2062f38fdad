use Rattle.std.proofs.Common.{sym}
use Rattle.ae_monoid.specs.Rules.{rule_at}
use Rattle.ae_sweeps.specs.Given.{rep_in}
use Rattle.ae_sweeps.proofs.RuleSides.{no_rule}
use Rattle.ae_sweeps.proofs.sides.sides_at.Goals as goal

pub side_gap-requires : goal.side_gap-requires
side_gap-requires c = record { there = sym c.in-Some.ensures.rule }

pub returns-in-None-clause-none : goal.returns-in-None-clause-none
returns-in-None-clause-none c = no_rule (rep_in c.args.reps.now) (λ n. rule_at c.args.rules.now n) c.args.number (sym c.in-None.ensures.rule)
