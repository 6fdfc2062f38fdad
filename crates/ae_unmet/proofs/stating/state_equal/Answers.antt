use Rattle.std.proofs.Common.{refl}
use Rattle.ae_state.proofs.Explained.{steps_in_store}
use Rattle.ae_turns.proofs.Representatives.{valued}
use Rattle.ae_unmet.proofs.Growth.{front_none}
use Rattle.ae_unmet.proofs.OneValue.{says_equal}
use Rattle.ae_unmet.proofs.TakenNames.{patterns, said_now}
use Rattle.ae_unmet.proofs.stating.state_equal.Goals as goal

pub equal_step-requires-clause-fits : goal.equal_step-requires-clause-fits
equal_step-requires-clause-fits c = steps_in_store c.args.held.now c.args.store.now c.requires.taken.fits

pub equal_step-requires-clause-patterns : goal.equal_step-requires-clause-patterns
equal_step-requires-clause-patterns c = patterns c.args.held.now c.args.store.now c.requires.taken

pub equal_step-requires-clause-values : goal.equal_step-requires-clause-values
equal_step-requires-clause-values c = valued c.args.held.now c.args.store.now c.requires.taken

pub equal_step-requires-clause-said : goal.equal_step-requires-clause-said
equal_step-requires-clause-said c = said_now c.args.held.now c.args.store.now c.requires.taken

pub equal_step-requires-clause-left_sorted : goal.equal_step-requires-clause-left_sorted
equal_step-requires-clause-left_sorted c = c.requires.same.left_sorted

pub equal_step-requires-clause-right_sorted : goal.equal_step-requires-clause-right_sorted
equal_step-requires-clause-right_sorted c = c.requires.same.right_sorted

pub equal_step-requires-clause-alike : goal.equal_step-requires-clause-alike
equal_step-requires-clause-alike c = c.requires.same.alike_are

pub returns-clause-grown : goal.returns-clause-grown
returns-clause-grown c =
    record { others = refl; justs = c.equal_step.ensures.front; conflicts = front_none c.args.held.now.conflicts; steps = c.equal_step.ensures.fits }

pub returns-clause-says : goal.returns-clause-says
returns-clause-says c =
    says_equal c.args.held.now c.args.store.now c.requires.taken.fits c.equal_step.new.justs c.args.left c.args.right c.equal_step.result c.equal_step.ensures.states c.equal_step.ensures.rests
