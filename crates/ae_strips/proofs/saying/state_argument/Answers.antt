use Rattle.ae_strips.proofs.FieldSteps.{argument_step}
use Rattle.ae_strips.proofs.saying.state_argument.Goals as goal

pub add-requires-clause-allowed : goal.add-requires-clause-allowed
add-requires-clause-allowed c =
    let s = c.args.store.now in argument_step s.signature s.nodes c.len-len.ensures.store c.args.justs.now c.args.field c.args.argument c.requires.written

pub add-requires-clause-built : goal.add-requires-clause-built
add-requires-clause-built c = (tt, tt)

pub add-requires-clause-factors : goal.add-requires-clause-factors
add-requires-clause-factors c = tt
