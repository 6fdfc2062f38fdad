use Rattle.ae_value_steps.proofs.names.state_itself.Goals as goal

pub add-requires-clause-built : goal.add-requires-clause-built
add-requires-clause-built c = (tt, tt)

pub add-requires-clause-factors : goal.add-requires-clause-factors
add-requires-clause-factors c = tt
