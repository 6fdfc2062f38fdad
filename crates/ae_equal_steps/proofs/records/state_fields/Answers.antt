use Rattle.ae_equal_steps.proofs.records.state_fields.Goals as goal

pub add-requires-clause-built : goal.add-requires-clause-built
add-requires-clause-built c = (tt, tt)

pub add-requires-clause-factors : goal.add-requires-clause-factors
add-requires-clause-factors c = tt
