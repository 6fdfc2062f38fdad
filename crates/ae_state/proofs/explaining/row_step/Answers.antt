use Rattle.ae_state.proofs.ExplainedValues.{row_some, row_none, no_row}
use Rattle.ae_state.proofs.explaining.row_step.Goals as goal

pub returns-in-Some-clause-some : goal.returns-in-Some-clause-some
returns-in-Some-clause-some c = row_some c.args.values.now c.args.name _ c.just.result c.in-Some.ensures.row c.just.ensures

pub returns-in-Some-clause-none : goal.returns-in-Some-clause-none
returns-in-Some-clause-none c = row_none c.args.values.now c.args.name c.just.result c.just.ensures

pub returns-in-None-clause-none : goal.returns-in-None-clause-none
returns-in-None-clause-none c = no_row c.args.values.now c.args.name c.in-None.ensures.row
