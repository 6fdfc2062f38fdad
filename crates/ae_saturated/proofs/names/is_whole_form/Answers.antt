use Rattle.ae_system_checks.proofs.WholeValues.{decide_whole}
use Rattle.ae_saturated.proofs.NameTests.{same_as}
use Rattle.ae_saturated.proofs.names.is_whole_form.Goals as goal

pub returns : goal.returns
returns c = same_as (decide_whole c.args.form.now) c.is_whole.result c.is_whole.ensures
