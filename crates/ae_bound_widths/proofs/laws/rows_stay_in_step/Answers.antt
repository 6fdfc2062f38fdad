use Rattle.ae_bound_widths.proofs.InStep.{steps_kept}
use Rattle.ae_bound_widths.proofs.laws.rows_stay_in_step.Goals as goal

pub returns : goal.returns
returns c = λ x rows rs js ks s o e. steps_kept x rows rs js ks s o e
