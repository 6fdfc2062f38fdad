use Rattle.std.specs.Prelude.{List}
use Rattle.std.proofs.Common.{subst}
use Rattle.ae_bounds.specs.declared.rows.Row.{Row}
use Rattle.ae_bounds.specs.Findings.{HasRefuted, NoneIsRefuted}
use Rattle.ae_bounds.proofs.Found.{has_at}
use Rattle.ae_bounds.proofs.finding.has_refuted.Goals as goal

pub returns-in-Some-clause-yes : goal.returns-in-Some-clause-yes
returns-in-Some-clause-yes c = λ e. subst (λ (rs : List Row). HasRefuted rs) c.as_slice.ensures (has_at c.as_slice.result.now c.in-Some.field-0 c.in-Some.ensures.some)

pub returns-in-None-clause-no : goal.returns-in-None-clause-no
returns-in-None-clause-no c = λ e. subst (λ (rs : List Row). NoneIsRefuted rs) c.as_slice.ensures c.in-None.ensures.none
