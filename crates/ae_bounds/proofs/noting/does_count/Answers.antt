use Rattle.std.proofs.Common.{sym, ◌∙◌}
use Rattle.ae_base.proofs.Tests.{true_false}
use Rattle.ae_bounds.proofs.OwnForms.{combined_counts}
use Rattle.ae_bounds.proofs.noting.does_count.Goals as goal

pub returns-in-Assumed-clause-yes : goal.returns-in-Assumed-clause-yes
returns-in-Assumed-clause-yes c = λ e tag f. e

pub returns-in-Assumed-clause-no : goal.returns-in-Assumed-clause-no
returns-in-Assumed-clause-no c = λ e d. true_false (sym (d c.in-Assumed.field-0 c.in-Assumed.is) ∙ e)

pub returns-in-Combined-clause-yes : goal.returns-in-Combined-clause-yes
returns-in-Combined-clause-yes c = λ e. combined_counts c.args.row.now c.in-Combined.lower c.in-Combined.upper c.in-Combined.is
