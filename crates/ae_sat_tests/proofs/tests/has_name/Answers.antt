use Rattle.std.proofs.Common.{sym, ◌∙◌}
use Rattle.ae_sat_tests.proofs.Named.{named_some}
use Rattle.ae_sat_tests.proofs.tests.has_name.Goals as goal

pub returns : goal.returns
returns c h = named_some c.args.store.now c.args.term.now c.in_ok-name.name c.in_ok-name.ensures (sym c.is_some.ensures ∙ h)
