use Rattle.std.proofs.Common.{sym, ◌∙◌}
use Rattle.ae_combine_tests.proofs.Named.{found}
use Rattle.ae_combine_tests.proofs.equations.has_name.Goals as goal

pub returns : goal.returns
returns c h = found c.args.store.now c.args.term.now c.in_ok-name.name c.in_ok-name.ensures (sym c.is_some.ensures ∙ h)
