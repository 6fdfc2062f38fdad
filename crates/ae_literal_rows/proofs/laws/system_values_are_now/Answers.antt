use Rattle.ae_literal_rows.proofs.Values.{system_value}
use Rattle.ae_literal_rows.proofs.laws.system_values_are_now.Goals as goal

pub returns : goal.returns
returns c x js s o t v taken b h = system_value o s taken x js b t v h
