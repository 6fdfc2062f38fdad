use Rattle.ae_descents.proofs.Descending.{through}
use Rattle.ae_descents.proofs.laws.descents_through.Goals as goal

pub returns : goal.returns
returns g c a b d =
    through (g.R.Replacing.name c.args.earlier.now) (g.S.Replacing.name c.args.later.now) (g.R.Replacing.rule c.args.earlier.now) (g.S.Replacing.rule c.args.later.now) c.requires.names c.requires.rules d
