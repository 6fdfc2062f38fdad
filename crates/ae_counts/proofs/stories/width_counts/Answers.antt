use Rattle.ae_counts.proofs.Within.{width_within}
use Rattle.ae_counts.proofs.stories.width_counts.Goals as goal

pub returns : goal.returns
returns c = record { limits = width_within c.args.at.now c.form_counts.ensures c.form_counts-2.ensures c.key_counts.ensures }
