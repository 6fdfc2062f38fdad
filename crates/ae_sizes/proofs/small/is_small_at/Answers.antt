use Rattle.std.proofs.Common.{◌∙◌, sym, ap}
use Rattle.std.specs.Option.{option_copied}
use Rattle.ae_sizes.specs.Small.{is_small_entry}
use Rattle.ae_sizes.proofs.MeasureLaws.{none_there}
use Rattle.ae_sizes.proofs.SmallLaws.{none_small}
use Rattle.ae_sizes.proofs.small.is_small_at.Goals as goal

pub returns-in-None : goal.returns-in-None
returns-in-None c = λ m es p. none_small m es c.args.claim (none_there (is_small_entry m) es c.args.small.now c.args.claim p (sym c.at.ensures ∙ ap option_copied c.in-None.is))
