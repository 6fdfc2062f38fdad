use Rattle.std.proofs.Common.{[], refl}
use Rattle.ae_cli.proofs.RightWords.{right_words}
use Rattle.ae_cli.specs.Words.{options_of}
use Rattle.ae_driver.proofs.laws.no_words_ask.Goals as goal

pub returns : goal.returns
returns c = record {
  options = options_of [];
  stated = right_words [] (options_of []) (record { uses = []; written = refl; in_range = tt; different = tt; stated = refl });
  is = refl;
}
