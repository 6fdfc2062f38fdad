use Rattle.std.proofs.Common.{drop}
use Rattle.ae_readers.proofs.Exactness.{same_read}
use Rattle.ae_proofreader.proofs.PlaceReading.{places_are}
use Rattle.ae_proofreader.proofs.places.read_places.Goals as goal

pub returns-clause-read : goal.returns-clause-read
returns-clause-read c = same_read c.args.text.now _ _ _ (places_are (drop c.args.at c.args.text.now)) c.read_listed.ensures.read
