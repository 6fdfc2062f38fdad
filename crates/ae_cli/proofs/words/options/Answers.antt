use Rattle.std.specs.Prelude.{map, string_bytes}
use Rattle.ae_cli.proofs.RightWords.{answered, states}
use Rattle.ae_cli.proofs.words.options.Goals as goal

pub returns-clause-stated : goal.returns-clause-stated
returns-clause-stated c = states (map string_bytes c.args.words.now) c.read.result c.read.ensures.taken c.read.ensures.stated

pub returns-clause-right : goal.returns-clause-right
returns-clause-right c = answered (map string_bytes c.args.words.now) c.read.result (states (map string_bytes c.args.words.now) c.read.result c.read.ensures.taken c.read.ensures.stated) c.read.ensures.usage
