use Rattle.ae_readers.specs.Readers.{close_of}
use Rattle.ae_readers.proofs.Exactness.{long_exactly}
use Rattle.ae_readers.proofs.integers.read_long.Goals as goal

pub returns-clause-exact : goal.returns-clause-exact
returns-clause-exact c = long_exactly c.args.signed c.args.stroke (close_of c.args.closing) c.args.text.now c.args.from _ c.read_to_end.ensures.read
