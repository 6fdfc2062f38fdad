use Rattle.ae_readers.specs.Readers.{close_of}
use Rattle.ae_readers.proofs.Exactness.{below_exactly}
use Rattle.ae_readers.proofs.denominators.read_below.Goals as goal

pub returns-clause-exact : goal.returns-clause-exact
returns-clause-exact c = below_exactly c.args.top (close_of c.args.closing) c.args.text.now c.args.from _ c.read_to_end.ensures.read
