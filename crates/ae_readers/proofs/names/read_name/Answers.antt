use Rattle.ae_readers.proofs.Exactness.{name_exactly}
use Rattle.ae_readers.proofs.names.read_name.Goals as goal

pub returns-clause-exact : goal.returns-clause-exact
returns-clause-exact c = λ some. name_exactly c.args.form c.args.closing c.args.words.now some c.args.text.now c.args.at _ c.read_word.ensures.read
