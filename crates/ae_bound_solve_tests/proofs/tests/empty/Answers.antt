use Rattle.ae_store.proofs.EmptySignature.{empty_lawful}
use Rattle.ae_bound_solve_tests.proofs.tests.empty.Goals as goal

pub returns : goal.returns
returns c = empty_lawful _ c.new.ensures c.new-2.ensures
