use Rattle.ae_writable_journals.proofs.Stories.{journals_are_writable}
use Rattle.ae_writable_journals.proofs.laws.legal_journals_are_writable.Goals as goal

pub returns : goal.returns
returns c = journals_are_writable
