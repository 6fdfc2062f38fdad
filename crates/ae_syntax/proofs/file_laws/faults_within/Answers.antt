use Rattle.ae_syntax.proofs.Places as places
use Rattle.ae_syntax.proofs.file_laws.faults_within.Goals as goal

pub returns-clause-syntax : goal.returns-clause-syntax
returns-clause-syntax c = places.fault_within

pub returns-clause-lexis : goal.returns-clause-lexis
returns-clause-lexis c = places.lex_fault_within
