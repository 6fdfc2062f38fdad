use Rattle.std.proofs.Common.{arith}
use Rattle.std.proofs.lemmas.List.{drop_all}
use Rattle.ae_prooftext.specs.Grammar.{proof_code}
use Rattle.ae_proofreader.proofs.WholeReading.{whole_read, whole_behind, whole_faulty}
use Rattle.ae_proofreader.proofs.proofs.read_text.Goals as goal

pub returns-in-Err-clause-exact : goal.returns-in-Err-clause-exact
returns-in-Err-clause-exact c = whole_faulty (proof_code c.args.tables.now.signature.now) c.args.text.now c.in-Err.fault c.in-Err.ensures.read

pub returns-then-end-text-clause-exact : goal.returns-then-end-text-clause-exact
returns-then-end-text-clause-exact c = whole_behind (proof_code c.args.tables.now.signature.now) c.args.text.now c.in-Ok.proof c.in-Ok.end c.in-Ok.ensures.read (omega arith)

pub returns-else-end-text-clause-exact : goal.returns-else-end-text-clause-exact
returns-else-end-text-clause-exact c =
    whole_read (proof_code c.args.tables.now.signature.now) c.args.text.now c.in-Ok.proof c.in-Ok.end c.in-Ok.ensures.read (drop_all c.in-Ok.end c.args.text.now (omega arith))
