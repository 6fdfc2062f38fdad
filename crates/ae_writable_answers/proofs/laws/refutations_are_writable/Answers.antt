use Rattle.ae_writable_answers.proofs.Refuted.{refutation_writable}
use Rattle.ae_writable_answers.proofs.laws.refutations_are_writable.Goals as goal

pub returns : goal.returns
returns c = λ p g firsts clauses s start low proof r. refutation_writable p g low firsts clauses s start proof r
