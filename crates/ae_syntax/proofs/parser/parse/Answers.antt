use Rattle.ae_syntax.proofs.Whole.{file_parsed}
use Rattle.ae_syntax.proofs.FileLaws.{file_fault}
use Rattle.ae_syntax.proofs.parser.parse.Goals as goal

pub returns-in-Ok-clause-tree : goal.returns-in-Ok-clause-tree
returns-in-Ok-clause-tree c = file_parsed c.args.tokens.now c.in-Ok.decls c.in-Ok.ensures

pub returns-in-Err-clause-fault : goal.returns-in-Err-clause-fault
returns-in-Err-clause-fault c = λ n. file_fault c.args.text.now c.args.tokens.now c.in-Err.refusal c.fault.result c.in-Err.ensures c.fault.ensures n
