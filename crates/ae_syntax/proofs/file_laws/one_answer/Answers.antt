use Rattle.ae_syntax.proofs.FileLaws as laws
use Rattle.ae_syntax.proofs.file_laws.one_answer.Goals as goal

pub returns : goal.returns
returns c = record { one_file = laws.one_tree; one_fault = laws.one_fault; never_both = laws.never_both }
