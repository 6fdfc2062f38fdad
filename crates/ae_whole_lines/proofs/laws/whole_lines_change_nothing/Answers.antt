use Rattle.ae_whole_lines.proofs.SameFiles.{lines_tokens, lines_problem}
use Rattle.ae_whole_lines.proofs.laws.whole_lines_change_nothing.Goals as goal

pub returns : goal.returns
returns c = record { tokens = lines_tokens; problem = lines_problem }
