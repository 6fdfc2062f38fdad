use Rattle.ae_kept_blocks.proofs.Runs.{clauses_below, lines_below, quantifiers_kept}
use Rattle.ae_kept_blocks.proofs.laws.runs_keep_blocks.Goals as goal

pub returns-clause-clauses : goal.returns-clause-clauses
returns-clause-clauses c = clauses_below

pub returns-clause-lines : goal.returns-clause-lines
returns-clause-lines c = λ p g n s clauses lines lines2 below h names adds. lines_below p g n s names clauses lines lines2 below h adds

pub returns-clause-quantifiers : goal.returns-clause-quantifiers
returns-clause-quantifiers c = λ opened old new among. quantifiers_kept old new among opened
