use Rattle.ae_legal_stories.proofs.Widths.{widths_fit, widths_read_back}
use Rattle.ae_legal_stories.proofs.laws.widths_have_texts.Goals as goal

pub returns-clause-licensed : goal.returns-clause-licensed
returns-clause-licensed c = widths_fit

pub returns-clause-read_back : goal.returns-clause-read_back
returns-clause-read_back c = widths_read_back
