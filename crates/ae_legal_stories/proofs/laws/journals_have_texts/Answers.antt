use Rattle.ae_legal_stories.proofs.Stories.{stories_fit, stories_read_back}
use Rattle.ae_legal_stories.proofs.laws.journals_have_texts.Goals as goal

pub returns-clause-legal : goal.returns-clause-legal
returns-clause-legal c = stories_fit

pub returns-clause-read_back : goal.returns-clause-read_back
returns-clause-read_back c = stories_read_back
