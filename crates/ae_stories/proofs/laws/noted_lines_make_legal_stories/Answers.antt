use Rattle.ae_stories.proofs.Legal.{legal_story, legal_width}
use Rattle.ae_stories.proofs.laws.noted_lines_make_legal_stories.Goals as goal

pub returns-clause-legal : goal.returns-clause-legal
returns-clause-legal c = λ p g s fresh js bound reach store named legal. legal_story p g s fresh js bound reach store named legal

pub returns-clause-wide : goal.returns-clause-wide
returns-clause-wide c = λ p g s fresh js bound limit at reach store named legal few licensed. legal_width p g s fresh js bound reach store named legal limit at few licensed
