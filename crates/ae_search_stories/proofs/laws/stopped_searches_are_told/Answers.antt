use Rattle.ae_search_stories.proofs.Legal.{legal_story, legal_width}
use Rattle.ae_search_stories.proofs.laws.stopped_searches_are_told.Goals as goal

pub returns-clause-legal : goal.returns-clause-legal
returns-clause-legal c = λ p g bound next s opened js store apart lawful. legal_story p g bound next s opened js store apart lawful

pub returns-clause-wide : goal.returns-clause-wide
returns-clause-wide c = λ p g limit bound next s opened js at store apart lawful few licensed. legal_width p g bound next s opened js store apart lawful limit at few licensed

pub returns-clause-steps : goal.returns-clause-steps
returns-clause-steps c = λ p g limit bound next s opened js store apart lawful full. (legal_story p g bound next s opened js store apart lawful, full)

pub returns-clause-number : goal.returns-clause-number
returns-clause-number c = λ p g limit bound next s opened js at store apart lawful few licensed. legal_width p g bound next s opened js store apart lawful limit at few licensed
