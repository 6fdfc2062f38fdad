use Rattle.ae_search_stories.proofs.Legal.{legal_story, legal_width}
use Rattle.ae_told_searches.proofs.Told.{legal_however, licensed_however}
use Rattle.ae_told_searches.proofs.laws.searches_are_told.Goals as goal

pub returns-clause-steps : goal.returns-clause-steps
returns-clause-steps c = λ p g limit bound next s opened lines js store apart lawful full. (legal_story p g bound next s opened js store apart (legal_however p g bound s opened lines js lawful), full)

pub returns-clause-number : goal.returns-clause-number
returns-clause-number c = λ p g limit bound next s opened lines js at store apart lawful few licensed.
    legal_width p g bound next s opened js store apart (legal_however p g bound s opened lines js lawful) limit at few (licensed_however p g bound s opened lines js at licensed)
