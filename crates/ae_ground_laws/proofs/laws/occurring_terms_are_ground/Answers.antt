use Rattle.ae_ground_laws.proofs.Chosen.{choice_ground, choice_sorted}
use Rattle.ae_ground_laws.proofs.OccurringTerms.{occurs_ground}
use Rattle.ae_ground_laws.proofs.laws.occurring_terms_are_ground.Goals as goal

pub returns-clause-terms : goal.returns-clause-terms
returns-clause-terms c = λ p g t law reach ground o. occurs_ground p g law reach ground t o

pub returns-clause-constructors : goal.returns-clause-constructors
returns-clause-constructors c = λ sig t s hs h law so are k. (choice_ground sig law t s hs h so are k, choice_sorted sig law t s hs h so are k)
