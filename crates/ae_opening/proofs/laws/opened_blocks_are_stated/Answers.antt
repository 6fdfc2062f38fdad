use Rattle.ae_opening.proofs.Asked.{asking, asked}
use Rattle.ae_opening.proofs.Opened.{stated, still_apart, comes, fewer}
use Rattle.ae_opening.proofs.laws.opened_blocks_are_stated.Goals as goal

pub returns-clause-allowed : goal.returns-clause-allowed
returns-clause-allowed c = λ p g n m f old new l d lines o below own ok. stated f n m old new l d o p g lines below own ok

pub returns-clause-apart : goal.returns-clause-apart
returns-clause-apart c = λ f n m old new l d o a k. still_apart f n m old new l d o a k

pub returns-clause-possible : goal.returns-clause-possible
returns-clause-possible c = λ x js f n m old new l d o of numbered. comes f n m old new l d o x js of numbered

pub returns-clause-falls : goal.returns-clause-falls
returns-clause-falls c = λ clauses f n m old new l d o h k. fewer f n m old new l d o clauses h k

pub returns-clause-asking : goal.returns-clause-asking
returns-clause-asking c = asking

pub returns-clause-asked : goal.returns-clause-asked
returns-clause-asked c = asked
