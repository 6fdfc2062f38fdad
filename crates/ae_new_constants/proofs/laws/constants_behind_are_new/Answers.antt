use Rattle.ae_new_constants.proofs.Lists.{rising}
use Rattle.ae_new_constants.proofs.Lines.{fresh_allowed, fresh_line, stated_below}
use Rattle.ae_new_constants.proofs.laws.constants_behind_are_new.Goals as goal

pub returns-clause-allowed : goal.returns-clause-allowed
returns-clause-allowed c = λ p g n lines f d all a ok e. fresh_allowed p g n f a lines d all ok e

pub returns-clause-behind : goal.returns-clause-behind
returns-clause-behind c = λ p g n f a. fresh_line p g n f a

pub returns-clause-stated : goal.returns-clause-stated
returns-clause-stated c = λ p g n l d a e. stated_below n p g l d a e

pub returns-clause-rising : goal.returns-clause-rising
returns-clause-rising c = rising
