use Rattle.ae_block_constants.proofs.Another.{none_apart, another_apart}
use Rattle.ae_block_constants.proofs.Numbers.{first_of, agrees, own_numbers}
use Rattle.ae_block_constants.proofs.laws.blocks_have_own_constants.Goals as goal

pub returns-clause-numbering : goal.returns-clause-numbering
returns-clause-numbering c = λ next opened apart. (first_of next opened, agrees next opened apart, own_numbers next opened apart)

pub returns-clause-journals : goal.returns-clause-journals
returns-clause-journals c = λ x js own. λ f h i j a b l m e. own f h i j l m e

pub returns-clause-none : goal.returns-clause-none
returns-clause-none c = none_apart

pub returns-clause-another : goal.returns-clause-another
returns-clause-another c = λ next opened o apart at new. another_apart next opened o apart at new
