use Rattle.ae_math.proofs.FormLaws.{same_refl, same_sym, same_trans, plus-same, scale-same}
use Rattle.ae_math.proofs.laws.forms_are_the_same.Goals as goal

pub returns-clause-reflexive : goal.returns-clause-reflexive
returns-clause-reflexive g c = same_refl

pub returns-clause-symmetric : goal.returns-clause-symmetric
returns-clause-symmetric g c = same_sym

pub returns-clause-transitive : goal.returns-clause-transitive
returns-clause-transitive g c = same_trans

pub returns-clause-sums : goal.returns-clause-sums
returns-clause-sums g c = plus-same

pub returns-clause-multiples : goal.returns-clause-multiples
returns-clause-multiples g c = scale-same
