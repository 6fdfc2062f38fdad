use Rattle.ae_multiset.proofs.Counts.{count-append, count-minus, count-common, count-union, length_same}
use Rattle.ae_multiset.proofs.laws.counts.Goals as goal

pub returns-clause-sum : goal.returns-clause-sum
returns-clause-sum c x a b = count-append x a b

pub returns-clause-difference : goal.returns-clause-difference
returns-clause-difference c x a b = count-minus x a b

pub returns-clause-common : goal.returns-clause-common
returns-clause-common c x a b = count-common x a b

pub returns-clause-union : goal.returns-clause-union
returns-clause-union c x a b = count-union x a b

pub returns-clause-size : goal.returns-clause-size
returns-clause-size c a b s = length_same a b s
