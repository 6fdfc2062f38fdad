use Rattle.std.proofs.Common.{sym}
use Rattle.ae_multiset.proofs.Rising.{count-rising, rising_rises, one_spelling}
use Rattle.ae_multiset.proofs.laws.spelling.Goals as goal

pub returns-clause-same : goal.returns-clause-same
returns-clause-same c a = record { each = λ x. sym (count-rising x a) }

pub returns-clause-rises : goal.returns-clause-rises
returns-clause-rises c a = rising_rises a

pub returns-clause-one : goal.returns-clause-one
returns-clause-one c a b p q s = one_spelling a b p q s
