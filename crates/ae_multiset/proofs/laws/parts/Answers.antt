use Rattle.std.proofs.Common.{arith}
use Rattle.ae_multiset.specs.Multisets.{minus}
use Rattle.ae_multiset.proofs.Counts.{count-append, count-minus, count-common, count-union}
use Rattle.ae_multiset.proofs.laws.parts.Goals as goal

pub returns-clause-rest : goal.returns-clause-rest
returns-clause-rest c a b p = record { each = λ x. omega (arith, p.each x, count-append x a (minus b a), count-minus x b a) }

pub returns-clause-of_sum : goal.returns-clause-of_sum
returns-clause-of_sum c a b = record { each = λ x. omega (arith, count-append x a b) }

pub returns-clause-common_of_first : goal.returns-clause-common_of_first
returns-clause-common_of_first c a b = record { each = λ x. omega (arith, count-common x a b) }

pub returns-clause-common_of_second : goal.returns-clause-common_of_second
returns-clause-common_of_second c a b = record { each = λ x. omega (arith, count-common x a b) }

pub returns-clause-common_greatest : goal.returns-clause-common_greatest
returns-clause-common_greatest c a b d p q = record { each = λ x. omega (arith, p.each x, q.each x, count-common x a b) }

pub returns-clause-union_over_first : goal.returns-clause-union_over_first
returns-clause-union_over_first c a b = record { each = λ x. omega (arith, count-union x a b) }

pub returns-clause-union_over_second : goal.returns-clause-union_over_second
returns-clause-union_over_second c a b = record { each = λ x. omega (arith, count-union x a b) }

pub returns-clause-union_least : goal.returns-clause-union_least
returns-clause-union_least c a b d p q = record { each = λ x. omega (arith, p.each x, q.each x, count-union x a b) }
