use Rattle.ae_math.proofs.Divisors.{gcd_exists, gcd_multiples, euclid, lowest_exists, lowest_unique}
use Rattle.std.proofs.lemmas.Nat.Gcd.{same_from_IsGcd}
use Rattle.ae_math.proofs.laws.divisors_are_common.Goals as goal

pub returns-clause-exists : goal.returns-clause-exists
returns-clause-exists c = gcd_exists

pub returns-clause-one : goal.returns-clause-one
returns-clause-one c = same_from_IsGcd

pub returns-clause-of_multiples : goal.returns-clause-of_multiples
returns-clause-of_multiples c = gcd_multiples

pub returns-clause-euclid : goal.returns-clause-euclid
returns-clause-euclid c = euclid

pub returns-clause-lowest_exists : goal.returns-clause-lowest_exists
returns-clause-lowest_exists c = lowest_exists

pub returns-clause-lowest_is_one : goal.returns-clause-lowest_is_one
returns-clause-lowest_is_one c = lowest_unique
