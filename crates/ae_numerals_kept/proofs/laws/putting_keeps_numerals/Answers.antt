use Rattle.ae_numerals_kept.proofs.Lowest.{instance_lowest, put_lowest}
use Rattle.ae_numerals_kept.proofs.laws.putting_keeps_numerals.Goals as goal

pub returns-clause-sorts : goal.returns-clause-sorts
returns-clause-sorts c = instance_lowest

pub returns-clause-terms : goal.returns-clause-terms
returns-clause-terms c ts f a w = put_lowest ts a f w
