use Rattle.ae_multiset.specs.Normal.{IsRule}
use Rattle.ae_multiset.proofs.Reducing.{follows-less, is_normal_form}
use Rattle.ae_multiset.proofs.laws.normal_form_by_rules.Goals as goal

pub returns-clause-found : goal.returns-clause-found
returns-clause-found c rules d = is_normal_form rules d

pub returns-clause-below : goal.returns-clause-below
returns-clause-below c rules d a = follows-less (IsRule rules) d ((is_normal_form rules d).follows a)
