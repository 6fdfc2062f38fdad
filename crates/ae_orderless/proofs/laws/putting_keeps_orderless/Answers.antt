use Rattle.ae_orderless.proofs.Forms.{orderless_instance, orderless_put}
use Rattle.ae_orderless.proofs.laws.putting_keeps_orderless.Goals as goal

pub returns-clause-sorts : goal.returns-clause-sorts
returns-clause-sorts c = orderless_instance

pub returns-clause-terms : goal.returns-clause-terms
returns-clause-terms c ts f = orderless_put ts f 0
