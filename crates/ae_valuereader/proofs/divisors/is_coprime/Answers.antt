use Rattle.ae_valuereader.proofs.Divides.{coprime_by}
use Rattle.ae_valuereader.proofs.divisors.is_coprime.Goals as goal

pub returns : goal.returns
returns c = coprime_by c.args.left c.args.right c.gcd.result c.requires c.gcd.ensures
