use Rattle.ae_num.proofs.UniqueLaws.{unique}
use Rattle.ae_num.proofs.laws.normal_forms_are_unique.Goals as goal

pub returns : goal.returns
returns c = unique
