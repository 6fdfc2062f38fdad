use Rattle.ae_free.proofs.GrownLaws.{one_sort}
use Rattle.ae_free.proofs.laws.applications_of_one_symbol_have_one_sort.Goals as goal

pub returns : goal.returns
returns c = one_sort
