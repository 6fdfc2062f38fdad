use Rattle.ae_alike_names.proofs.SameTerms.{alike_names_are_same}
use Rattle.ae_alike_names.proofs.laws.alike_names_are_same.Goals as goal

pub returns : goal.returns
returns c = alike_names_are_same c.same_is_exact.ensures.predicates
