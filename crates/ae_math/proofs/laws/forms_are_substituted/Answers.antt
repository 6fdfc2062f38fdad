use Rattle.ae_math.proofs.FormLaws.{substitute-same, substitute_plus, substitute_scale, substitute_gone, substitute_absent}
use Rattle.ae_math.proofs.laws.forms_are_substituted.Goals as goal

pub returns-clause-same : goal.returns-clause-same
returns-clause-same g c = substitute-same

pub returns-clause-in_sums : goal.returns-clause-in_sums
returns-clause-in_sums g c = substitute_plus

pub returns-clause-in_multiples : goal.returns-clause-in_multiples
returns-clause-in_multiples g c = substitute_scale

pub returns-clause-gone : goal.returns-clause-gone
returns-clause-gone g c = substitute_gone

pub returns-clause-absent : goal.returns-clause-absent
returns-clause-absent g c = substitute_absent
