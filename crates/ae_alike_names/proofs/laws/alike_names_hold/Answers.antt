use Rattle.ae_alike_names.proofs.EqualNow.{alike_names_are_equal_now}
use Rattle.ae_alike_names.proofs.Searches.{assumed_literals_may_stand, alike_names_are_equal_in_searches}
use Rattle.ae_alike_names.proofs.laws.alike_names_hold.Goals as goal

pub returns-clause-names : goal.returns-clause-names
returns-clause-names c = alike_names_are_equal_now c.same_is_exact.ensures.consequence c.same_is_exact.ensures.predicates

pub returns-clause-assumed : goal.returns-clause-assumed
returns-clause-assumed c = assumed_literals_may_stand

pub returns-clause-searches : goal.returns-clause-searches
returns-clause-searches c = alike_names_are_equal_in_searches c.same_is_exact.ensures.consequence c.same_is_exact.ensures.predicates
