use Rattle.ae_exact_names.proofs.Consequences.{same_is_consequence, same_is_plain_consequence}
use Rattle.ae_exact_names.proofs.PlainSides.{plain_names_make_plain_steps}
use Rattle.ae_exact_names.proofs.SameValues.{plain_consequences_are_same, predicates_are_themselves_alone}
use Rattle.ae_exact_names.proofs.laws.same_is_exact.Goals as goal

pub returns-clause-consequence : goal.returns-clause-consequence
returns-clause-consequence c = same_is_consequence c.first_values_have_a_step.ensures.leaf c.names_of_one_value_have_a_step.ensures

pub returns-clause-steps : goal.returns-clause-steps
returns-clause-steps c = plain_names_make_plain_steps

pub returns-clause-plain : goal.returns-clause-plain
returns-clause-plain c = same_is_plain_consequence c.first_values_have_a_step.ensures.leaf c.names_of_one_value_have_a_step.ensures

pub returns-clause-same : goal.returns-clause-same
returns-clause-same c = plain_consequences_are_same c.names_with_equal_values.ensures.consequences

pub returns-clause-predicates : goal.returns-clause-predicates
returns-clause-predicates c = predicates_are_themselves_alone
