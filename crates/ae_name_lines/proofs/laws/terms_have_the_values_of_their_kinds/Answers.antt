use Rattle.ae_name_lines.proofs.KindValues.{numerals_are_numbers, operations_are_stated, fields_follow_records, written_fields_are_arguments, unsolved_terms_are_leaves}
use Rattle.ae_name_lines.proofs.NewNames.{own_numbers_are_own, own_leaves_are_own}
use Rattle.ae_name_lines.proofs.laws.terms_have_the_values_of_their_kinds.Goals as goal

pub returns-clause-numerals : goal.returns-clause-numerals
returns-clause-numerals c = numerals_are_numbers

pub returns-clause-operations : goal.returns-clause-operations
returns-clause-operations c = operations_are_stated

pub returns-clause-fields : goal.returns-clause-fields
returns-clause-fields c = fields_follow_records

pub returns-clause-written : goal.returns-clause-written
returns-clause-written c = written_fields_are_arguments

pub returns-clause-unsolved : goal.returns-clause-unsolved
returns-clause-unsolved c = unsolved_terms_are_leaves c.values_have_shapes.ensures.records

pub returns-clause-own_number : goal.returns-clause-own_number
returns-clause-own_number c = own_numbers_are_own

pub returns-clause-own_leaf : goal.returns-clause-own_leaf
returns-clause-own_leaf c = own_leaves_are_own
