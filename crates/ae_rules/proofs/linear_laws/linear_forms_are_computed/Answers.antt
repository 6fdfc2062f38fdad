use Rattle.ae_math.proofs.FormLaws.{value-same}
use Rattle.ae_core.specs.Decided.{Term_discrete}
use Rattle.ae_rules.proofs.LinearLaws.{form-Num, form-Fresh, opaque_symbol, int_sum, real_sum, int_difference, real_difference, int_negation, real_negation, int_product, real_product, real_quotient, lin_respects}
use Rattle.ae_rules.proofs.linear_laws.linear_forms_are_computed.Goals as goal

pub returns-clause-numerals : goal.returns-clause-numerals
returns-clause-numerals c = form-Num

pub returns-clause-int_sums : goal.returns-clause-int_sums
returns-clause-int_sums c = int_sum

pub returns-clause-real_sums : goal.returns-clause-real_sums
returns-clause-real_sums c = real_sum

pub returns-clause-int_differences : goal.returns-clause-int_differences
returns-clause-int_differences c = int_difference

pub returns-clause-real_differences : goal.returns-clause-real_differences
returns-clause-real_differences c = real_difference

pub returns-clause-int_negations : goal.returns-clause-int_negations
returns-clause-int_negations c = int_negation

pub returns-clause-real_negations : goal.returns-clause-real_negations
returns-clause-real_negations c = real_negation

pub returns-clause-int_products : goal.returns-clause-int_products
returns-clause-int_products c = int_product

pub returns-clause-real_products : goal.returns-clause-real_products
returns-clause-real_products c = real_product

pub returns-clause-real_quotients : goal.returns-clause-real_quotients
returns-clause-real_quotients c = real_quotient

pub returns-clause-same_values : goal.returns-clause-same_values
returns-clause-same_values c = value-same Term_discrete

pub returns-clause-combinations : goal.returns-clause-combinations
returns-clause-combinations c = lin_respects

pub returns-clause-fresh_constants : goal.returns-clause-fresh_constants
returns-clause-fresh_constants c = form-Fresh

pub returns-clause-symbols : goal.returns-clause-symbols
returns-clause-symbols c = opaque_symbol
