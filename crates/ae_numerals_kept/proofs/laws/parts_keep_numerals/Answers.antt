use Rattle.ae_journal.proofs.Splits.{all_contained}
use Rattle.ae_journal.specs.States.{outside}
use Rattle.ae_journal.specs.Systems.{field_terms}
use Rattle.ae_numerals_kept.specs.Lowest.{IsLowestTerm}
use Rattle.ae_numerals_kept.proofs.Lowest.{part_lowest, outside_lowest, arguments_lowest, fields_lowest}
use Rattle.ae_numerals_kept.proofs.laws.parts_keep_numerals.Goals as goal

pub returns-clause-parts : goal.returns-clause-parts
returns-clause-parts c = part_lowest

pub returns-clause-outside : goal.returns-clause-outside
returns-clause-outside c f t w i = all_contained IsLowestTerm (outside f) t (outside_lowest f w) i

pub returns-clause-arguments : goal.returns-clause-arguments
returns-clause-arguments c h ss us t w i = all_contained IsLowestTerm us t (arguments_lowest h ss us w) i

pub returns-clause-fields : goal.returns-clause-fields
returns-clause-fields c s u t n w i = all_contained IsLowestTerm (field_terms s u n) t (fields_lowest s u n w) i
