use Rattle.ae_rules.proofs.SortedLines.{stated_sorted}
use Rattle.ae_rules.proofs.laws.stated_formulas_are_sorted.Goals as goal

pub returns : goal.returns
returns c = stated_sorted
