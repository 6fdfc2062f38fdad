use Rattle.std.proofs.Common.{◌+◌, ◌*◌, ◌-◌, length}
use Rattle.ae_formulareader.proofs.formulas.+read_formula.Given as goal

abbrev pub decreases-read_formula : goal.decreases-read_formula
decreases-read_formula l = 9 * (length l.text.now - l.at) + 1

abbrev pub decreases-read_by_byte : goal.decreases-read_by_byte
decreases-read_by_byte l = 9 * (length l.text.now - l.at) + 0

abbrev pub decreases-read_bracket : goal.decreases-read_bracket
decreases-read_bracket l = 9 * (length l.text.now - l.at) + 8

abbrev pub decreases-read_worded : goal.decreases-read_worded
decreases-read_worded l = 9 * (length l.text.now - l.at) + 7

abbrev pub decreases-read_opened : goal.decreases-read_opened
decreases-read_opened l = 9 * (length l.text.now - l.at) + 6

abbrev pub decreases-read_negation : goal.decreases-read_negation
decreases-read_negation l = 9 * (length l.text.now - l.at) + 5

abbrev pub decreases-read_boxed : goal.decreases-read_boxed
decreases-read_boxed l = 9 * (length l.text.now - l.at) + 2

abbrev pub decreases-read_two_formulas : goal.decreases-read_two_formulas
decreases-read_two_formulas l = 9 * (length l.text.now - l.at) + 5

abbrev pub decreases-read_quant : goal.decreases-read_quant
decreases-read_quant l = 9 * (length l.text.now - l.at) + 5
