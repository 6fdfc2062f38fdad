use Rattle.std.proofs.Common.{◌≡◌, ◌≤◌, ◌+◌, ◌*◌, ◌-◌, length, drop}
use Rattle.ae_readers.specs.Readers.{row_read, before}
use Rattle.ae_termreader.specs.Terms.{round_terms}
use Rattle.ae_termreader.proofs.terms.+read_term.Given as goal

abbrev pub decreases-read_term : goal.decreases-read_term
decreases-read_term l = 9 * (length l.text.now - l.at) + 1

abbrev pub decreases-read_by_byte : goal.decreases-read_by_byte
decreases-read_by_byte l = 9 * (length l.text.now - l.at)

abbrev pub decreases-read_bracket : goal.decreases-read_bracket
decreases-read_bracket l = 9 * (length l.text.now - l.at) + 8

abbrev pub decreases-read_inner : goal.decreases-read_inner
decreases-read_inner l = 9 * (length l.text.now - l.at) + 7

abbrev pub decreases-read_applied : goal.decreases-read_applied
decreases-read_applied l = 9 * (length l.text.now - l.at) + 6

abbrev pub decreases-read_arguments : goal.decreases-read_arguments
decreases-read_arguments l = 9 * (length l.text.now - l.at) + 4

abbrev pub decreases-read_behind : goal.decreases-read_behind
decreases-read_behind l = 9 * (length l.text.now - l.at) + 3

abbrev pub decreases-read_term_row : goal.decreases-read_term_row
decreases-read_term_row l = 9 * (length l.text.now - l.from) + 2

abbrev pub invariant-read_term_row-values : goal.invariant-read_term_row-values
invariant-read_term_row-values l = (l.from ≤ l.at)
    × (l.from ≤ length l.text → l.at ≤ length l.text)
    × (row_read (round_terms l.tables.signature.now l.env) (drop l.from l.text) ≡ before l.terms (row_read (round_terms l.tables.signature.now l.env) (drop l.at l.text)))

abbrev pub decreases-read_term_row-values : goal.decreases-read_term_row-values
decreases-read_term_row-values l = length l.text - l.at
