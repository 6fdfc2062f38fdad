use Rattle.std.proofs.Common.{ℕ, ◌-◌, length}
use Rattle.ae_lex.specs.Lexis.{is_digit, value}
use Rattle.ae_lex.specs.Inner.Pieces.{IsValue}
use Rattle.ae_lex.proofs.Parts.{InRun}
use Rattle.ae_lex.proofs.numerals.digits.Given as goal

abbrev pub invariant-loop-byte : goal.invariant-loop-byte
invariant-loop-byte l = (r : InRun is_digit l.text l.fn.from l.at) × ((v : ℕ) → IsValue l.fn.before v → IsValue l.value (value v r.w))

abbrev pub decreases-loop-byte : goal.decreases-loop-byte
decreases-loop-byte l = length l.text - l.at
