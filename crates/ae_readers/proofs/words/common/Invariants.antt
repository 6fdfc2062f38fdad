use Rattle.std.proofs.Common.{length, ◌-◌, ◌+◌, ◌≡◌, ◌≤◌, drop}
use Rattle.ae_readers.specs.Readers.{common}
use Rattle.ae_readers.proofs.words.common.Given as goal

abbrev pub invariant-loop-n : goal.invariant-loop-n
invariant-loop-n l = (l.n ≤ length l.word) × (common l.fn.word (drop l.fn.at l.text) ≡ l.n + common (drop l.n l.word) (drop l.i l.text))

abbrev pub decreases-loop-n : goal.decreases-loop-n
decreases-loop-n l = length l.word - l.n
