use Rattle.std.proofs.Common.{◌≡◌, ℕ, ◌<◌, drop, length}
use Rattle.ae_check.specs.Inner.Coding as spec
use Rattle.ae_check.specs.Inner.Coding.{AreBefore}
use Rattle.ae_check.proofs.propagation.refutes.Given as goal

abbrev pub invariant-loop-i : goal.invariant-loop-i
invariant-loop-i l = record {
  count : l.count ≡ length l.hints;
  answer : spec.refutes l.now l.stamps.items l.clauses (drop l.i l.hints) ≡ spec.refutes l.now (spec.all_stamped l.now l.fn.stamps.items l.codes) l.clauses l.hints;
  size : length l.stamps.items ≡ length l.fn.stamps.items;
  before : (m : ℕ) → l.now < m → AreBefore m l.fn.stamps.items → AreBefore m l.stamps.items;
}
