use Rattle.std.proofs.Common.{refl}
use Rattle.ae_state.proofs.holding.empty.Goals as goal

pub returns-clause-empty : goal.returns-clause-empty
returns-clause-empty c = record {
  shapes = c.new.ensures;
  justs = c.new-2.ensures;
  entries = c.new-3.ensures.entries;
  taken = c.new-3.ensures.taken;
  rows = c.new-3.ensures.numbers;
  leaves = c.new-3.ensures.none;
  rules = c.new-4.ensures.rules;
  pairs = c.new-4.ensures.pairs;
  waiting = c.new-4.ensures.waiting;
  assumed = c.new-5.ensures;
  next = refl;
}
