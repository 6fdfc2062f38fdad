use Rattle.std.proofs.Common.{List, subst}
use Rattle.ae_ages.specs.declared.entries.Aged.{Aged}
use Rattle.ae_first_round.specs.Inner.First.{AreAllBrought}
use Rattle.ae_first_round.proofs.naming.first_named.Goals as goal

pub returns : goal.returns
returns c = record {
  right = c.len-count.ensures.store;
  before = c.in_ok-store.store;
  signature = c.in_ok-store.ensures.signature;
  empty = c.in_ok-store.ensures.empty;
  brought = subst (λ (es : List Aged). AreAllBrought c.in_ok-store.store es c.bring_clauses.new.store c.bring_clauses.new.ages c.args.clauses.now) c.new-ages.ensures c.in_ok-bring_clauses.ensures;
}
