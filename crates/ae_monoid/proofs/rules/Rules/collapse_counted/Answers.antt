use Rattle.std.specs.Prelude.{ℕ, List}
use Rattle.std.specs.List.{Contains}
use Rattle.std.proofs.Common.{subst}
use Rattle.ae_monoid.specs.Rules.{rule_at}
use Rattle.ae_monoid.specs.Changes.{IsReducible}
use Rattle.ae_monoid.proofs.Listings.{stands, taken_from}
use Rattle.ae_monoid.proofs.rules.Rules.collapse_counted.Goals as goal

pub take_out-requires : goal.take_out-requires
take_out-requires g c = record { stand = λ n t e. stands ((c.in_ok-numbers.ensures.are n).0 (subst (λ (ns : List ℕ). Contains ns n) c.deref.ensures.value t)).there e }

pub returns-clause-pairs : goal.returns-clause-pairs
returns-clause-pairs g c =
    taken_from (λ n. rule_at c.args.self.now n) (λ n. rule_at c.take_out.new.self n) (λ n. IsReducible (λ m. rule_at c.args.self.now m) n) c.in_ok-numbers.numbers.items c.deref.result.now c.take_out.result c.deref.ensures.value
    c.in_ok-numbers.ensures.different c.in_ok-numbers.ensures.are c.take_out.ensures.equations c.take_out.ensures.gone c.take_out.ensures.others
