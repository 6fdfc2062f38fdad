use Rattle.std.specs.Prelude.{IfOk, List, ℕ}
use Rattle.std.proofs.Common.{subst}
use Rattle.ae_store.specs.Shapes.{shapes}
use Rattle.ae_store.specs.Terms.{terms}
use Rattle.ae_store.proofs.EnterLaws.{front_same}
use Rattle.ae_multiset_steps.specs.Equating.{RestsOnThese}
use Rattle.ae_multiset_steps.proofs.Allowances.{longer_step}
use Rattle.ae_multiset_steps.proofs.longer.lengthened.Goals as goal

pub returns-in_err-premises-clause-kept : goal.returns-in_err-premises-clause-kept
returns-in_err-premises-clause-kept c = front_same c.args.justs.now

pub add_many-requires-clause-allowed : goal.add_many-requires-clause-allowed
add_many-requires-clause-allowed c =
    longer_step c.args.store.now.signature (terms (shapes c.args.store.now.nodes)) c.args.justs.now c.args.symbol.now c.longer_multisets_have_a_step.ensures c.args.left.now c.args.right.now c.args.many c.args.names
    c.in_ok-premises.premises c.in_ok-premises.ensures c.requires.sorted c.requires.longer

pub returns-clause-rests : goal.returns-clause-rests
returns-clause-rests c = subst (λ (ps : List ℕ). IfOk c.add_many.result (λ id. RestsOnThese c.args.justs.now c.add_many.new.justs id ps)) c.in_ok-premises.ensures c.add_many.ensures.rests

pub add_many-requires-clause-built : goal.add_many-requires-clause-built
add_many-requires-clause-built c = c.requires.sorted.of_names

pub add_many-requires-clause-factors : goal.add_many-requires-clause-factors
add_many-requires-clause-factors c = tt
