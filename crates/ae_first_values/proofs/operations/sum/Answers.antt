use Rattle.ae_store.specs.Shapes.{shapes}
use Rattle.ae_store.specs.Terms.{terms}
use Rattle.ae_first_values.proofs.Limits.{sum_within}
use Rattle.ae_first_values.proofs.Written.{sum_written}
use Rattle.ae_first_values.proofs.operations.sum.Goals as goal

pub state_sum-requires-clause-written : goal.state_sum-requires-clause-written
state_sum-requires-clause-written c =
    let s = c.args.store.now in
    sum_written s.signature (terms (shapes s.nodes)) c.args.real c.args.name c.requires.name c.in_ok-value.value c.in_ok-value.ensures.normal c.args.left.now.name c.args.right.now.name c.args.left.now.value.now c.args.right.now.value.now
    c.requires.left.written c.requires.right.written c.in_ok-value.ensures.exact

pub state_sum-requires-clause-within : goal.state_sum-requires-clause-within
state_sum-requires-clause-within c = sum_within c.args.left.now.value.now c.args.right.now.value.now c.in_ok-value.ensures.fits

pub returns-clause-written : goal.returns-clause-written
returns-clause-written c =
    let s = c.args.store.now in
    sum_written s.signature (terms (shapes s.nodes)) c.args.real c.args.name c.requires.name c.in_ok-value.value c.in_ok-value.ensures.normal c.args.left.now.name c.args.right.now.name c.args.left.now.value.now c.args.right.now.value.now
    c.requires.left.written c.requires.right.written c.in_ok-value.ensures.exact
