use Rattle.ae_num.specs.Forms.{meaning}
use Rattle.ae_store.specs.Shapes.{shapes}
use Rattle.ae_store.specs.Terms.{terms}
use Rattle.ae_first_values.proofs.Limits.{sum_within, difference_within, difference_means}
use Rattle.ae_first_values.proofs.Written.{difference_written}
use Rattle.ae_first_values.proofs.operations.difference.Goals as goal

pub state_difference-requires-clause-difference : goal.state_difference-requires-clause-difference
state_difference-requires-clause-difference c =
    difference_means (meaning c.args.left.now.value.now) (meaning c.in_ok-turned.turned) (meaning c.args.right.now.value.now) (meaning c.in_ok-value.value) c.in_ok-value.ensures.exact c.in_ok-turned.ensures.meaning

pub state_difference-requires-clause-written : goal.state_difference-requires-clause-written
state_difference-requires-clause-written c =
    let s = c.args.store.now in
    let m = difference_means (meaning c.args.left.now.value.now) (meaning c.in_ok-turned.turned) (meaning c.args.right.now.value.now) (meaning c.in_ok-value.value) c.in_ok-value.ensures.exact c.in_ok-turned.ensures.meaning in
    difference_written s.signature (terms (shapes s.nodes)) c.args.real c.args.name c.requires.name c.in_ok-value.value c.in_ok-value.ensures.normal c.args.left.now.name c.args.right.now.name c.args.left.now.value.now c.args.right.now.value.now
    c.requires.left.written c.requires.right.written m

pub state_difference-requires-clause-within : goal.state_difference-requires-clause-within
state_difference-requires-clause-within c =
    difference_within c.multiples_are_over_the_product.ensures c.args.left.now.value.now c.args.right.now.value.now c.in_ok-turned.turned c.requires.left.written.normal c.requires.right.written.normal c.in_ok-turned.ensures.normal c.in_ok-turned.ensures.meaning
    (sum_within c.args.left.now.value.now c.in_ok-turned.turned c.in_ok-value.ensures.fits)

pub returns-clause-difference : goal.returns-clause-difference
returns-clause-difference c =
    difference_means (meaning c.args.left.now.value.now) (meaning c.in_ok-turned.turned) (meaning c.args.right.now.value.now) (meaning c.in_ok-value.value) c.in_ok-value.ensures.exact c.in_ok-turned.ensures.meaning

pub returns-clause-written : goal.returns-clause-written
returns-clause-written c =
    let s = c.args.store.now in
    let m = difference_means (meaning c.args.left.now.value.now) (meaning c.in_ok-turned.turned) (meaning c.args.right.now.value.now) (meaning c.in_ok-value.value) c.in_ok-value.ensures.exact c.in_ok-turned.ensures.meaning in
    difference_written s.signature (terms (shapes s.nodes)) c.args.real c.args.name c.requires.name c.in_ok-value.value c.in_ok-value.ensures.normal c.args.left.now.name c.args.right.now.name c.args.left.now.value.now c.args.right.now.value.now
    c.requires.left.written c.requires.right.written m
