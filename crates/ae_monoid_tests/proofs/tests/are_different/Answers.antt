use Rattle.ae_multiset.proofs.Comparing.{less_differs}
use Rattle.ae_multiset.proofs.Counts.{back}
use Rattle.ae_monoid_tests.proofs.tests.are_different.Goals as goal

pub returns-in-Less : goal.returns-in-Less
returns-in-Less c = less_differs c.args.one.now c.args.other.now c.in-Less.ensures

pub returns-in-Greater : goal.returns-in-Greater
returns-in-Greater c = λ s. less_differs c.args.other.now c.args.one.now c.in-Greater.ensures (back s)
