use Rattle.ae_multiset.proofs.Examples.{three_decrease, three_overlaps_join}
use Rattle.ae_multiset_tests.proofs.tests.the_laws_apply_to_the_example.Goals as goal

pub descent-requires : goal.descent-requires
descent-requires c = record { decreases = three_decrease }

pub confluence-requires-clause-decreases : goal.confluence-requires-clause-decreases
confluence-requires-clause-decreases c = three_decrease

pub confluence-requires-clause-overlaps : goal.confluence-requires-clause-overlaps
confluence-requires-clause-overlaps c = three_overlaps_join

pub normal_forms-requires-clause-decreases : goal.normal_forms-requires-clause-decreases
normal_forms-requires-clause-decreases c = three_decrease

pub normal_forms-requires-clause-overlaps : goal.normal_forms-requires-clause-overlaps
normal_forms-requires-clause-overlaps c = three_overlaps_join
