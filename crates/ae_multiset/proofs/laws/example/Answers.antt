use Rattle.std.proofs.Common.{refl}
use Rattle.ae_multiset.specs.Multisets.{rising}
use Rattle.ae_multiset.proofs.Examples.{three_decrease, three_overlaps_join, found_by_two, found_by_three, alone}
use Rattle.ae_multiset.proofs.laws.example.Goals as goal

pub returns-clause-overlap_first : goal.returns-clause-overlap_first
unfolding rising
returns-clause-overlap_first c = refl

pub returns-clause-overlap_second : goal.returns-clause-overlap_second
unfolding rising
returns-clause-overlap_second c = refl

pub returns-clause-decreases : goal.returns-clause-decreases
returns-clause-decreases c = three_decrease

pub returns-clause-overlaps : goal.returns-clause-overlaps
returns-clause-overlaps c = three_overlaps_join

pub returns-clause-two : goal.returns-clause-two
returns-clause-two c = found_by_two

pub returns-clause-three : goal.returns-clause-three
returns-clause-three c = found_by_three

pub returns-clause-alone : goal.returns-clause-alone
returns-clause-alone c b f r = alone b f r
