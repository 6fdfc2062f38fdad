use Rattle.ae_multiset.proofs.Counts.{less_same, less-append}
use Rattle.ae_multiset.proofs.Comparing.{less_total, less_differs, less_then}
use Rattle.ae_multiset.proofs.Descent.{less_ends}
use Rattle.ae_multiset.proofs.Ranks.{rank_falls, none_above}
use Rattle.ae_multiset.proofs.laws.order.Goals as goal

pub returns-clause-total : goal.returns-clause-total
returns-clause-total c a b = less_total a b

pub returns-clause-different : goal.returns-clause-different
returns-clause-different c a b l s = less_differs a b l s

pub returns-clause-transitive : goal.returns-clause-transitive
returns-clause-transitive c a b d l m = less_then l m

pub returns-clause-alike : goal.returns-clause-alike
returns-clause-alike c a b d e s t l = less_same s t l

pub returns-clause-closed : goal.returns-clause-closed
returns-clause-closed c a b d l = less-append d l

pub returns-clause-well_founded : goal.returns-clause-well_founded
returns-clause-well_founded c = record { apply = less_ends }

pub returns-clause-falls : goal.returns-clause-falls
returns-clause-falls c size names a b s p q l = rank_falls size names a b s (none_above names a p) (none_above names b q) l
