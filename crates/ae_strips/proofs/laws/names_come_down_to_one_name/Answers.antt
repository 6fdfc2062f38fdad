use Rattle.ae_strips.proofs.Totals.{comes, one, ends, sort_kept}
use Rattle.ae_strips.proofs.laws.names_come_down_to_one_name.Goals as goal

pub returns-clause-some : goal.returns-clause-some
returns-clause-some c = λ sig nodes store n l. let w = comes sig nodes store n l in (w.name, w.strips)

pub returns-clause-one : goal.returns-clause-one
returns-clause-one c = λ sig nodes store n m m' s r. one sig nodes store n m m' s r

pub returns-clause-own : goal.returns-clause-own
returns-clause-own c = λ sig nodes store n m s. ends sig nodes store n m s

pub returns-clause-sorts : goal.returns-clause-sorts
returns-clause-sorts c = λ sig nodes store n m s. sort_kept sig nodes store n m s
