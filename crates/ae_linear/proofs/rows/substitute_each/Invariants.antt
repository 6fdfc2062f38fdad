use Rattle.ae_pmap.specs.Forest.{Lasts, present}
use Rattle.ae_pmap.specs.Pairs.{found}
use Rattle.ae_linear.proofs.RowLaws.{Visiting}
use Rattle.ae_linear.proofs.rows.substitute_each.Given as goal

abbrev pub invariant-loop-at : goal.invariant-loop-at
invariant-loop-at l = record {
  lasts : Lasts l.initial.rows l.rows;
  visiting : Visiting l.name l.value (λ n. found (present l.initial.rows) n) (λ n. found (present l.rows) n) l.names l.at-index;
}
