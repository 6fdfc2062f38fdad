use Rattle.std.proofs.Common.{sym, subst}
use Rattle.ae_sat.specs.Search.{AllNamed}
use Rattle.ae_sat_tests.proofs.tests.answer_for_pigeons.Goals as goal

pub answer_by-requires : goal.answer_by-requires
answer_by-requires c = record { named = subst (AllNamed c.args.store.now) (sym c.as_slice.ensures) (c.in_ok-clauses.ensures) }
