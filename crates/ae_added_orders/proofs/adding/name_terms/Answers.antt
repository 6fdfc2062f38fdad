use Rattle.std.proofs.Common.{List, [], subst, arith}
use Rattle.std.proofs.lemmas.Result.{on_ok_weaker}
use Rattle.ae_added_orders.specs.Inner.Added.{latest}
use Rattle.ae_ages.specs.declared.entries.Aged.{Aged}
use Rattle.ae_brought_clauses.specs.Brought.{AreBrought}
use Rattle.ae_added_orders.proofs.adding.name_terms.Goals as goal

pub bring_clause-requires-clause-blocks : goal.bring_clause-requires-clause-blocks
bring_clause-requires-clause-blocks c o h = absurd (let i = h.1 in omega (arith, i))

pub bring_clause-requires-clause-there : goal.bring_clause-requires-clause-there
bring_clause-requires-clause-there c o d t h e i = absurd (let n = h.1 in omega (arith, n))

pub returns : goal.returns
returns c =
    on_ok_weaker c.bring_clause.result
    (λ h. (c.bring_clause.new.ages, subst (λ (w : List Aged). AreBrought [] latest c.args.store.now w c.bring_clause.new.store c.bring_clause.new.ages c.args.clause.now) c.new-none.ensures h)) c.bring_clause.ensures
