use Rattle.std.proofs.Common.{rules, [], ◌≡◌, ◌<◌, length, true, sym, ap, ◌∙◌, subst, arith}
use Rattle.std.proofs.lemmas.List.{take_all}
use Rattle.ae_base.proofs.AllOf.{all_at}
use Rattle.ae_brought_clauses.proofs.Places.{read_at}
use Rattle.ae_brought_clauses.specs.Brought.{AreBrought}
use Rattle.ae_first_round.specs.Inner.First.{AreAllBrought}
use Rattle.ae_first_round.proofs.Brought.{next_all, none_all}
use Rattle.ae_rules.specs.Clauses.{Clause}
use Rattle.ae_rules.specs.Derivations.{clause_ok}
use Rattle.ae_first_round.proofs.naming.bring_clauses.Goals as goal

pub loop-clause-init : goal.loop-clause-init
loop-clause-init c = none_all c.args.store.now c.args.ages.now

pub bring_clause-requires-clause-same : goal.bring_clause-requires-clause-same
bring_clause-requires-clause-same c = c.requires.same ∙ sym c.loop-clause.invariant.named.signature

pub bring_clause-requires-clause-sorted : goal.bring_clause-requires-clause-sorted
bring_clause-requires-clause-sorted c =
    let sig = c.args.signature.now in
    let i = c.loop-clause.clause-index in
    let d = c.clause-item.result in
    let lt : i < length c.args.clauses.now = search rules in
    ap (clause_ok sig) c.as_slice.ensures ∙ all_at (λ (w : Clause). clause_ok sig w ≡ true) c.args.clauses.now i d c.requires.sorted (read_at c.args.clauses.now i d lt c.clause-item.is)

pub bring_clause-requires-clause-blocks : goal.bring_clause-requires-clause-blocks
bring_clause-requires-clause-blocks c o h = absurd (let i = h.1 in omega (arith, i))

pub bring_clause-requires-clause-there : goal.bring_clause-requires-clause-there
bring_clause-requires-clause-there c o d t h e i = absurd (let n = h.1 in omega (arith, n))

pub loop-clause-preserved : goal.loop-clause-preserved
loop-clause-preserved c =
    let lt : c.loop-clause.clause-index < length c.args.clauses.now = search rules in
    next_all c.args.store.now c.args.ages.now c.loop-clause.store c.loop-clause.ages c.bring_clause.new.store c.bring_clause.new.ages c.args.clauses.now c.loop-clause.clause-index c.clause-item.result lt
    c.clause-item.is c.loop-clause.invariant
    (subst (AreBrought [] 0 c.loop-clause.store c.loop-clause.ages c.bring_clause.new.store c.bring_clause.new.ages) c.as_slice.ensures c.in_ok-bring_clause.ensures)

pub returns : goal.returns
returns c =
    subst (AreAllBrought c.args.store.now c.args.ages.now c.loop-clause.store c.loop-clause.ages) (take_all c.loop-clause.clause-index c.args.clauses.now (let t = c.loop-clause-test.false in omega (arith, t)))
    c.loop-clause.invariant
