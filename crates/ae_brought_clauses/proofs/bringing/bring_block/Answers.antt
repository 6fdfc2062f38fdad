use Rattle.std.proofs.Common.{sym, ap, ◌∙◌, subst}
use Rattle.std.proofs.lemmas.Result.{on_ok_weaker}
use Rattle.ae_brought_clauses.specs.Inner.Bringing.{Brings}
use Rattle.ae_brought_clauses.proofs.Again.{said_of, said_none, said_sorted}
use Rattle.ae_brought_clauses.proofs.Joined.{none_brought}
use Rattle.ae_rules.specs.Derivations.{clause_ok}
use Rattle.ae_brought_clauses.proofs.bringing.bring_block.Goals as goal

pub returns-in-None : goal.returns-in-None
returns-in-None c opened =
    subst (Brings opened c.args.generation c.args.store.now c.args.ages.now c.args.store.now c.args.ages.now) (sym (said_none c.args.block.now (sym c.in_ok-fresh_clause.ensures ∙ c.in-None.is)))
    (none_brought opened c.args.generation c.args.store.now c.args.ages.now)

pub bring_literals-requires-clause-sorted : goal.bring_literals-requires-clause-sorted
bring_literals-requires-clause-sorted c =
    ap (clause_ok c.args.signature.now) c.as_slice.ensures ∙ said_sorted c.args.signature.now c.args.block.now c.in-Some.clause c.requires.sorted (sym c.in_ok-fresh_clause.ensures ∙ c.in-Some.is)

pub returns-in-Some : goal.returns-in-Some
returns-in-Some c opened =
    on_ok_weaker c.bring_literals.result
    (λ h. subst (Brings opened c.args.generation c.args.store.now c.args.ages.now c.bring_literals.new.store c.bring_literals.new.ages)
    (c.as_slice.ensures ∙ sym (said_of c.args.block.now c.in-Some.clause (sym c.in_ok-fresh_clause.ensures ∙ c.in-Some.is))) h) (c.bring_literals.ensures opened)
