use Rattle.std.proofs.Common.{rules, length, ◌<◌, [], sym, ◌∙◌, subst, arith}
use Rattle.std.proofs.lemmas.List.{take_all}
use Rattle.ae_brought_clauses.specs.Inner.Bringing.{Brings}
use Rattle.ae_brought_clauses.proofs.Joined.{none_brought, one_more}
use Rattle.ae_brought_clauses.proofs.bringing.bring_literals.Goals as goal

pub loop-lit-init : goal.loop-lit-init
loop-lit-init c opened = none_brought opened c.args.generation c.args.store.now c.args.ages.now

pub bring-requires-clause-same : goal.bring-requires-clause-same
bring-requires-clause-same c = c.requires.same ∙ sym (c.loop-lit.invariant []).named.signature

pub loop-lit-preserved : goal.loop-lit-preserved
loop-lit-preserved c opened =
    let h : c.loop-lit.lit-index < length c.args.literals.now = search rules in
    one_more opened c.args.generation c.args.store.now c.args.ages.now c.loop-lit.store c.loop-lit.ages c.bring.new.store c.bring.new.entries c.args.literals.now c.loop-lit.lit-index c.lit-item.result h c.lit-item.is
    (c.loop-lit.invariant opened) c.in_ok-bring.ensures

pub returns : goal.returns
returns c opened =
    subst (Brings opened c.args.generation c.args.store.now c.args.ages.now c.loop-lit.store c.loop-lit.ages) (take_all c.loop-lit.lit-index c.args.literals.now (let t = c.loop-lit-test.false in omega (arith, t)))
    (c.loop-lit.invariant opened)
