use Rattle.std.proofs.Common.{◌<◌, arith, sym, ◌∙◌}
use Rattle.std.proofs.lemmas.Option.{slice_get_within}
use Rattle.ae_base.proofs.Tests.{true_false}
use Rattle.ae_strips.proofs.FieldTerms.{applied_above, not_later}
use Rattle.ae_strips.proofs.fields.field_name.Goals as goal

pub loop-name-init : goal.loop-name-init
loop-name-init c = λ n l i.
    let s = c.args.store.now in
    let above : c.args.of < n = applied_above s.signature s.nodes c.len-end.ensures.store n c.args.head c.args.sorts.now c.args.of i in
    omega (arith, above, l)

pub loop-name-preserved : goal.loop-name-preserved
loop-name-preserved c =
    not_later c.args.store.now.nodes c.loop-name.name c.node.result.now c.args.head c.args.sorts.now c.args.of c.loop-name.invariant c.node.ensures.node
    (λ a. true_false (sym (c.applies.ensures.1 a) ∙ c.if-applies.false))

pub returns-then-applies : goal.returns-then-applies
returns-then-applies c = record { node = c.node.result.now; there = c.node.ensures.node; applies = c.applies.ensures.0 c.if-applies.true }

pub unreachable-requires : goal.unreachable-requires
unreachable-requires c =
    let i = c.requires.there in
    c.loop-name.invariant i.0 (let l = slice_get_within c.args.store.now.nodes i.0 i.1.node i.1.there in let e = c.loop-name-test.false in let n = c.len-end.ensures.len in omega (arith, l, e, n)) i.1
