use Rattle.std.specs.Prelude.{pos, get_or}
use Rattle.ae_core.specs.declared.proofs.Scaled.{Scaled}
use Rattle.ae_numeric.specs.Stated.{added_up, known, nought}
use Rattle.ae_numeric.specs.Computing.{IsWideIn}
use Rattle.ae_numeric.specs.Inner.Sums as spec
use Rattle.ae_numeric.proofs.SumLaws.{running_none, summand_at, summand_within, summand_sorted, parts_more, parts_wide}
use Rattle.ae_numeric.proofs.Computations.{err_is}
use Rattle.ae_numeric.proofs.combinations.sum_of_parts.Goals as goal

pub loop-part-init : goal.loop-part-init
loop-part-init c = running_none c.args.relation c.args.keys.now c.zero-sum.result c.requires.keys c.zero-sum.ensures.normal c.zero-sum.ensures.form

pub named_line-line-requires : goal.named_line-line-requires
named_line-line-requires c =
    let none : Scaled = record { factor = pos 0; line = 0 } in
    let i = c.loop-part.part-index in
    summand_within c.args.earlier.now (get_or c.args.parts.now i none) (summand_at c.args.earlier.now c.args.parts.now i none c.loop-part-test.true c.requires.parts)

pub with_line-requires-clause-left : goal.with_line-requires-clause-left
with_line-requires-clause-left c =
    let none : Scaled = record { factor = pos 0; line = 0 } in
    let i = c.loop-part.part-index in
    (summand_sorted c.args.earlier.now (get_or c.args.parts.now i none) c.named_line-line.result.now (summand_at c.args.earlier.now c.args.parts.now i none c.loop-part-test.true c.requires.parts) c.named_line-line.ensures).0

pub with_line-requires-clause-right : goal.with_line-requires-clause-right
with_line-requires-clause-right c =
    let none : Scaled = record { factor = pos 0; line = 0 } in
    let i = c.loop-part.part-index in
    (summand_sorted c.args.earlier.now (get_or c.args.parts.now i none) c.named_line-line.result.now (summand_at c.args.earlier.now c.args.parts.now i none c.loop-part-test.true c.requires.parts) c.named_line-line.ensures).1

pub returns-in_err-sum-clause-wide : goal.returns-in_err-sum-clause-wide
returns-in_err-sum-clause-wide c =
    let none : Scaled = record { factor = pos 0; line = 0 } in
    let r = c.args.relation in
    let earlier = c.args.earlier.now in
    let i = c.loop-part.part-index in
    let e = c.in_err-sum.field-0.0 in
    err_is c.from_residual.result e (IsWideIn (added_up (spec.summed r) (known nought) (spec.facts_of earlier c.args.parts.now)) c.args.keys.now) c.from_residual.ensures.1
    (parts_wide r earlier c.args.parts.now i none c.named_line-line.result.now c.args.keys.now c.loop-part.keys c.loop-part.sum e c.loop-part-test.true c.named_line-line.ensures c.loop-part.invariant c.in_err-sum.ensures.wide)

pub loop-part-preserved : goal.loop-part-preserved
loop-part-preserved c =
    let none : Scaled = record { factor = pos 0; line = 0 } in
    let r = c.args.relation in
    let earlier = c.args.earlier.now in
    let i = c.loop-part.part-index in
    parts_more r earlier c.args.parts.now i none c.named_line-line.result.now c.args.keys.now c.loop-part.keys c.with_line.new.keys c.loop-part.sum c.in_ok-sum.sum c.loop-part-test.true c.named_line-line.ensures c.loop-part.invariant
    c.in_ok-sum.ensures.result c.in_ok-sum.ensures.meaning c.in_ok-sum.ensures.kept
