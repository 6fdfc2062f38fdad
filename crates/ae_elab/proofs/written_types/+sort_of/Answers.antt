use Rattle.std.proofs.Common.{arith, ◌≡◌, ◌∙◌, ◌+◌, ◌<◌, List, drop, sym, ap, subst}
use Rattle.std.proofs.lemmas.Result.{IfOk-weaker, IfErr-weaker}
use Rattle.ae_core.specs.declared.terms.Sort.{Sort}
use Rattle.ae_syntax.specs.declared.types.TypeKind as kind
use Rattle.ae_syntax.specs.declared.types.WrittenType.{size-WrittenType}
use Rattle.ae_elab.specs.declared.faults.TypeFault.{TypeFault}
use Rattle.ae_elab.specs.Names.{IsName}
use Rattle.ae_elab.specs.Scope.{Local, scope_with}
use Rattle.ae_elab.specs.Steps.{IsTaken, IsHalted}
use Rattle.ae_elab.specs.WrittenTypes as rule
use Rattle.ae_elab.proofs.EachLaws.{Goes, goes_next, goes_halt, goes_whole}
use Rattle.ae_elab.proofs.TypeSizes.{arg_falls}
use Rattle.ae_elab.proofs.TypeRules.{arg_rule, arg_ready, var_named, type_named, int_taken, real_taken, bool_taken, unit_taken, var_taken, var_halts, args_halt, name_taken, name_halts}
use Rattle.ae_elab.proofs.written_types.+sort_of.Goals as goal

pub variable_sort-requires : goal.variable_sort-requires
variable_sort-requires t c = record { name = var_named (IsName c.args.text.now) c.args.written.now c.requires.names c.in-Var.is }

pub named_sort-requires : goal.named_sort-requires
named_sort-requires t c = record { name = type_named (IsName c.args.text.now) c.args.written.now c.requires.names c.in-Named.name c.in-Named.args c.in-Named.is }

pub returns-in-Int-clause-sort : goal.returns-in-Int-clause-sort
returns-in-Int-clause-sort t c locals m =
    int_taken c.args.written.now c.args.ground.now (scope_with c.args.text.now c.args.known.now locals) c.args.passing.now c.in-Int.is m

pub returns-in-Real-clause-sort : goal.returns-in-Real-clause-sort
returns-in-Real-clause-sort t c locals m =
    real_taken c.args.written.now c.args.ground.now (scope_with c.args.text.now c.args.known.now locals) c.args.passing.now c.in-Real.is m

pub returns-in-Bool-clause-sort : goal.returns-in-Bool-clause-sort
returns-in-Bool-clause-sort t c locals m =
    bool_taken c.args.written.now c.args.ground.now (scope_with c.args.text.now c.args.known.now locals) c.args.passing.now c.in-Bool.is m

pub returns-in-Unit-clause-sort : goal.returns-in-Unit-clause-sort
returns-in-Unit-clause-sort t c locals m =
    unit_taken c.args.written.now c.args.ground.now (scope_with c.args.text.now c.args.known.now locals) c.args.passing.now c.in-Unit.is m

pub returns-in-Var-clause-sort : goal.returns-in-Var-clause-sort
returns-in-Var-clause-sort t c =
    IfOk-weaker c.variable_sort.result _
    (λ (s : Sort). (locals : List Local) → IsTaken (rule.type_rule c.args.written.now c.args.ground.now (scope_with c.args.text.now c.args.known.now locals)) c.args.passing.now c.variable_sort.new.passing s)
    (λ s h locals. var_taken c.args.written.now c.args.ground.now (scope_with c.args.text.now c.args.known.now locals) c.args.passing.now c.variable_sort.new.passing s c.in-Var.is (h c.args.known.now locals))
    c.variable_sort.ensures.sort

pub returns-in-Var-clause-fault : goal.returns-in-Var-clause-fault
returns-in-Var-clause-fault t c =
    IfErr-weaker c.variable_sort.result _
    (λ (x : TypeFault). (locals : List Local) → IsHalted (rule.type_rule c.args.written.now c.args.ground.now (scope_with c.args.text.now c.args.known.now locals)) c.args.passing.now x)
    (λ x h locals. var_halts c.args.written.now c.args.ground.now (scope_with c.args.text.now c.args.known.now locals) c.args.passing.now x c.in-Var.is (h c.args.known.now locals))
    c.variable_sort.ensures.fault

pub sort_of-requires : goal.sort_of-requires
sort_of-requires t c =
    let w = c.args.written.now in
    let us = c.as_slice-arg-items.result.now in
    let v = c.arg-item.result in
    let k = c.loop-arg.arg-index in
    let n = c.in-Named.name in
    let view = c.as_slice-arg-items.ensures in (
      subst (λ m. size-WrittenType v < m) c.decreases (arg_falls w n c.in-Named.args us k v c.in-Named.is view c.loop-arg-test.true c.arg-item.is),
      arg_ready (IsName c.args.text.now) w n c.in-Named.args us k v c.requires.names c.in-Named.is view c.loop-arg-test.true c.arg-item.is,
    )

pub returns-in-Err-clause-fault : goal.returns-in-Err-clause-fault
returns-in-Err-clause-fault t c locals m =
    let ws = c.as_slice-arg-items.result.now in
    let g = c.args.ground.now in
    let sc = scope_with c.args.text.now c.args.known.now locals in
    let is : c.args.written.now.kind ≡ kind.Named c.in-Named.name ws = c.in-Named.is ∙ ap (kind.Named c.in-Named.name) (sym c.as_slice-arg-items.ensures) in
    args_halt c.args.written.now g sc c.in-Named.name ws is c.args.passing.now c.in-Err.fault
    (λ k. goes_halt (arg_rule g sc) ws k k c.args.passing.now c.loop-arg.passing c.loop-arg.sorts c.loop-arg.arg-index c.arg-item.result c.in-Err.fault
    c.loop-arg-test.true c.arg-item.is (c.loop-arg.invariant locals k) (c.in-Err.ensures.fault locals k)) m

pub loop-arg-preserved : goal.loop-arg-preserved
loop-arg-preserved t c locals m =
    let ws = c.as_slice-arg-items.result.now in
    let f = arg_rule c.args.ground.now (scope_with c.args.text.now c.args.known.now locals) in
    subst (λ (ss : List Sort). Goes f ws m m c.args.passing.now c.sort_of.new.passing ss (drop (c.loop-arg.arg-index + 1) ws)) (sym c.in_ok-push-in-Ok.ensures.ok)
    (goes_next f ws m m c.args.passing.now c.loop-arg.passing c.loop-arg.sorts c.loop-arg.arg-index m c.sort_of.new.passing c.arg-item.result c.in-Ok.sort
    c.loop-arg-test.true c.arg-item.is (c.loop-arg.invariant locals m) (c.in-Ok.ensures.sort locals m))

pub returns-after-loop-arg-clause-sort : goal.returns-after-loop-arg-clause-sort
returns-after-loop-arg-clause-sort t c =
    let ws = c.as_slice-arg-items.result.now in
    let g = c.args.ground.now in
    let p = c.args.passing.now in
    let q = c.loop-arg.passing in
    let is : c.args.written.now.kind ≡ kind.Named c.in-Named.name ws = c.in-Named.is ∙ ap (kind.Named c.in-Named.name) (sym c.as_slice-arg-items.ensures) in
    IfOk-weaker c.named_sort.result _
    (λ (s : Sort). (locals : List Local) → IsTaken (rule.type_rule c.args.written.now g (scope_with c.args.text.now c.args.known.now locals)) p q s)
    (λ s h locals. (let sc = scope_with c.args.text.now c.args.known.now locals in
    name_taken c.args.written.now g sc c.in-Named.name ws is p q c.loop-arg.sorts s
    (λ k. goes_whole (arg_rule g sc) ws k k p q c.loop-arg.sorts c.loop-arg.arg-index (omega (arith, c.loop-arg-test.false)) (c.loop-arg.invariant locals k)) (h q locals)))
    c.named_sort.ensures.sort

pub returns-after-loop-arg-clause-fault : goal.returns-after-loop-arg-clause-fault
returns-after-loop-arg-clause-fault t c =
    let ws = c.as_slice-arg-items.result.now in
    let g = c.args.ground.now in
    let p = c.args.passing.now in
    let q = c.loop-arg.passing in
    let is : c.args.written.now.kind ≡ kind.Named c.in-Named.name ws = c.in-Named.is ∙ ap (kind.Named c.in-Named.name) (sym c.as_slice-arg-items.ensures) in
    IfErr-weaker c.named_sort.result _
    (λ (x : TypeFault). (locals : List Local) → IsHalted (rule.type_rule c.args.written.now g (scope_with c.args.text.now c.args.known.now locals)) p x)
    (λ x h locals. (let sc = scope_with c.args.text.now c.args.known.now locals in
    name_halts c.args.written.now g sc c.in-Named.name ws is p q c.loop-arg.sorts x
    (λ k. goes_whole (arg_rule g sc) ws k k p q c.loop-arg.sorts c.loop-arg.arg-index (omega (arith, c.loop-arg-test.false)) (c.loop-arg.invariant locals k)) (h q locals)))
    c.named_sort.ensures.fault
