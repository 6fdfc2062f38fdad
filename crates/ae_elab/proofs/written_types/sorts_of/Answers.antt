use Rattle.std.proofs.Common.{arith, ◌∙◌, ℕ, ◌+◌, List, Some, drop, sym, ap, subst}
use Rattle.std.specs.List.{AllByRecursion}
use Rattle.std.proofs.lemmas.Option.{slice_get-get_or}
use Rattle.ae_base.proofs.AllOf.{all_at}
use Rattle.ae_core.specs.declared.terms.Sort.{Sort}
use Rattle.ae_syntax.specs.declared.types.WrittenType.{WrittenType}
use Rattle.ae_elab.specs.Names.{IsName, names_in_type}
use Rattle.ae_elab.specs.Rules.{each}
use Rattle.ae_elab.specs.Scope.{scope_with}
use Rattle.ae_elab.specs.Steps.{IsWalked, IsStopped}
use Rattle.ae_elab.proofs.EachLaws.{Goes, goes_next, goes_halt, goes_whole}
use Rattle.ae_elab.proofs.TypeRules.{arg_rule}
use Rattle.ae_elab.proofs.written_types.sorts_of.Goals as goal

abbrev IsNamed : List ℕ → WrittenType → Type 0
IsNamed text w = AllByRecursion (IsName text) (names_in_type w)

pub sort_of-requires : goal.sort_of-requires
sort_of-requires c =
    let ws = c.as_slice-item-items.result.now in
    let v = c.item-item.result in
    let i = c.loop-item.item-index in
    record {
      names = all_at (IsNamed c.args.text.now) ws i v (subst (AllByRecursion (IsNamed c.args.text.now)) (sym c.as_slice-item-items.ensures) c.requires.names)
          (slice_get-get_or ws i v c.loop-item-test.true ∙ ap Some (sym c.item-item.is));
    }

pub returns-in-Err-clause-fault : goal.returns-in-Err-clause-fault
returns-in-Err-clause-fault c locals m =
    let ws = c.as_slice-item-items.result.now in
    let f = arg_rule c.args.ground.now (scope_with c.args.text.now c.args.known.now locals) in
    subst (λ (ys : List WrittenType). IsStopped (each f ys) m c.args.passing.now c.in-Err.fault) c.as_slice-item-items.ensures
    (goes_halt f ws m m c.args.passing.now c.loop-item.passing c.loop-item.sorts c.loop-item.item-index c.item-item.result c.in-Err.fault
    c.loop-item-test.true c.item-item.is (c.loop-item.invariant locals m) (c.in-Err.ensures.fault locals m))

pub loop-item-preserved : goal.loop-item-preserved
loop-item-preserved c locals m =
    let ws = c.as_slice-item-items.result.now in
    let f = arg_rule c.args.ground.now (scope_with c.args.text.now c.args.known.now locals) in
    subst (λ (ss : List Sort). Goes f ws m m c.args.passing.now c.sort_of.new.passing ss (drop (c.loop-item.item-index + 1) ws)) (sym c.in_ok-push-in-Ok.ensures.ok)
    (goes_next f ws m m c.args.passing.now c.loop-item.passing c.loop-item.sorts c.loop-item.item-index m c.sort_of.new.passing c.item-item.result c.in-Ok.sort
    c.loop-item-test.true c.item-item.is (c.loop-item.invariant locals m) (c.in-Ok.ensures.sort locals m))

pub returns-clause-sorts : goal.returns-clause-sorts
returns-clause-sorts c locals m =
    let ws = c.as_slice-item-items.result.now in
    let f = arg_rule c.args.ground.now (scope_with c.args.text.now c.args.known.now locals) in
    subst (λ (ys : List WrittenType). IsWalked (each f ys) m m c.args.passing.now c.loop-item.passing c.loop-item.sorts) c.as_slice-item-items.ensures
    (goes_whole f ws m m c.args.passing.now c.loop-item.passing c.loop-item.sorts c.loop-item.item-index (omega (arith, c.loop-item-test.false)) (c.loop-item.invariant locals m))
