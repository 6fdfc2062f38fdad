use Rattle.std.proofs.Common.{arith, refl, sym, ap, ◌∙◌, subst, ◌<◌, ◌+◌, length, nat_cmp}
use Rattle.std.specs.BTreeSet.{keys, insert_key}
use Rattle.std.proofs.lemmas.Option.{slice_get_read}
use Rattle.ae_base.proofs.Tests.{false_true}
use Rattle.ae_just.specs.declared.steps.Step.{Step}
use Rattle.ae_just.specs.Steps.{premises}
use Rattle.ae_just.specs.Inner.Pending.{limit, AreJoined, IsSearched}
use Rattle.ae_just.proofs.NeededLaws.{searched_first, searched_next, falls_next, searched_all, popped_low, none_left, all_less}
use Rattle.ae_just.proofs.needed.needed.Goals as goal

pub loop-step-init : goal.loop-step-init
loop-step-init c =
    subst (IsSearched c.args.steps.now c.args.id (keys c.insert.new.self)) (sym c.new-found.ensures.items)
    (searched_first c.args.steps.now c.args.id (keys c.insert.new.self) (c.in_ok-insert.ensures.keys ∙ ap (λ ks. insert_key nat_cmp ks c.args.id) c.new-pending.ensures.empty))

pub bounds-steps-step : goal.bounds-steps-step
bounds-steps-step c =
    let l = popped_low c.args.steps.now c.args.id (keys c.loop-step.pending) (keys c.pop_last.new.self) c.loop-step.found.items c.in-Some.step c.loop-step.invariant c.in-Some.ensures.removal in
    let m : c.args.id < length c.args.steps.now = c.requires.id in
    omega (arith, l, m)

pub offset_bounds-steps-step : goal.offset_bounds-steps-step
offset_bounds-steps-step c =
    let l = popped_low c.args.steps.now c.args.id (keys c.loop-step.pending) (keys c.pop_last.new.self) c.loop-step.found.items c.in-Some.step c.loop-step.invariant c.in-Some.ensures.removal in
    let m : c.args.id < length c.args.steps.now = c.requires.id in
    omega (arith, l, m)

pub loop-step-smaller : goal.loop-step-smaller
loop-step-smaller c =
    let steps = c.args.steps.now in
    let id = c.args.id in
    let P = keys c.loop-step.pending in
    let Q = keys c.pop_last.new.self in
    let F = c.loop-step.found.items in
    let k = c.in-Some.step in
    let l = popped_low steps id P Q F k c.loop-step.invariant c.in-Some.ensures.removal in
    let m : id < length steps = c.requires.id in
    let at = slice_get_read steps (length steps) k c.index-steps-step.result refl (omega (arith, l, m)) c.index-steps-step.is in
    subst (λ xs. limit (id + 1) xs < limit (id + 1) F) (sym c.in_ok-push.ensures.items)
    (falls_next steps c.requires.earlier id P Q (keys c.add_premises.new.pending) F k c.index-steps-step.result c.loop-step.invariant c.in-Some.ensures.removal (all_less Q k c.in-Some.ensures.all_below) at
    (subst (λ (s : Step). AreJoined Q (premises s.rule) (keys c.add_premises.new.pending)) (sym c.index-steps-step.is) c.in_ok-add_premises.ensures))

pub loop-step-preserved : goal.loop-step-preserved
loop-step-preserved c =
    let steps = c.args.steps.now in
    let id = c.args.id in
    let P = keys c.loop-step.pending in
    let Q = keys c.pop_last.new.self in
    let R = keys c.add_premises.new.pending in
    let F = c.loop-step.found.items in
    let k = c.in-Some.step in
    let l = popped_low steps id P Q F k c.loop-step.invariant c.in-Some.ensures.removal in
    let m : id < length steps = c.requires.id in
    let at = slice_get_read steps (length steps) k c.index-steps-step.result refl (omega (arith, l, m)) c.index-steps-step.is in
    subst (IsSearched steps id R) (sym c.in_ok-push.ensures.items)
    (searched_next steps c.requires.earlier id P Q R F k c.index-steps-step.result c.loop-step.invariant c.in-Some.ensures.removal (all_less Q k c.in-Some.ensures.all_below) at
    (subst (λ (s : Step). AreJoined Q (premises s.rule) R) (sym c.index-steps-step.is) c.in_ok-add_premises.ensures))

pub returns : goal.returns
returns c =
    searched_all c.args.steps.now c.args.id (keys c.loop-step.pending) c.loop-step.found.items c.from_vec.result c.loop-step.invariant
    (none_left (keys c.loop-step.pending) (λ l. false_true (c.in_default.ensures.variant.1 l))) (c.from_vec.ensures ∙ c.reverse.ensures.items)
