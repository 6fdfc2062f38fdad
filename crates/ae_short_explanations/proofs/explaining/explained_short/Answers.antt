use Rattle.std.proofs.Common.{subst}
use Rattle.std.proofs.lemmas.Option.{slice_get_within}
use Rattle.ae_conflicts.specs.Conflicting.{IsConflict}
use Rattle.ae_pmap.specs.Forest.{present}
use Rattle.ae_store.specs.Shapes.{shapes}
use Rattle.ae_store.specs.Terms.{terms}
use Rattle.ae_short_explanations.proofs.ShortConflicts.{denied_short, mixed_short, constant_short, unsolvable_short}
use Rattle.ae_short_explanations.proofs.explaining.explained_short.Goals as goal

pub explained-requires-clause-own : goal.explained-requires-clause-own
explained-requires-clause-own c =
    let short = c.in_ok-short-in-Differ.short in
    denied_short c.args.store.now.signature (terms (shapes c.args.store.now.nodes)) c.args.justs.now (present c.args.assumed.now) c.in-Differ.step short.justs short.step c.in_ok-short-in-Differ.ensures.short c.in-Differ.literal
    (subst (IsConflict c.args.store.now.signature (terms (shapes c.args.store.now.nodes)) c.args.justs.now (present c.args.assumed.now)) c.in-Differ.is c.requires.own)

pub shortened-requires-in-Mixed-clause-step : goal.shortened-requires-in-Mixed-clause-step
shortened-requires-in-Mixed-clause-step c =
    let own = subst (IsConflict c.args.store.now.signature (terms (shapes c.args.store.now.nodes)) c.args.justs.now (present c.args.assumed.now)) c.in-Mixed.is c.requires.own in
    slice_get_within c.args.justs.now c.in-Mixed.step (own.says).step (own.says).is

pub explained-requires-in-Mixed-clause-own : goal.explained-requires-in-Mixed-clause-own
explained-requires-in-Mixed-clause-own c =
    let short = c.in_ok-short-in-Mixed.short in
    mixed_short c.args.store.now.signature (terms (shapes c.args.store.now.nodes)) c.args.justs.now (present c.args.assumed.now) c.in-Mixed.step short.justs short.step c.in_ok-short-in-Mixed.ensures.short
    (subst (IsConflict c.args.store.now.signature (terms (shapes c.args.store.now.nodes)) c.args.justs.now (present c.args.assumed.now)) c.in-Mixed.is c.requires.own)

pub shortened-requires-in-Constant-clause-step : goal.shortened-requires-in-Constant-clause-step
shortened-requires-in-Constant-clause-step c =
    let own = subst (IsConflict c.args.store.now.signature (terms (shapes c.args.store.now.nodes)) c.args.justs.now (present c.args.assumed.now)) c.in-Constant.is c.requires.own in
    slice_get_within c.args.justs.now c.in-Constant.step (own.says).step (own.says).is

pub explained-requires-in-Constant-clause-own : goal.explained-requires-in-Constant-clause-own
explained-requires-in-Constant-clause-own c =
    let short = c.in_ok-short-in-Constant.short in
    constant_short c.args.store.now.signature (terms (shapes c.args.store.now.nodes)) c.args.justs.now (present c.args.assumed.now) c.in-Constant.step short.justs short.step c.in_ok-short-in-Constant.ensures.short
    (subst (IsConflict c.args.store.now.signature (terms (shapes c.args.store.now.nodes)) c.args.justs.now (present c.args.assumed.now)) c.in-Constant.is c.requires.own)

pub shortened-requires-in-Unsolvable-clause-step : goal.shortened-requires-in-Unsolvable-clause-step
shortened-requires-in-Unsolvable-clause-step c =
    let own = subst (IsConflict c.args.store.now.signature (terms (shapes c.args.store.now.nodes)) c.args.justs.now (present c.args.assumed.now)) c.in-Unsolvable.is c.requires.own in
    slice_get_within c.args.justs.now c.in-Unsolvable.step (own.says).step (own.says).is

pub explained-requires-in-Unsolvable-clause-own : goal.explained-requires-in-Unsolvable-clause-own
explained-requires-in-Unsolvable-clause-own c =
    let short = c.in_ok-short-in-Unsolvable.short in
    unsolvable_short c.args.store.now.signature (terms (shapes c.args.store.now.nodes)) c.args.justs.now (present c.args.assumed.now) c.in-Unsolvable.step short.justs short.step c.in_ok-short-in-Unsolvable.ensures.short
    (subst (IsConflict c.args.store.now.signature (terms (shapes c.args.store.now.nodes)) c.args.justs.now (present c.args.assumed.now)) c.in-Unsolvable.is c.requires.own)
