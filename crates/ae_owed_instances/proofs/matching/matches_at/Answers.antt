use Rattle.std.proofs.Common.{length, List, sym, ap, subst, arith}
use Rattle.std.specs.List.{AllByRecursion}
use Rattle.std.proofs.lemmas.Option.{slice_get_within}
use Rattle.std.proofs.lemmas.Result.{IfOk-weaker}
use Rattle.std.proofs.Common.{MatchBool}
use Rattle.ae_matches.specs.Answers.{HasClosedConstants}
use Rattle.ae_owed_instances.proofs.OwedOnes.{closed_at, known_heads}
use Rattle.ae_owed_instances.proofs.Lists.{read_at}
use Rattle.ae_owed_instances.proofs.Tested.{match_now}
use Rattle.ae_owed_instances.proofs.OwnersAdded.{made_owner}
use Rattle.ae_owed_matches.specs.Found.{IsAnyMatch}
use Rattle.ae_state.specs.Fitting.{FitsStore}
use Rattle.ae_state.specs.declared.holding.Holding.{Holding}
use Rattle.ae_trigger.specs.declared.patterns.Pattern.{Pattern}
use Rattle.ae_value_table.specs.Alike.{alike}
use Rattle.ae_owed_instances.proofs.matching.matches_at.Goals as goal

pub bounds-owners-own : goal.bounds-owners-own
bounds-owners-own c =
    let o = c.args.search.now in
    let here = read_at o.instances.made c.as_slice-made.result.now c.args.place c.index-made-place.result c.as_slice-made.ensures c.requires.within c.index-made-place.is in
    let r = made_owner c.args.task.problem.now c.args.task.goal c.args.task.generations o c.requires.between c.args.place c.index-made-place.result here in
    let l = slice_get_within o.owners c.index-made-place.result.owner r.0 r.1 in
    omega (arith, l, ap length c.as_slice-owners.ensures)

pub offset_bounds-owners-own : goal.offset_bounds-owners-own
offset_bounds-owners-own c =
    let o = c.args.search.now in
    let here = read_at o.instances.made c.as_slice-made.result.now c.args.place c.index-made-place.result c.as_slice-made.ensures c.requires.within c.index-made-place.is in
    let r = made_owner c.args.task.problem.now c.args.task.goal c.args.task.generations o c.requires.between c.args.place c.index-made-place.result here in
    let l = slice_get_within o.owners c.index-made-place.result.owner r.0 r.1 in
    omega (arith, l, ap length c.as_slice-owners.ensures)

pub is_found-requires-clause-same : goal.is_found-requires-clause-same
is_found-requires-clause-same c = c.requires.between.searching.signature

pub is_found-requires-clause-fits : goal.is_found-requires-clause-fits
is_found-requires-clause-fits c = subst (λ (z : Holding). FitsStore z c.args.search.now.store) (sym c.theory.ensures) c.requires.between.searching.alive.fits_store

pub is_found-requires-clause-entered : goal.is_found-requires-clause-entered
is_found-requires-clause-entered c = known_heads c.args.task.problem.now c.args.task.goal c.args.task.generations c.args.search.now c.requires.between

pub is_found-requires-clause-constants : goal.is_found-requires-clause-constants
is_found-requires-clause-constants c =
    let o = c.args.search.now in
    let here = read_at o.instances.made c.as_slice-made.result.now c.args.place c.index-made-place.result c.as_slice-made.ensures c.requires.within c.index-made-place.is in
    let r = made_owner c.args.task.problem.now c.args.task.goal c.args.task.generations o c.requires.between c.args.place c.index-made-place.result here in
    let l = slice_get_within o.owners c.index-made-place.result.owner r.0 r.1 in
    let there = read_at o.owners c.as_slice-owners.result.now c.index-made-place.result.owner c.index-owners-own.result c.as_slice-owners.ensures l c.index-owners-own.is in
    subst (AllByRecursion HasClosedConstants) (sym c.as_slice-patterns.ensures)
    (closed_at c.args.task.problem.now c.args.task.goal c.args.task.generations o c.requires.between c.requires.lawful c.index-made-place.result.owner c.index-owners-own.result there)

pub returns : goal.returns
returns c =
    let o = c.args.search.now in
    let p = c.args.task.problem.now in
    let g = c.args.task.goal in
    let bound = c.args.task.generations in
    let i = c.index-made-place.result in
    let here = read_at o.instances.made c.as_slice-made.result.now c.args.place i c.as_slice-made.ensures c.requires.within c.index-made-place.is in
    let r = made_owner p g bound o c.requires.between c.args.place i here in
    let l = slice_get_within o.owners i.owner r.0 r.1 in
    let there = read_at o.owners c.as_slice-owners.result.now i.owner c.index-owners-own.result c.as_slice-owners.ensures l c.index-owners-own.is in
    IfOk-weaker c.is_found.result _ _
    (λ b e. match_now p g bound o c.requires.between c.args.place c.args.number i c.index-owners-own.result here there r.2 b
    (subst (λ (z : Holding × List Pattern). MatchBool b (IsAnyMatch o.store (alike z.0.values) c.args.number z.1 i.subst) (¬ IsAnyMatch o.store (alike z.0.values) c.args.number z.1 i.subst))
    (λ k. (c.theory.ensures k, c.as_slice-patterns.ensures k)) e))
    c.is_found.ensures
