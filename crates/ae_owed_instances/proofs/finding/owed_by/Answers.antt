use Rattle.std.proofs.Common.{List, ◌≡◌, sym, ◌∙◌, subst}
use Rattle.std.specs.List.{AllByRecursion, filter}
use Rattle.std.proofs.lemmas.Option.{same_Some}
use Rattle.ae_matches.specs.Answers.{HasClosedConstants}
use Rattle.ae_owed_instances.proofs.OwedOnes.{all_owed, closed_at, known_heads, none_found}
use Rattle.ae_owed_instances.proofs.Lists.{read_at}
use Rattle.ae_owed_instances.specs.Inner.Passing.{HasNone}
use Rattle.ae_owed_matches.specs.Found.{AreFound, is_owed}
use Rattle.ae_state.specs.Fitting.{FitsStore}
use Rattle.ae_state.specs.declared.holding.Holding.{Holding}
use Rattle.ae_trigger.specs.declared.patterns.Pattern.{Pattern}
use Rattle.ae_trigger.specs.declared.patterns.Subst.{Subst}
use Rattle.ae_value_table.specs.Alike.{alike}
use Rattle.ae_owed_instances.proofs.finding.owed_by.Goals as goal

pub found-requires-clause-same : goal.found-requires-clause-same
found-requires-clause-same c = c.requires.between.searching.signature

pub found-requires-clause-fits : goal.found-requires-clause-fits
found-requires-clause-fits c = subst (λ (z : Holding). FitsStore z c.args.search.now.store) (sym c.theory.ensures) c.requires.between.searching.alive.fits_store

pub found-requires-clause-entered : goal.found-requires-clause-entered
found-requires-clause-entered c = known_heads c.args.task.problem.now c.args.task.goal c.args.task.generations c.args.search.now c.requires.between

pub found-requires-clause-constants : goal.found-requires-clause-constants
found-requires-clause-constants c =
    let o = c.args.search.now in
    let here = read_at o.owners c.as_slice-owners.result.now c.args.place c.index-owners-place.result c.as_slice-owners.ensures c.requires.within c.index-owners-place.is in
    subst (AllByRecursion HasClosedConstants) (sym c.as_slice-patterns.ensures)
    (closed_at c.args.task.problem.now c.args.task.goal c.args.task.generations o c.requires.between c.requires.lawful c.args.place c.index-owners-place.result here)

pub owed-requires : goal.owed-requires
owed-requires c = record { fits = subst (λ (z : Holding). FitsStore z c.args.search.now.store) (sym c.theory-2.ensures) c.requires.between.searching.alive.fits_store }

pub returns-clause-each : goal.returns-clause-each
returns-clause-each c =
    let o = c.args.search.now in
    let here = read_at o.owners c.as_slice-owners.result.now c.args.place c.index-owners-place.result c.as_slice-owners.ensures c.requires.within c.index-owners-place.is in
    let found =
    subst (λ (z : Holding × List Pattern). AreFound o.store (alike z.0.values) c.args.number z.1 c.in_ok-all.all) (λ k. (c.theory.ensures k, c.as_slice-patterns.ensures k)) c.in_ok-all.ensures in
    let few =
    subst (λ (z : Holding × List Subst). c.in_ok-few.few ≡ filter (is_owed (alike z.0.values) c.args.place o.instances.taken.taken) z.1) (λ k. (c.theory-2.ensures k, c.as_slice.ensures k)) c.in_ok-few.ensures in
    all_owed c.args.task.problem.now c.args.task.goal c.args.task.generations o c.requires.between c.args.number c.args.place c.index-owners-place.result here (c.requires.there c.index-owners-place.result here) c.in_ok-all.all
    found c.in_ok-few.few few

pub returns-clause-none : goal.returns-clause-none
returns-clause-none c = λ z w at.
    let o = c.args.search.now in
    let here = read_at o.owners c.as_slice-owners.result.now c.args.place c.index-owners-place.result c.as_slice-owners.ensures c.requires.within c.index-owners-place.is in
    let found =
    subst (λ (z : Holding × List Pattern). AreFound o.store (alike z.0.values) c.args.number z.1 c.in_ok-all.all) (λ k. (c.theory.ensures k, c.as_slice-patterns.ensures k)) c.in_ok-all.ensures in
    let few =
    subst (λ (z : Holding × List Subst). c.in_ok-few.few ≡ filter (is_owed (alike z.0.values) c.args.place o.instances.taken.taken) z.1) (λ k. (c.theory-2.ensures k, c.as_slice.ensures k)) c.in_ok-few.ensures in
    subst (HasNone o c.args.number c.args.place) (same_Some c.index-owners-place.result w (sym here ∙ at))
    (none_found c.args.task.problem.now c.args.task.goal c.args.task.generations o c.requires.between c.args.number c.args.place c.index-owners-place.result here (c.requires.there c.index-owners-place.result here)
    c.in_ok-all.all found c.in_ok-few.few few z)
