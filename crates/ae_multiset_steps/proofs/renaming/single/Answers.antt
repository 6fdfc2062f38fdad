use Rattle.std.specs.Prelude.{[], ◌∷◌}
use Rattle.std.proofs.lemmas.Option.{slice_get_within}
use Rattle.std.proofs.lemmas.Result.{IfOk-weaker}
use Rattle.ae_store.specs.Shapes.{shapes}
use Rattle.ae_store.specs.Terms.{terms}
use Rattle.ae_just.proofs.EmitLaws.{rest_on_earlier}
use Rattle.ae_multiset_steps.specs.Equating.{RestsOnThese}
use Rattle.ae_multiset_steps.proofs.Allowances.{single_step}
use Rattle.ae_multiset_steps.proofs.Fronts.{names_kept}
use Rattle.ae_multiset_steps.proofs.Resting.{rests_as_before, rests_through_none, rests_through_two}
use Rattle.ae_multiset_steps.proofs.renaming.single.Goals as goal

pub add_many-requires-clause-allowed : goal.add_many-requires-clause-allowed
add_many-requires-clause-allowed c =
    single_step c.args.store.now.signature (terms (shapes c.args.store.now.nodes)) c.itself.new.justs c.args.symbol.now c.itself.ensures.fits c.args.left c.args.right c.args.step c.in_ok-same.same
    (names_kept c.args.justs.now c.itself.new.justs c.itself.ensures.kept c.args.step c.args.left c.args.right c.requires.states) c.in_ok-same.ensures.states

pub returns-clause-rests : goal.returns-clause-rests
returns-clause-rests c =
    let old = c.args.justs.now in
    let mid = c.itself.new.justs in
    let new = c.add_many.new.justs in
    let step = c.args.step in
    let same = c.in_ok-same.same in
    IfOk-weaker c.add_many.result (λ id. RestsOnThese mid new id (step ∷ same ∷ [])) (λ id. RestsOnThese old new id (step ∷ []))
    (λ id h. rests_through_two old mid new id step same (step ∷ []) h
    (rests_as_before old mid c.itself.ensures.kept (rest_on_earlier c.args.store.now.signature (terms (shapes c.args.store.now.nodes)) mid c.itself.ensures.fits.allowed) step (slice_get_within old step _ c.requires.states.there))
    (rests_through_none old old mid same (step ∷ []) c.in_ok-same.ensures.rests)) c.add_many.ensures.rests

pub add_many-requires-clause-built : goal.add_many-requires-clause-built
add_many-requires-clause-built c = c.requires.names.of_names

pub add_many-requires-clause-factors : goal.add_many-requires-clause-factors
add_many-requires-clause-factors c = tt
