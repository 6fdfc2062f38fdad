use Rattle.std.specs.Prelude.{ℕ, List, [], ◌∷◌, ◌++◌}
use Rattle.std.proofs.Common.{refl, sym, ◌∙◌, subst}
use Rattle.std.proofs.lemmas.Option.{slice_get_within}
use Rattle.std.proofs.lemmas.Result.{IfOk-weaker}
use Rattle.ae_multiset.specs.Multisets.{IsSame}
use Rattle.ae_multiset.proofs.Counts.{back}
use Rattle.ae_store.specs.Shapes.{shapes}
use Rattle.ae_store.specs.Terms.{terms}
use Rattle.ae_store.proofs.EnterLaws.{front_same, front_then}
use Rattle.ae_multiset_steps.specs.Equating.{RestsOnThese, AreNamesOf}
use Rattle.ae_multiset_steps.proofs.Fronts.{many_kept}
use Rattle.ae_multiset_steps.proofs.Lists.{names_before, names_after}
use Rattle.ae_multiset_steps.proofs.Together.{chain_of, some_of_same, some_of_joined, rewritten_rests}
use Rattle.ae_multiset_steps.proofs.rewriting.rewritten.Goals as goal

pub returns-in_err-whole-clause-kept : goal.returns-in_err-whole-clause-kept
returns-in_err-whole-clause-kept c = front_same c.args.justs.now

pub returns-in_err-put-clause-kept : goal.returns-in_err-put-clause-kept
returns-in_err-put-clause-kept c = front_same c.args.justs.now

pub reordered-requires-clause-names : goal.reordered-requires-clause-names
reordered-requires-clause-names c =
    let sig = c.args.store.now.signature in
    let ts = terms (shapes c.args.store.now.nodes) in
    let u = c.args.symbol.now in
    let by = c.args.by in
    subst (λ (zs : List ℕ). AreNamesOf sig ts u (c.args.from.now ++ zs)) (sym (c.as_slice.ensures ∙ c.in_ok-whole.ensures)) (names_before sig ts u c.args.from.now by.left.now by.right.now by.rest.now c.requires.before c.requires.by.names)

pub reordered-requires-clause-same : goal.reordered-requires-clause-same
reordered-requires-clause-same c = subst (λ (zs : List ℕ). IsSame c.args.from.now zs) (sym (c.as_slice.ensures ∙ c.in_ok-whole.ensures)) c.requires.before

pub reordered-requires-clause-some : goal.reordered-requires-clause-some
reordered-requires-clause-some c = some_of_same c.args.from.now c.args.by.left.now c.args.by.rest.now c.requires.before c.requires.by.left_some

pub extended-requires-clause-states : goal.extended-requires-clause-states
extended-requires-clause-states c =
    many_kept c.args.justs.now c.reordered.new.justs c.reordered.ensures.kept c.args.by.step c.args.symbol.now c.args.by.left.now c.args.by.right.now c.requires.by.states

pub returns-in_err-second-clause-kept : goal.returns-in_err-second-clause-kept
returns-in_err-second-clause-kept c = front_then c.args.justs.now c.reordered.new.justs c.extended.new.justs c.reordered.ensures.kept c.extended.ensures.kept

pub chained-requires-clause-states : goal.chained-requires-clause-states
chained-requires-clause-states c =
    let by = c.args.by in
    chain_of c.extended.new.justs c.args.symbol.now c.args.from.now c.args.from.now c.as_slice.result.now c.as_slice-2.result.now (by.left.now ++ by.rest.now) (by.right.now ++ by.rest.now) c.in_ok-first.first c.in_ok-second.second
    (c.as_slice.ensures ∙ c.in_ok-whole.ensures) (c.as_slice-2.ensures ∙ c.in_ok-put.ensures)
    (many_kept c.reordered.new.justs c.extended.new.justs c.extended.ensures.kept c.in_ok-first.first c.args.symbol.now c.args.from.now c.as_slice.result.now c.in_ok-first.ensures.states)
    c.in_ok-second.ensures.states

pub returns-in_err-third-clause-kept : goal.returns-in_err-third-clause-kept
returns-in_err-third-clause-kept c =
    front_then c.args.justs.now c.extended.new.justs c.chained.new.justs (front_then c.args.justs.now c.reordered.new.justs c.extended.new.justs c.reordered.ensures.kept c.extended.ensures.kept)
    c.chained.ensures.kept

pub reordered-requires-2-clause-names : goal.reordered-requires-2-clause-names
reordered-requires-2-clause-names c =
    let sig = c.args.store.now.signature in
    let ts = terms (shapes c.args.store.now.nodes) in
    let u = c.args.symbol.now in
    let by = c.args.by in
    subst (λ (zs : List ℕ). AreNamesOf sig ts u (zs ++ by.result.now)) (sym (c.as_slice-3.ensures ∙ c.in_ok-put.ensures)) (names_after sig ts u by.result.now by.left.now by.right.now by.rest.now c.requires.by.after c.requires.by.names)

pub reordered-requires-2-clause-same : goal.reordered-requires-2-clause-same
reordered-requires-2-clause-same c = subst (λ (zs : List ℕ). IsSame zs c.args.by.result.now) (sym (c.as_slice-3.ensures ∙ c.in_ok-put.ensures)) (back c.requires.by.after)

pub reordered-requires-2-clause-some : goal.reordered-requires-2-clause-some
reordered-requires-2-clause-some c = some_of_joined c.as_slice-3.result.now c.args.by.right.now c.args.by.rest.now (c.as_slice-3.ensures ∙ c.in_ok-put.ensures) c.requires.by.right_some

pub returns-in_err-last-clause-kept : goal.returns-in_err-last-clause-kept
returns-in_err-last-clause-kept c =
    let a = c.args.justs.now in
    let d = c.chained.new.justs in
    front_then a d c.reordered-2.new.justs
    (front_then a c.extended.new.justs d (front_then a c.reordered.new.justs c.extended.new.justs c.reordered.ensures.kept c.extended.ensures.kept) c.chained.ensures.kept)
    c.reordered-2.ensures.kept

pub chained-requires-2-clause-states : goal.chained-requires-2-clause-states
chained-requires-2-clause-states c =
    chain_of c.reordered-2.new.justs c.args.symbol.now c.args.from.now c.args.from.now c.as_slice-2.result.now c.args.by.result.now c.as_slice-3.result.now c.args.by.result.now c.in_ok-third.third c.in_ok-last.last
    (c.as_slice-2.ensures ∙ sym c.as_slice-3.ensures) refl
    (many_kept c.chained.new.justs c.reordered-2.new.justs c.reordered-2.ensures.kept c.in_ok-third.third c.args.symbol.now c.args.from.now c.as_slice-2.result.now c.in_ok-third.ensures.states)
    c.in_ok-last.ensures.states

pub returns-clause-rests : goal.returns-clause-rests
returns-clause-rests c =
    let sig = c.args.store.now.signature in
    let ts = terms (shapes c.args.store.now.nodes) in
    let j0 = c.args.justs.now in
    let j1 = c.reordered.new.justs in
    let j2 = c.extended.new.justs in
    let j3 = c.chained.new.justs in
    let j4 = c.reordered-2.new.justs in
    let j5 = c.chained-2.new.justs in
    let first = c.in_ok-first.first in
    let second = c.in_ok-second.second in
    let third = c.in_ok-third.third in
    let last = c.in_ok-last.last in
    let step = c.args.by.step in
    IfOk-weaker c.chained-2.result (λ id. RestsOnThese j4 j5 id (third ∷ last ∷ [])) (λ id. RestsOnThese j0 j5 id (step ∷ []))
    (λ id h. rewritten_rests sig ts j0 j1 j2 j3 j4 j5 step first second third last id c.reordered.ensures.kept c.extended.ensures.kept c.chained.ensures.kept c.reordered-2.ensures.kept
    c.reordered.ensures.fits c.extended.ensures.fits c.reordered-2.ensures.fits (slice_get_within j0 step _ c.requires.by.states.there) (slice_get_within j1 first _ c.in_ok-first.ensures.states.there)
    (slice_get_within j3 third _ c.in_ok-third.ensures.states.there) c.in_ok-first.ensures.rests c.in_ok-second.ensures.rests c.in_ok-third.ensures.rests c.in_ok-last.ensures.rests h) c.chained-2.ensures.rests

pub returns-clause-kept : goal.returns-clause-kept
returns-clause-kept c =
    let a = c.args.justs.now in
    let d = c.chained.new.justs in
    let e = c.reordered-2.new.justs in
    front_then a e c.chained-2.new.justs
    (front_then a d e
    (front_then a c.extended.new.justs d (front_then a c.reordered.new.justs c.extended.new.justs c.reordered.ensures.kept c.extended.ensures.kept) c.chained.ensures.kept)
    c.reordered-2.ensures.kept) c.chained-2.ensures.kept
