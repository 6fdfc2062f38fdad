use Rattle.std.specs.Prelude.{ℕ, List, [], ◌∷◌, ◌++◌}
use Rattle.std.proofs.Common.{sym, ◌∙◌, subst}
use Rattle.std.proofs.lemmas.Option.{slice_get_within}
use Rattle.std.proofs.lemmas.Result.{IfOk-weaker}
use Rattle.ae_multiset.specs.Multisets.{IsSame}
use Rattle.ae_multiset.proofs.Counts.{same}
use Rattle.ae_store.specs.Shapes.{shapes}
use Rattle.ae_store.specs.Terms.{terms}
use Rattle.ae_store.proofs.EnterLaws.{front_same, front_then}
use Rattle.ae_state_steps.specs.ManySteps.{StatesMany}
use Rattle.ae_multiset_steps.specs.Equating.{RestsOnThese}
use Rattle.ae_multiset_steps.proofs.Fronts.{many_kept}
use Rattle.ae_multiset_steps.proofs.Together.{rewriting_kept, overlapped_rests}
use Rattle.ae_multiset_steps.proofs.rewriting.overlapped.Goals as goal

pub returns-in_err-whole-clause-kept : goal.returns-in_err-whole-clause-kept
returns-in_err-whole-clause-kept c = front_same c.args.justs.now

pub rewritten-requires-clause-before : goal.rewritten-requires-clause-before
rewritten-requires-clause-before c =
    let xs = c.args.first.left.now ++ c.args.first.rest.now in
    subst (λ (zs : List ℕ). IsSame zs xs) (sym (c.as_slice.ensures ∙ c.in_ok-whole.ensures)) (same xs)

pub rewritten-requires-2-clause-by : goal.rewritten-requires-2-clause-by
rewritten-requires-2-clause-by c =
    let by = c.args.second in
    rewriting_kept c.args.store.now.signature (terms (shapes c.args.store.now.nodes)) c.args.justs.now c.rewritten.new.justs c.rewritten.ensures.kept c.args.symbol.now by.left.now by.right.now by.step by.rest.now by.result.now
    c.requires.second

pub rewritten-requires-2-clause-before : goal.rewritten-requires-2-clause-before
rewritten-requires-2-clause-before c =
    subst (λ (zs : List ℕ). IsSame zs (c.args.second.left.now ++ c.args.second.rest.now)) (sym (c.as_slice-2.ensures ∙ c.in_ok-whole.ensures)) c.requires.whole

pub returns-in_err-other-clause-kept : goal.returns-in_err-other-clause-kept
returns-in_err-other-clause-kept c = front_then c.args.justs.now c.rewritten.new.justs c.rewritten-2.new.justs c.rewritten.ensures.kept c.rewritten-2.ensures.kept

pub turned-requires-clause-states : goal.turned-requires-clause-states
turned-requires-clause-states c =
    let j2 = c.rewritten-2.new.justs in
    let one = c.in_ok-one.one in
    let to = c.args.first.result.now in
    subst (λ (zs : List ℕ). StatesMany j2 one c.args.symbol.now zs to) (c.as_slice.ensures ∙ sym c.as_slice-3.ensures)
    (many_kept c.rewritten.new.justs j2 c.rewritten-2.ensures.kept one c.args.symbol.now c.as_slice.result.now to c.in_ok-one.ensures.states)

pub returns-in_err-back-clause-kept : goal.returns-in_err-back-clause-kept
returns-in_err-back-clause-kept c =
    let a = c.args.justs.now in
    let j2 = c.rewritten-2.new.justs in
    front_then a j2 c.turned.new.justs (front_then a c.rewritten.new.justs j2 c.rewritten.ensures.kept c.rewritten-2.ensures.kept) c.turned.ensures.kept

pub chained-requires-clause-states : goal.chained-requires-clause-states
chained-requires-clause-states c =
    let j2 = c.rewritten-2.new.justs in
    let j3 = c.turned.new.justs in
    let other = c.in_ok-other.other in
    let to = c.args.second.result.now in
    let e = c.as_slice-2.ensures ∙ sym c.as_slice-3.ensures in (
      c.as_slice-3.result.now,
      c.in_ok-back.ensures.states,
      subst (λ (zs : List ℕ). StatesMany j3 other c.args.symbol.now zs to) e (many_kept j2 j3 c.turned.ensures.kept other c.args.symbol.now c.as_slice-2.result.now to c.in_ok-other.ensures.states),
    )

pub returns-clause-rests : goal.returns-clause-rests
returns-clause-rests c =
    let sig = c.args.store.now.signature in
    let ts = terms (shapes c.args.store.now.nodes) in
    let j0 = c.args.justs.now in
    let j1 = c.rewritten.new.justs in
    let j2 = c.rewritten-2.new.justs in
    let j3 = c.turned.new.justs in
    let j4 = c.chained.new.justs in
    let one = c.in_ok-one.one in
    let other = c.in_ok-other.other in
    let back = c.in_ok-back.back in
    let left = c.args.first.step in
    let right = c.args.second.step in
    IfOk-weaker c.chained.result (λ id. RestsOnThese j3 j4 id (back ∷ other ∷ [])) (λ id. RestsOnThese j0 j4 id (left ∷ right ∷ []))
    (λ id h. overlapped_rests sig ts j0 j1 j2 j3 j4 left right one other back id c.rewritten.ensures.kept c.rewritten-2.ensures.kept c.turned.ensures.kept c.rewritten.ensures.fits c.rewritten-2.ensures.fits
    c.turned.ensures.fits (slice_get_within j0 right _ c.requires.second.states.there) (slice_get_within j1 one _ c.in_ok-one.ensures.states.there) (slice_get_within j2 other _ c.in_ok-other.ensures.states.there)
    c.in_ok-one.ensures.rests c.in_ok-other.ensures.rests c.in_ok-back.ensures.rests h) c.chained.ensures.rests

pub returns-clause-kept : goal.returns-clause-kept
returns-clause-kept c =
    let a = c.args.justs.now in
    let j2 = c.rewritten-2.new.justs in
    let j3 = c.turned.new.justs in
    front_then a j3 c.chained.new.justs (front_then a j2 j3 (front_then a c.rewritten.new.justs j2 c.rewritten.ensures.kept c.rewritten-2.ensures.kept) c.turned.ensures.kept) c.chained.ensures.kept
