use Rattle.std.proofs.Common.{get_or, sym, ◌∙◌, arith}
use Rattle.std.proofs.lemmas.Option.{slice_get-get_or}
use Rattle.ae_journal.proofs.Splits.{contains_at}
use Rattle.ae_brought_clauses.proofs.Places.{none_fallen, not_fallen, all_not_aged, aged_at}
use Rattle.ae_brought_clauses.proofs.fallen.find_fallen.Goals as goal

pub loop-at-init : goal.loop-at-init
loop-at-init c = none_fallen c.args.opened.now c.args.generation c.args.ages.now c.args.places.now

pub is_aged_at-requires : goal.is_aged_at-requires
is_aged_at-requires c =
    let k = get_or c.args.places.now c.loop-at.at 0 in
    c.requires k (contains_at c.args.places.now c.loop-at.at k (slice_get-get_or c.args.places.now c.loop-at.at 0 c.loop-at-test.true))

pub returns-then-is_aged_at : goal.returns-then-is_aged_at
returns-then-is_aged_at c =
    let k = get_or c.args.places.now c.loop-at.at 0 in (
      k,
      slice_get-get_or c.args.places.now c.loop-at.at 0 c.loop-at-test.true,
      aged_at c.args.opened.now c.args.generation c.args.ages.now k (λ o at. sym c.if-is_aged_at.true ∙ c.is_aged_at.ensures o at),
    )

pub loop-at-preserved : goal.loop-at-preserved
loop-at-preserved c =
    let k = get_or c.args.places.now c.loop-at.at 0 in
    not_fallen c.args.opened.now c.args.generation c.args.ages.now c.loop-at.at c.args.places.now k (slice_get-get_or c.args.places.now c.loop-at.at 0 c.loop-at-test.true)
    (λ o at. sym c.if-is_aged_at.false ∙ c.is_aged_at.ensures o at) c.loop-at.invariant

pub returns : goal.returns
returns c = all_not_aged c.args.opened.now c.args.generation c.args.ages.now c.loop-at.at c.args.places.now (let t = c.loop-at-test.false in omega (arith, t)) c.loop-at.invariant
