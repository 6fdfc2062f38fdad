use Rattle.std.proofs.Common.{◌+◌, sym, subst, arith, List, ℕ}
use Rattle.ae_base.proofs.ListFacts.{value_at}
use Rattle.ae_brought_clauses.specs.Inner.Bringing.{AreWithin}
use Rattle.ae_brought_clauses.proofs.Places.{AreAgedBelow, none_older, none_within, one_older, still_within, all_aged}
use Rattle.ae_brought_clauses.proofs.fallen.older_blocks.Goals as goal

pub loop-place-init : goal.loop-place-init
loop-place-init c =
    subst (λ (w : List ℕ). AreWithin c.args.opened.now w × AreAgedBelow c.args.opened.now c.args.generation c.args.ages.now 0 w) (sym c.new-places.ensures)
    (none_within c.args.opened.now c.args.generation c.args.ages.now, none_older c.args.opened.now c.args.generation c.args.ages.now)

pub loop-place-preserved : goal.loop-place-preserved
loop-place-preserved c =
    let os = c.args.opened.now in
    let g = c.args.generation in
    let es = c.args.ages.now in
    let n = c.loop-place.place in
    let o = value_at os n c.loop-place-test.true in
    subst (λ (w : List ℕ). AreWithin os w × AreAgedBelow os g es (n + 1) w) (sym c.in_ok-push_unless.ensures) (
      still_within os g es n c.loop-place.places c.is_aged_at-aged.result c.loop-place-test.true c.loop-place.invariant.0,
      one_older os g es n c.loop-place.places c.is_aged_at-aged.result o.0 o.1 (c.is_aged_at-aged.ensures o.0 o.1) c.loop-place.invariant.1,
    )

pub returns-clause-within : goal.returns-clause-within
returns-clause-within c = c.loop-place.invariant.0

pub returns-clause-others : goal.returns-clause-others
returns-clause-others c = all_aged c.args.opened.now c.args.generation c.args.ages.now c.loop-place.place c.loop-place.places (let t = c.loop-place-test.false in omega (arith, t)) c.loop-place.invariant.1
