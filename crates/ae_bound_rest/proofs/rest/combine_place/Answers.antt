use Rattle.std.proofs.Common.{arith, refl, ◌∙◌}
use Rattle.ae_bound_rest.specs.Rest.IsGrown.{as_it_was}
use Rattle.ae_bound_rest.proofs.Counting.{grown_on}
use Rattle.ae_bound_rest.proofs.Pairing.{longer, none_paired, paired_more, pair_more, pair_down}
use Rattle.ae_bound_rest.proofs.rest.combine_place.Goals as goal

pub loop-other-init : goal.loop-other-init
loop-other-init c = record { counted = c.requires.counted; grown = as_it_was; limit = refl; paired = none_paired c.args.sure.now c.args.place c.args.sure.now }

pub combine_places-requires-clause-counted : goal.combine_places-requires-clause-counted
combine_places-requires-clause-counted c = c.loop-other.invariant.counted

pub combine_places-requires-clause-lower : goal.combine_places-requires-clause-lower
combine_places-requires-clause-lower c =
    let h = longer c.args.sure.now c.args.journal.now.lines c.loop-other.sure c.loop-other.journal.lines c.loop-other.invariant.grown in
    let p = c.requires.place in
    omega (arith, h, p)

pub combine_places-requires-clause-upper : goal.combine_places-requires-clause-upper
combine_places-requires-clause-upper c =
    let h = longer c.args.sure.now c.args.journal.now.lines c.loop-other.sure c.loop-other.journal.lines c.loop-other.invariant.grown in
    let p = c.requires.place in
    let t = c.loop-other-test.true in
    omega (arith, h, p, t)

pub combine_places-requires-in-loop-other-clause-lower : goal.combine_places-requires-in-loop-other-clause-lower
combine_places-requires-in-loop-other-clause-lower c =
    let h = longer c.args.sure.now c.args.journal.now.lines c.loop-other.sure c.loop-other.journal.lines c.loop-other.invariant.grown in
    let k = longer c.loop-other.sure c.loop-other.journal.lines c.combine_places.new.sure c.combine_places.new.journal.lines c.combine_places.ensures.grown in
    let p = c.requires.place in
    let t = c.loop-other-test.true in
    omega (arith, h, k, p, t)

pub combine_places-requires-in-loop-other-clause-upper : goal.combine_places-requires-in-loop-other-clause-upper
combine_places-requires-in-loop-other-clause-upper c =
    let h = longer c.args.sure.now c.args.journal.now.lines c.loop-other.sure c.loop-other.journal.lines c.loop-other.invariant.grown in
    let k = longer c.loop-other.sure c.loop-other.journal.lines c.combine_places.new.sure c.combine_places.new.journal.lines c.combine_places.ensures.grown in
    let p = c.requires.place in
    omega (arith, h, k, p)

pub returns-in_err-combine_places-clause-grown : goal.returns-in_err-combine_places-clause-grown
returns-in_err-combine_places-clause-grown c =
    grown_on c.args.sure.now c.args.journal.now.lines c.loop-other.sure c.loop-other.journal.lines c.combine_places.new.sure c.combine_places.new.journal.lines c.loop-other.invariant.grown c.combine_places.ensures.grown

pub returns-in_err-combine_places-2-clause-grown : goal.returns-in_err-combine_places-2-clause-grown
returns-in_err-combine_places-2-clause-grown c =
    grown_on c.args.sure.now c.args.journal.now.lines c.combine_places.new.sure c.combine_places.new.journal.lines c.combine_places-in-loop-other.new.sure c.combine_places-in-loop-other.new.journal.lines
    (grown_on c.args.sure.now c.args.journal.now.lines c.loop-other.sure c.loop-other.journal.lines c.combine_places.new.sure c.combine_places.new.journal.lines c.loop-other.invariant.grown c.combine_places.ensures.grown)
    c.combine_places-in-loop-other.ensures.grown

pub loop-other-preserved : goal.loop-other-preserved
loop-other-preserved c =
    let i = c.loop-other.invariant in
    let one = c.combine_places.ensures in
    let two = c.combine_places-in-loop-other.ensures in
    let rows = c.args.sure.now in
    let js = c.args.journal.now.lines in
    let was = c.loop-other.sure in
    let ws = c.loop-other.journal.lines in
    let mid = c.combine_places.new.sure in
    let ms = c.combine_places.new.journal.lines in
    let now = c.combine_places-in-loop-other.new.sure in
    let ns = c.combine_places-in-loop-other.new.journal.lines in
    let other = c.loop-other.other in
    let a = grown_on rows js was ws mid ms i.grown one.grown in
    let b = grown_on was ws mid ms now ns one.grown two.grown in
    record {
      counted = two.counted;
      grown = grown_on rows js mid ms now ns a two.grown;
      limit = two.limit ∙ one.limit ∙ i.limit;
      paired = paired_more rows c.args.place other was ws now ns b i.paired (pair_more rows c.args.place other mid ms now ns two.grown (pair_down rows js was ws c.args.place other mid i.grown c.in_ok-combine_places.ensures.done))
          (pair_down rows js mid ms other c.args.place now a c.in_ok-combine_places-2.ensures.done);
    }

pub returns-clause-paired : goal.returns-clause-paired
returns-clause-paired c = λ k l. c.loop-other.invariant.paired k (let t = c.loop-other-test.false in omega (arith, l, t))
