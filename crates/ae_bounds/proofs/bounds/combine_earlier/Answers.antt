use Rattle.std.specs.Prelude.{ℕ, suc, Option, Ok, ◌≡◌, ◌<◌}
use Rattle.std.proofs.Common.{arith, refl, ap, ◌∙◌, subst}
use Rattle.ae_bounds.specs.Combinations.IsExtended.{as_it_was}
use Rattle.ae_ineq.specs.Inner.Sets.{name_reach}
use Rattle.ae_bounds.specs.Inner.Pairs.{IsPairThere}
use Rattle.ae_bounds.proofs.Closing.{extended_on, longer, pair_down}
use Rattle.ae_bounds.proofs.LargestNames.{IsReached, reached_start, reached_next, reached_end, before_less}
use Rattle.ae_bounds.proofs.Stopping.{stops_same, stops_on}
use Rattle.ae_bounds.proofs.bounds.combine_earlier.Goals as goal

pub partners-init : goal.partners-init
partners-init c = record {
  indexed = c.requires.indexed;
  extended = as_it_was;
  limit = refl;
  reached = reached_start c.args.rows.now c.args.rows.now c.args.place c.args.head c.requires.head;
  possible = c.requires.possible;
  stops = stops_same c.args.rows.now;
}

pub combine_pair-requires-clause-place : goal.combine_pair-requires-clause-place
combine_pair-requires-clause-place c =
    let h = longer c.args.rows.now c.partners.rows c.args.journal.now.lines c.partners.journal.lines c.partners.invariant.extended in
    let p = c.requires.place in
    omega (arith, h, p)

pub combine_pair-requires-clause-other : goal.combine_pair-requires-clause-other
combine_pair-requires-clause-other c =
    let h = longer c.args.rows.now c.partners.rows c.args.journal.now.lines c.partners.journal.lines c.partners.invariant.extended in
    let p = c.requires.place in
    let r = c.partners.invariant.reached.head c.in-Some.other c.in-Some.is in
    let t = r.1 in
    omega (arith, h, p, t)

pub combine_pair-requires-clause-possible : goal.combine_pair-requires-clause-possible
combine_pair-requires-clause-possible c = c.partners.invariant.possible

pub returns-in_err-refuted-clause-extended : goal.returns-in_err-refuted-clause-extended
returns-in_err-refuted-clause-extended c =
    extended_on c.args.rows.now c.args.journal.now.lines c.partners.rows c.partners.journal.lines c.combine_pair.new.rows c.combine_pair.new.journal.lines c.partners.invariant.extended c.combine_pair.ensures.extended

pub returns-in_err-refuted-clause-stops : goal.returns-in_err-refuted-clause-stops
returns-in_err-refuted-clause-stops c =
    stops_on c.args.rows.now c.partners.rows c.combine_pair.new.rows c.partners.journal.lines c.combine_pair.new.journal.lines c.combine_pair.ensures.extended c.partners.invariant.stops c.combine_pair.ensures.stops

pub returns-then-refuted-clause-refuted : goal.returns-then-refuted-clause-refuted
returns-then-refuted-clause-refuted c = λ e. c.in_ok-refuted.ensures.refuted (ap Ok c.if-refuted.true)

pub returns-then-refuted-clause-extended : goal.returns-then-refuted-clause-extended
returns-then-refuted-clause-extended c =
    extended_on c.args.rows.now c.args.journal.now.lines c.partners.rows c.partners.journal.lines c.combine_pair.new.rows c.combine_pair.new.journal.lines c.partners.invariant.extended c.combine_pair.ensures.extended

pub returns-then-refuted-clause-stops : goal.returns-then-refuted-clause-stops
returns-then-refuted-clause-stops c =
    stops_on c.args.rows.now c.partners.rows c.combine_pair.new.rows c.partners.journal.lines c.combine_pair.new.journal.lines c.combine_pair.ensures.extended c.partners.invariant.stops c.combine_pair.ensures.stops

pub place_before-at-requires : goal.place_before-at-requires
place_before-at-requires c =
    let t = (c.partners.invariant.reached.head c.in-Some.other c.in-Some.is).1 in
    let w = c.requires.within in
    omega (arith, t, w)

pub partners-smaller : goal.partners-smaller
partners-smaller c =
    let h = c.partners.invariant.reached.head c.in-Some.other c.in-Some.is in
    let b = before_less c.args.rows.now h.0 c.in-Some.other c.place_before-at.result (c.requires.before c.in-Some.other h.0 c.place_before-at.result h.3 c.place_before-at.ensures) in
    let e : name_reach c.partners.at ≡ suc c.in-Some.other = ap name_reach c.in-Some.is in
    let s : name_reach c.place_before-at.result < name_reach c.partners.at = omega (arith, b, e) in
    s

pub partners-preserved : goal.partners-preserved
partners-preserved c =
    let i = c.partners.invariant in
    let new = c.combine_pair.ensures in
    let rows = c.args.rows.now in
    let js = c.args.journal.now.lines in
    let was = c.partners.rows in
    let ws = c.partners.journal.lines in
    let now = c.combine_pair.new.rows in
    let ns = c.combine_pair.new.journal.lines in
    let other = c.in-Some.other in
    let done = c.in_ok-refuted.ensures.done (ap Ok c.if-refuted.false) in
    let first : IsPairThere rows c.args.place other now = pair_down rows was js ws c.args.place other now i.extended done.0 in
    let second : IsPairThere rows other c.args.place now = pair_down rows was js ws other c.args.place now i.extended done.1 in
    record {
      indexed = new.indexed;
      extended = extended_on rows js was ws now ns i.extended new.extended;
      limit = new.limit ∙ i.limit;
      reached = reached_next rows was now ws ns c.args.place other c.place_before-at.result c.args.earlier.now new.extended c.requires.before c.place_before-at.ensures
          (subst (λ (o : Option ℕ). IsReached rows c.args.place o was) c.in-Some.is i.reached) first second;
      possible = c.in_ok-refuted.ensures.possible (ap Ok c.if-refuted.false);
      stops = stops_on rows was now ws ns new.extended i.stops new.stops;
    }

pub returns-clause-paired : goal.returns-clause-paired
returns-clause-paired c = λ e.
    reached_end c.args.rows.now c.partners.rows c.args.place (subst (λ (o : Option ℕ). IsReached c.args.rows.now c.args.place o c.partners.rows) c.in_default.is c.partners.invariant.reached)

pub returns-clause-possible : goal.returns-clause-possible
returns-clause-possible c = λ e. c.partners.invariant.possible
