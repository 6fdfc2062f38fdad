use Rattle.std.specs.Prelude.{Ok, ◌≡◌, ◌∷◌, ◌++◌, [], length, slice_get, nat_eq}
use Rattle.std.proofs.Common.{arith, refl, sym, ap, ◌∙◌, subst, inl, inr, length-append}
use Rattle.ae_base.proofs.ListFacts.{value_at}
use Rattle.indexmap.specs.IndexMap.{get}
use Rattle.ae_bounds.specs.Combinations.IsExtended.{as_it_was}
use Rattle.ae_bounds.specs.Inner.Heads.{IsHeadAt}
use Rattle.ae_bounds.specs.Inner.Pairs.{ArePaired, IsKept}
use Rattle.ae_bounds.proofs.Closing.{extended_on}
use Rattle.ae_bounds.proofs.LargestNames.{head_found}
use Rattle.ae_bounds.proofs.Stopping.{stops_same, stops_on}
use Rattle.ae_bounds.proofs.Keeping.{closed_kept, kept_more, kept_same, kept_step}
use Rattle.ae_bounds.proofs.bounds.close_rows.Goals as goal

pub has_refuted-requires-clause-normal : goal.has_refuted-requires-clause-normal
has_refuted-requires-clause-normal c = c.requires.kept.indexed.normal

pub has_refuted-requires-clause-founded : goal.has_refuted-requires-clause-founded
has_refuted-requires-clause-founded c = c.requires.kept.founded

pub returns-then-has_refuted-clause-closed : goal.returns-then-has_refuted-clause-closed
returns-then-has_refuted-clause-closed c = inr (c.has_refuted.ensures.yes c.if-has_refuted.true)

pub returns-then-has_refuted-clause-stops : goal.returns-then-has_refuted-clause-stops
returns-then-has_refuted-clause-stops c = stops_same c.args.rows.now

pub returns-then-has_refuted-clause-extended : goal.returns-then-has_refuted-clause-extended
returns-then-has_refuted-clause-extended c = as_it_was

pub loop-place-init : goal.loop-place-init
loop-place-init c = record {
  kept = c.requires.kept;
  closed = sym c.len-place.ensures;
  extended = as_it_was;
  limit = refl;
  possible = c.has_refuted.ensures.no c.if-has_refuted.false;
  stops = stops_same c.args.rows.now;
}

pub returns-then-is_past-clause-closed : goal.returns-then-is_past-clause-closed
returns-then-is_past-clause-closed c =
    inl
    (closed_kept c.loop-place.rows c.loop-place.directions.keys (get nat_eq c.loop-place.latest) c.loop-place.earlier (let p = c.is_past.ensures.past c.if-is_past.true in let e = c.loop-place.invariant.closed in omega (arith, p, e))
    c.loop-place.invariant.kept)

pub last_at-part-requires : goal.last_at-part-requires
last_at-part-requires c = c.is_past.ensures.before c.if-is_past.false

pub combine_earlier-requires-clause-indexed : goal.combine_earlier-requires-clause-indexed
combine_earlier-requires-clause-indexed c = c.loop-place.invariant.kept.indexed

pub combine_earlier-requires-clause-place : goal.combine_earlier-requires-clause-place
combine_earlier-requires-clause-place c = c.is_past.ensures.before c.if-is_past.false

pub combine_earlier-requires-clause-before : goal.combine_earlier-requires-clause-before
combine_earlier-requires-clause-before c = c.loop-place.invariant.kept.heads.before

pub combine_earlier-requires-clause-possible : goal.combine_earlier-requires-clause-possible
combine_earlier-requires-clause-possible c = c.loop-place.invariant.possible

pub combine_earlier-requires-clause-head : goal.combine_earlier-requires-clause-head
combine_earlier-requires-clause-head c =
    let i = c.loop-place.invariant in
    let rows = c.loop-place.rows in
    let es = c.loop-place.earlier in
    let at = value_at rows c.loop-place.place (c.is_past.ensures.before c.if-is_past.false) in
    subst (λ n. IsHeadAt rows n c.head_of-head.result) i.closed
    (head_found rows (get nat_eq c.loop-place.latest) es at.0 c.last_at-part.result c.head_of-head.result i.kept.heads (ap (slice_get rows) i.closed ∙ at.1) (c.last_at-part.ensures at.0 at.1) c.head_of-head.ensures)

pub returns-in_err-refuted-clause-extended : goal.returns-in_err-refuted-clause-extended
returns-in_err-refuted-clause-extended c =
    extended_on c.args.rows.now c.args.journal.now.lines c.loop-place.rows c.loop-place.journal.lines c.combine_earlier.new.rows c.combine_earlier.new.journal.lines c.loop-place.invariant.extended
    c.combine_earlier.ensures.extended

pub returns-in_err-refuted-clause-kept : goal.returns-in_err-refuted-clause-kept
returns-in_err-refuted-clause-kept c =
    kept_more c.loop-place.rows c.combine_earlier.new.rows c.loop-place.journal.lines c.combine_earlier.new.journal.lines c.loop-place.directions.keys c.combine_earlier.new.directions.keys (get nat_eq c.loop-place.latest)
    c.loop-place.earlier c.combine_earlier.ensures.extended c.loop-place.invariant.kept c.combine_earlier.ensures.indexed

pub returns-in_err-refuted-clause-stops : goal.returns-in_err-refuted-clause-stops
returns-in_err-refuted-clause-stops c =
    stops_on c.args.rows.now c.loop-place.rows c.combine_earlier.new.rows c.loop-place.journal.lines c.combine_earlier.new.journal.lines c.combine_earlier.ensures.extended c.loop-place.invariant.stops
    c.combine_earlier.ensures.stops

pub returns-then-refuted-clause-closed : goal.returns-then-refuted-clause-closed
returns-then-refuted-clause-closed c = inr (c.in_ok-refuted.ensures.refuted (ap Ok c.if-refuted.true))

pub returns-then-refuted-clause-extended : goal.returns-then-refuted-clause-extended
returns-then-refuted-clause-extended c =
    extended_on c.args.rows.now c.args.journal.now.lines c.loop-place.rows c.loop-place.journal.lines c.combine_earlier.new.rows c.combine_earlier.new.journal.lines c.loop-place.invariant.extended
    c.combine_earlier.ensures.extended

pub returns-then-refuted-clause-kept : goal.returns-then-refuted-clause-kept
returns-then-refuted-clause-kept c =
    kept_more c.loop-place.rows c.combine_earlier.new.rows c.loop-place.journal.lines c.combine_earlier.new.journal.lines c.loop-place.directions.keys c.combine_earlier.new.directions.keys (get nat_eq c.loop-place.latest)
    c.loop-place.earlier c.combine_earlier.ensures.extended c.loop-place.invariant.kept c.combine_earlier.ensures.indexed

pub returns-then-refuted-clause-stops : goal.returns-then-refuted-clause-stops
returns-then-refuted-clause-stops c =
    stops_on c.args.rows.now c.loop-place.rows c.combine_earlier.new.rows c.loop-place.journal.lines c.combine_earlier.new.journal.lines c.combine_earlier.ensures.extended c.loop-place.invariant.stops
    c.combine_earlier.ensures.stops

pub returns-in_err-enter-clause-stops : goal.returns-in_err-enter-clause-stops
returns-in_err-enter-clause-stops c =
    stops_on c.args.rows.now c.loop-place.rows c.combine_earlier.new.rows c.loop-place.journal.lines c.combine_earlier.new.journal.lines c.combine_earlier.ensures.extended c.loop-place.invariant.stops
    c.combine_earlier.ensures.stops

pub returns-in_err-enter-clause-extended : goal.returns-in_err-enter-clause-extended
returns-in_err-enter-clause-extended c =
    extended_on c.args.rows.now c.args.journal.now.lines c.loop-place.rows c.loop-place.journal.lines c.combine_earlier.new.rows c.combine_earlier.new.journal.lines c.loop-place.invariant.extended
    c.combine_earlier.ensures.extended

pub returns-in_err-enter-clause-kept : goal.returns-in_err-enter-clause-kept
returns-in_err-enter-clause-kept c =
    kept_same c.combine_earlier.new.rows c.combine_earlier.new.directions.keys (get nat_eq c.loop-place.latest) (get nat_eq c.enter.new.latest) c.loop-place.earlier c.enter.new.earlier
    c.in_err-enter.ensures.kept c.in_err-enter.ensures.same
    (kept_more c.loop-place.rows c.combine_earlier.new.rows c.loop-place.journal.lines c.combine_earlier.new.journal.lines c.loop-place.directions.keys c.combine_earlier.new.directions.keys (get nat_eq c.loop-place.latest)
    c.loop-place.earlier c.combine_earlier.ensures.extended c.loop-place.invariant.kept c.combine_earlier.ensures.indexed)

pub loop-place-preserved : goal.loop-place-preserved
loop-place-preserved c =
    let i = c.loop-place.invariant in
    let e = c.combine_earlier.ensures in
    let rows = c.loop-place.rows in
    let now = c.combine_earlier.new.rows in
    let es = c.loop-place.earlier in
    let head = c.head_of-head.result in
    let at = value_at rows c.loop-place.place (c.is_past.ensures.before c.if-is_past.false) in
    let added = c.in_ok-enter.ensures.added in
    let kept = kept_step rows now c.loop-place.journal.lines c.combine_earlier.new.journal.lines c.loop-place.directions.keys c.combine_earlier.new.directions.keys (get nat_eq c.loop-place.latest) (get nat_eq c.enter.new.latest) es at.0
    c.last_at-part.result head e.extended i.kept e.indexed (subst (λ n. ArePaired rows n n now) (sym i.closed) (c.in_ok-refuted.ensures.paired (ap Ok c.if-refuted.false))) (ap (slice_get rows) i.closed ∙ at.1) (c.last_at-part.ensures at.0 at.1)
    c.head_of-head.ensures c.in_ok-enter.ensures.latest in
    record {
      kept = subst (IsKept now c.combine_earlier.new.directions.keys (get nat_eq c.enter.new.latest)) (sym added) kept;
      closed = (let l = length-append es (head ∷ []) in let a : length c.enter.new.earlier ≡ length (es ++ head ∷ []) = ap length added in let k = i.closed in omega (arith, l, a, k));
      extended = extended_on c.args.rows.now c.args.journal.now.lines rows c.loop-place.journal.lines now c.combine_earlier.new.journal.lines i.extended e.extended;
      limit = e.limit ∙ i.limit;
      possible = c.in_ok-refuted.ensures.possible (ap Ok c.if-refuted.false);
      stops = stops_on c.args.rows.now rows now c.loop-place.journal.lines c.combine_earlier.new.journal.lines e.extended i.stops e.stops;
    }

pub returns-clause-closed : goal.returns-clause-closed
returns-clause-closed c =
    inl
    (closed_kept c.loop-place.rows c.loop-place.directions.keys (get nat_eq c.loop-place.latest) c.loop-place.earlier
    (let t = c.loop-place-test.false in let n = c.count_rows.ensures in let e = c.loop-place.invariant.closed in omega (arith, t, n, e)) c.loop-place.invariant.kept)
