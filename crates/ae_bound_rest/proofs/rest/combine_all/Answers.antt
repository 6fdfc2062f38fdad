use Rattle.std.specs.Prelude.{length}
use Rattle.std.proofs.Common.{arith, refl, ◌∙◌}
use Rattle.ae_num.specs.Forms.{IsNormal}
use Rattle.ae_journal.proofs.Splits.{all_contained}
use Rattle.ae_bounds.specs.declared.rows.Row.{Row}
use Rattle.ae_bound_rest.specs.Rest.IsGrown.{as_it_was}
use Rattle.ae_bound_rest.proofs.Counting.{grown_on}
use Rattle.ae_bound_rest.proofs.Pairing.{longer, none_below, below_step, below_less}
use Rattle.ae_bound_rest.proofs.rest.combine_all.Goals as goal

pub loop-place-init : goal.loop-place-init
loop-place-init c = record { counted = c.requires.counted; grown = as_it_was; limit = refl; within = omega arith; done = none_below c.args.sure.now }

pub returns-then-is_past-clause-done : goal.returns-then-is_past-clause-done
returns-then-is_past-clause-done c = below_less c.loop-place.sure c.loop-place.place (length c.loop-place.sure) (c.is_past.ensures.past c.if-is_past.true) c.loop-place.invariant.done

pub combine_place-requires-clause-counted : goal.combine_place-requires-clause-counted
combine_place-requires-clause-counted c = c.loop-place.invariant.counted

pub combine_place-requires-clause-place : goal.combine_place-requires-clause-place
combine_place-requires-clause-place c = c.is_past.ensures.before c.if-is_past.false

pub returns-in_err-combine_place-clause-grown : goal.returns-in_err-combine_place-clause-grown
returns-in_err-combine_place-clause-grown c =
    grown_on c.args.sure.now c.args.journal.now.lines c.loop-place.sure c.loop-place.journal.lines c.combine_place.new.sure c.combine_place.new.journal.lines c.loop-place.invariant.grown c.combine_place.ensures.grown

pub loop-place-preserved : goal.loop-place-preserved
loop-place-preserved c =
    let i = c.loop-place.invariant in
    let e = c.combine_place.ensures in
    let rows = c.loop-place.sure in
    let now = c.combine_place.new.sure in
    let at = c.is_past.ensures.before c.if-is_past.false in
    record {
      counted = e.counted;
      grown = grown_on c.args.sure.now c.args.journal.now.lines rows c.loop-place.journal.lines now c.combine_place.new.journal.lines i.grown e.grown;
      limit = e.limit ∙ i.limit;
      within = (let l = longer rows c.loop-place.journal.lines now c.combine_place.new.journal.lines e.grown in omega (arith, l, at));
      done = below_step rows c.loop-place.journal.lines now c.combine_place.new.journal.lines c.loop-place.place at (λ r h. all_contained (λ (t : Row). IsNormal t.lin) rows r i.counted.indexed.normal h) e.grown
          c.in_ok-combine_place.ensures.paired i.done;
    }

pub returns-clause-done : goal.returns-clause-done
returns-clause-done c =
    below_less c.loop-place.sure c.loop-place.place (length c.loop-place.sure) (let t = c.loop-place-test.false in let n = c.count_rows.ensures in omega (arith, t, n)) c.loop-place.invariant.done
