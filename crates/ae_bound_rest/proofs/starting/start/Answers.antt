use Rattle.std.specs.Prelude.{ℕ, suc, ◌≡◌, ◌+◌, map, take}
use Rattle.std.proofs.Common.{arith, sym, ap, subst, ◌∙◌}
use Rattle.std.proofs.lemmas.List.{take_all}
use Rattle.ae_bounds.specs.declared.rows.Row.{Row}
use Rattle.ae_num.specs.Forms.{IsNormal}
use Rattle.ae_bound_rest.specs.Rest.{counted}
use Rattle.ae_bound_rest.specs.Inner.Pairs.{IsPlain}
use Rattle.ae_bound_rest.proofs.Counting.{none_counted, counted_normal, counted_more, counted_plain, started_more, unrounded_none}
use Rattle.ae_bound_rest.proofs.starting.start.Goals as goal

pub loop-row-init : goal.loop-row-init
loop-row-init c = record { kept = none_counted c.args.sure.now c.args.directions.now.keys c.requires.none c.requires.directions; started = c.requires.none }

pub enter-requires-clause-normal : goal.enter-requires-clause-normal
enter-requires-clause-normal c =
    subst (λ (r : Row). IsNormal r.lin) (sym c.in_ok-made.ensures)
    (counted_normal c.args.rows.now c.requires.normal c.requires.rounded c.row-item.result (c.loop-row.row-index, c.loop-row-test.true, sym c.row-item.is))

pub enter-requires-clause-plain : goal.enter-requires-clause-plain
enter-requires-clause-plain c = unrounded_none c.in_ok-made.made (subst IsPlain (sym c.in_ok-made.ensures) (counted_plain c.row-item.result))

pub enter-requires-clause-indexed : goal.enter-requires-clause-indexed
enter-requires-clause-indexed c = c.loop-row.invariant.kept.indexed

pub loop-row-preserved : goal.loop-row-preserved
loop-row-preserved c =
    let k = c.loop-row.row-index in
    let one : suc k ≡ k + 1 = omega arith in
    record {
      kept = counted_more c.loop-row.sure c.enter.new.sure c.loop-row.directions.keys c.enter.new.directions.keys c.row-item.result c.in_ok-made.made c.loop-row.invariant.kept c.in_ok-made.ensures c.in_ok-enter.ensures.added c.in_ok-enter.ensures.indexed;
      started = subst (λ (n : ℕ). c.enter.new.sure ≡ map counted (take n c.args.rows.now)) one
          (started_more c.args.rows.now k c.row-item.result c.loop-row-test.true c.row-item.is c.loop-row.sure c.enter.new.sure c.in_ok-made.made c.loop-row.invariant.started c.in_ok-made.ensures c.in_ok-enter.ensures.added);
    }

pub returns-clause-started : goal.returns-clause-started
returns-clause-started c = c.loop-row.invariant.started ∙ ap (map counted) (take_all c.loop-row.row-index c.args.rows.now (let t = c.loop-row-test.false in omega (arith, t)))

pub returns-clause-counted : goal.returns-clause-counted
returns-clause-counted c = c.loop-row.invariant.kept
