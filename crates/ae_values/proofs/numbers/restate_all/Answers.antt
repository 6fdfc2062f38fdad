use Rattle.std.specs.Prelude.{◌<◌, length}
use Rattle.std.proofs.Common.{ap, ◌∙◌}
use Rattle.std.proofs.lemmas.Option.{slice_get-get_or, slice_get_within}
use Rattle.ae_base.proofs.AllOf.{all_at}
use Rattle.ae_linear.specs.Rows.{row_at}
use Rattle.ae_store.specs.Shapes.{shapes}
use Rattle.ae_store.specs.Terms.{terms}
use Rattle.ae_store.proofs.EnterLaws.{front_then}
use Rattle.ae_value_steps.proofs.Added.{stated_kept}
use Rattle.ae_value_table.specs.Table.{Contents}
use Rattle.ae_value_fitting.specs.Sources.{SaysValue}
use Rattle.ae_values.specs.declared.occurrences.Change.{Change}
use Rattle.ae_values.specs.Inner.Putting.{IsRestatable}
use Rattle.ae_values.proofs.Restating.{restatable_kept, restated_more}
use Rattle.ae_values.proofs.numbers.restate_all.Goals as goal

pub restate-requires-clause-change : goal.restate-requires-clause-change
restate-requires-clause-change c =
    let i = c.loop-change.invariant in
    let old = c.args.justs.now in
    let changes = c.args.changes.now in
    let at = c.loop-change.change-index in
    let l : at < length changes = c.loop-change-test.true in
    let p = c.args.put.now in
    restatable_kept c.args.store.now.signature (terms (shapes c.args.store.now.nodes)) old c.loop-change.justs i.front c.args.real p.name p.value.now c.args.values.now c.loop-change.values
    (λ n. ap (λ (x : Contents). row_at x.rows n) i.others) _
    (all_at (IsRestatable c.args.store.now.signature (terms (shapes c.args.store.now.nodes)) old c.args.real p.name p.value.now c.args.values.now) changes at _ c.requires.changes (slice_get-get_or changes at _ l))

pub restate-requires-clause-put : goal.restate-requires-clause-put
restate-requires-clause-put c =
    let p = c.args.put.now in
    stated_kept c.args.store.now.signature (terms (shapes c.args.store.now.nodes)) c.args.justs.now c.loop-change.justs c.loop-change.invariant.front c.args.real p.name p.value.now p.step c.requires.put

pub loop-change-preserved : goal.loop-change-preserved
loop-change-preserved c =
    let i = c.loop-change.invariant in
    let old = c.args.justs.now in
    let mid = c.loop-change.justs in
    let new = c.restate.new.justs in
    let changes = c.args.changes.now in
    let at = c.loop-change.change-index in
    let l : at < length changes = c.loop-change-test.true in
    let p = c.args.put.now in
    let f : Contents = c.restate.new.values in
    record {
      fits = c.restate.ensures.fits;
      front = front_then old mid new i.front c.restate.ensures.front;
      others = c.restate.ensures.others ∙ ap (λ (x : Contents). record { entries = x.entries; taken = x.taken; rows = x.rows; leaves = x.leaves; justs = f.justs }) i.others;
      lasts = λ shared then h. c.restate.ensures.lasts shared then (i.lasts shared then h);
      restated = restated_more c.args.store.now.signature (terms (shapes c.args.store.now.nodes)) old mid new i.front c.restate.ensures.front i.fits c.restate.ensures.fits c.args.real c.args.values.now p.step c.requires.put_says
          (slice_get_within old p.step _ c.requires.put.stated.there) c.loop-change.values f changes at _ l (λ n. ap (λ (x : Contents). row_at x.rows n) c.restate.ensures.others)
          (all_at (λ (change : Change). SaysValue c.args.values.now change.before.step) changes at _ c.requires.says (slice_get-get_or changes at _ l))
          (slice_get_within old _ _
          (all_at (IsRestatable c.args.store.now.signature (terms (shapes c.args.store.now.nodes)) old c.args.real p.name p.value.now c.args.values.now) changes at _ c.requires.changes
          (slice_get-get_or changes at _ l)).stated.stated.there) i.restated c.in_ok-restate.ensures.done c.in_ok-restate.ensures.kept;
    }
