use Rattle.std.specs.Prelude.{◌<◌, length}
use Rattle.std.proofs.Common.{ap, ◌∙◌}
use Rattle.std.proofs.lemmas.Option.{slice_get-get_or, slice_get_within}
use Rattle.ae_base.proofs.AllOf.{all_at}
use Rattle.ae_state_steps.specs.ValueSteps.{StatesEqual}
use Rattle.ae_store.specs.Shapes.{shapes}
use Rattle.ae_store.specs.Terms.{terms}
use Rattle.ae_store.proofs.EnterLaws.{front_then}
use Rattle.ae_value_steps.proofs.Added.{equal_kept}
use Rattle.ae_value_table.specs.Table.{Contents}
use Rattle.ae_value_fitting.specs.Sources.{SaysValue}
use Rattle.ae_values.specs.declared.occurrences.Follower.{Follower}
use Rattle.ae_values.proofs.LeafPuts.{led_more}
use Rattle.ae_values.proofs.leaves.lead_all.Goals as goal

pub lead-requires-clause-equal : goal.lead-requires-clause-equal
lead-requires-clause-equal c =
    let i = c.loop-follower.invariant in
    let old = c.args.justs.now in
    let mid = c.loop-follower.justs in
    let followers = c.args.followers.now in
    let e = c.requires.equal in (
      e.0,
      equal_kept old mid i.front _ _ _
          (all_at (λ (follower : Follower). StatesEqual old follower.step follower.name e.0) followers c.loop-follower.follower-index _ e.1 (slice_get-get_or followers c.loop-follower.follower-index _ c.loop-follower-test.true)),
      equal_kept old mid i.front c.args.just e.0 c.args.leaf e.2,
    )

pub loop-follower-preserved : goal.loop-follower-preserved
loop-follower-preserved c =
    let i = c.loop-follower.invariant in
    let old = c.args.justs.now in
    let mid = c.loop-follower.justs in
    let new = c.lead.new.justs in
    let followers = c.args.followers.now in
    let at = c.loop-follower.follower-index in
    let l : at < length followers = c.loop-follower-test.true in
    let e = c.requires.equal in
    let f : Contents = c.lead.new.values in
    record {
      fits = c.lead.ensures.fits;
      front = front_then old mid new i.front c.lead.ensures.front;
      others = c.lead.ensures.others ∙ ap (λ (x : Contents). record { entries = x.entries; taken = x.taken; rows = x.rows; leaves = f.leaves; justs = f.justs }) i.others;
      lasts = λ shared then h. c.lead.ensures.lasts shared then (i.lasts shared then h);
      led = led_more c.args.store.now.signature (terms (shapes c.args.store.now.nodes)) old mid new i.front c.lead.ensures.front i.fits c.lead.ensures.fits c.args.leaf c.args.just (slice_get_within old c.args.just _ (e.2).there)
          c.args.values.now c.loop-follower.values f followers at _ l (all_at (λ (follower : Follower). SaysValue c.args.values.now follower.step) followers at _ c.requires.says (slice_get-get_or followers at _ l))
          (slice_get_within old _ _ (all_at (λ (follower : Follower). StatesEqual old follower.step follower.name e.0) followers at _ e.1 (slice_get-get_or followers at _ l)).there) i.led c.in_ok-lead.ensures.led c.in_ok-lead.ensures.kept;
    }
