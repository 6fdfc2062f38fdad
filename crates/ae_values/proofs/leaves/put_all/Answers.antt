use Rattle.ae_values.proofs.AfterLead.{is_put, said_after, sources_after}
use Rattle.ae_values.proofs.Leadable.{equal_all, followers_say}
use Rattle.ae_values.proofs.Entries.{leaves_keep, justs_keep, led_keep, keeps_then}
use Rattle.ae_values.proofs.leaves.put_all.Goals as goal

pub lead_all-requires-clause-fits : goal.lead_all-requires-clause-fits
lead_all-requires-clause-fits c = c.requires.puttable.fits

pub lead_all-requires-clause-equal : goal.lead_all-requires-clause-equal
lead_all-requires-clause-equal c = (
  c.args.name,
  equal_all c.args.store.now c.args.justs.now c.args.values.now c.args.name c.args.leaf c.args.just c.requires.puttable c.args.followers.now c.requires.each,
  c.requires.puttable.states,
)

pub lead_all-requires-clause-says : goal.lead_all-requires-clause-says
lead_all-requires-clause-says c = followers_say c.args.store.now c.args.justs.now c.args.values.now c.args.name c.args.leaf c.args.just c.requires.puttable c.args.followers.now c.requires.each

pub returns-clause-put : goal.returns-clause-put
returns-clause-put c =
    is_put c.args.store.now c.args.justs.now c.args.values.now c.lead_all.new.values c.put_leaf.new.self c.put_just.new.self c.args.name c.args.leaf c.args.just c.requires.puttable c.lead_all.new.justs c.lead_all.ensures.front
    c.lead_all.ensures.fits c.args.followers.now c.requires.each c.requires.all c.in_ok-lead_all.ensures.led c.lead_all.ensures.others c.put_leaf.ensures.others c.put_just.ensures.others c.in_ok-put_leaf.ensures.ok c.in_ok-put_just.ensures.ok

pub returns-clause-said : goal.returns-clause-said
returns-clause-said c =
    said_after c.args.store.now c.args.justs.now c.args.values.now c.lead_all.new.values c.put_leaf.new.self c.put_just.new.self c.args.name c.args.leaf c.args.just c.requires.puttable c.lead_all.new.justs
    c.lead_all.ensures.front c.lead_all.ensures.fits c.args.followers.now c.requires.each c.requires.all c.in_ok-lead_all.ensures.led c.lead_all.ensures.others c.put_leaf.ensures.others c.put_just.ensures.others
    c.in_ok-put_leaf.ensures.ok c.in_ok-put_just.ensures.ok

pub returns-clause-sources : goal.returns-clause-sources
returns-clause-sources c =
    sources_after c.args.store.now c.args.justs.now c.args.values.now c.lead_all.new.values c.put_leaf.new.self c.put_just.new.self c.args.name c.args.leaf c.args.just c.requires.puttable c.lead_all.new.justs
    c.lead_all.ensures.front c.lead_all.ensures.fits c.args.followers.now c.requires.each c.requires.all c.in_ok-lead_all.ensures.led c.lead_all.ensures.others c.put_leaf.ensures.others c.put_just.ensures.others
    c.in_ok-put_leaf.ensures.ok c.in_ok-put_just.ensures.ok

pub returns-in_err-lead_all-clause-others : goal.returns-in_err-lead_all-clause-others
returns-in_err-lead_all-clause-others c = led_keep c.args.values.now c.lead_all.new.values c.lead_all.ensures.others

pub returns-in_err-put_leaf-clause-others : goal.returns-in_err-put_leaf-clause-others
returns-in_err-put_leaf-clause-others c =
    keeps_then c.args.values.now c.lead_all.new.values c.put_leaf.new.self (led_keep c.args.values.now c.lead_all.new.values c.lead_all.ensures.others) (leaves_keep c.lead_all.new.values c.put_leaf.new.self c.put_leaf.ensures.others)

pub returns-in_err-put_just-clause-others : goal.returns-in_err-put_just-clause-others
returns-in_err-put_just-clause-others c =
    let v = c.args.values.now in
    let l = c.lead_all.new.values in
    let p = c.put_leaf.new.self in
    keeps_then v p c.put_just.new.self (keeps_then v l p (led_keep v l c.lead_all.ensures.others) (leaves_keep l p c.put_leaf.ensures.others)) (justs_keep p c.put_just.new.self c.put_just.ensures.others)

pub returns-clause-others : goal.returns-clause-others
returns-clause-others c =
    let v = c.args.values.now in
    let l = c.lead_all.new.values in
    let p = c.put_leaf.new.self in
    keeps_then v p c.put_just.new.self (keeps_then v l p (led_keep v l c.lead_all.ensures.others) (leaves_keep l p c.put_leaf.ensures.others)) (justs_keep p c.put_just.new.self c.put_just.ensures.others)
