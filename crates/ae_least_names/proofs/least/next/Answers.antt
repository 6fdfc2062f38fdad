use Rattle.std.specs.Prelude.{◌≡◌, ◌%◌}
use Rattle.ae_least_names.specs.Buckets.{slot}
use Rattle.ae_least_names.proofs.Meeting.{met_least, met_shared, met_put, least_alone}
use Rattle.ae_least_names.proofs.least.next.Goals as goal

pub returns-in-Some-clause-least : goal.returns-in-Some-clause-least
returns-in-Some-clause-least c = met_least c.args.values.now c.args.reps.now c.args.name c.in-Some.rep c.requires.met.least c.in-Some.ensures

pub returns-in-Some-clause-met : goal.returns-in-Some-clause-met
returns-in-Some-clause-met c = met_shared c.args.values.now c.args.reps.now c.args.buckets.now.items c.args.name c.requires.one_each c.requires.met c.in-Some.rep c.in-Some.ensures

pub returns-clause-least : goal.returns-clause-least
returns-clause-least c =
    let place : c.key.result % c.len.result ≡ slot c.args.values.now c.args.name = λ i. c.key.ensures i % c.len.ensures.len i in
    least_alone c.args.values.now c.args.reps.now c.args.buckets.now.items c.args.name c.requires.one_each c.requires.met (c.key.result % c.len.result) c.as_slice-names.result.now c.index.result.now place
    c.requires.count c.requires.within c.index.ensures c.as_slice-names.ensures c.in_default.ensures

pub returns-clause-met : goal.returns-clause-met
returns-clause-met c =
    let place : c.key.result % c.len.result ≡ slot c.args.values.now c.args.name = λ i. c.key.ensures i % c.len.ensures.len i in
    met_put c.args.values.now c.args.reps.now c.args.buckets.now.items c.args.name c.requires.one_each c.requires.met c.put_into.new.buckets.items (returns-clause-least c) c.in_ok-put_into.ensures.others
    (c.key.result % c.len.result) place c.in_ok-put_into.ensures.own
