use Rattle.std.proofs.Common.{ap}
use Rattle.ae_types.specs.Inner.Graphs.{class_at}
use Rattle.ae_types.proofs.LinkLaws.{written_back}
use Rattle.ae_types.proofs.graph.write.Goals as goal

pub returns-clause-rewinds : goal.returns-clause-rewinds
returns-clause-rewinds c =
    written_back c.args.classes.now c.set.new.self c.args.log.now c.push.new.self c.args.place c.args.class _ c.requires
    (ap (λ xs. class_at xs c.args.place) c.as_slice.ensures) c.set.ensures c.in_ok-push.ensures.ok
