use Rattle.std.proofs.Common.{◌<◌, length}
use Rattle.std.proofs.lemmas.Option.{slice_get-get_or}
use Rattle.ae_base.proofs.AllOf.{all_at}
use Rattle.ae_owed_instances.proofs.saying.terms_of.Goals as goal

pub term-requires : goal.term-requires
term-requires c =
    all_at (λ a. a < length c.args.store.now.nodes) c.args.names.now c.loop-name.name-index _ c.requires.within (slice_get-get_or c.args.names.now c.loop-name.name-index 0 c.loop-name-test.true)
