use Rattle.ae_types.specs.declared.cycles.Mark.TheVariants.{Open}
use Rattle.ae_types.proofs.WalkLaws.{notes_opened}
use Rattle.ae_types.proofs.cycles.open.Goals as goal

pub returns-clause-notes : goal.returns-clause-notes
returns-clause-notes c =
    notes_opened c.args.walk.now.marks c.set.new.self c.args.seen.now c.push.new.self c.args.place (Open c.len-depth.result) c.in_ok-push.ensures.ok c.set.ensures
