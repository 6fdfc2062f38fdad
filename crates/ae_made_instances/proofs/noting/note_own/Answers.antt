use Rattle.ae_made_instances.proofs.Coming.{never_refused}
use Rattle.ae_made_instances.proofs.noting.note_own.Goals as goal

pub unreachable-requires : goal.unreachable-requires
unreachable-requires c = never_refused c.args.journal.now c.args.own c.note.result c.in-Err.field-0 c.requires.instance c.requires.room (c.note.ensures.full).0 c.note.ensures.memory c.in-Err.is
