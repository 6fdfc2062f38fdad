use Rattle.ae_syntax.proofs.ParserMeetsMachine.Decls.{last_place}
use Rattle.ae_syntax.proofs.decl_nodes.last_or.Goals as goal

pub returns-in-len1-up : goal.returns-in-len1-up
returns-in-len1-up c = last_place c.args.first c.args.places.now _ c.in-len1-up.len_at_least
