use Rattle.std.proofs.Common.{sym, ◌∙◌}
use Rattle.ae_first_clauses.proofs.Begun.{forall_is, no_block}
use Rattle.ae_first_clauses.proofs.beginning.add_block.Goals as goal

pub add_fresh-requires-clause-block : goal.add_fresh-requires-clause-block
add_fresh-requires-clause-block c = forall_is c.args.body.now (sym c.is_block.ensures ∙ c.if-is_block.true)

pub returns-else-is_block : goal.returns-else-is_block
returns-else-is_block c = record {
  first = no_block c.args.problem.now c.args.goal c.args.body.now c.args.first.now.lines.items c.args.first.now.clauses c.requires.is (sym c.is_block.ensures ∙ c.if-is_block.false) c.requires.begun;
}
