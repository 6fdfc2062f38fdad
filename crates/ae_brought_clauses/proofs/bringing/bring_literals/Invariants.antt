use Rattle.std.proofs.Common.{List, take}
use Rattle.ae_block_constants.specs.declared.opened.Opened.{Opened}
use Rattle.ae_brought_clauses.specs.Inner.Bringing.{Brings}
use Rattle.ae_brought_clauses.proofs.bringing.bring_literals.Given as goal

abbrev pub invariant-loop-lit : goal.invariant-loop-lit
invariant-loop-lit l = (opened : List Opened) → Brings opened l.generation l.fn.store l.fn.ages l.store l.ages (take l.lit-index l.literals)
