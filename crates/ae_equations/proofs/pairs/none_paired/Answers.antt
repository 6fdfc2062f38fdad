use Rattle.ae_equations.proofs.ChainLaws.{noted_none, none_noted}
use Rattle.ae_equations.proofs.pairs.none_paired.Goals as goal

pub returns-clause-noted : goal.returns-clause-noted
returns-clause-noted c = noted_none (record { heads = c.new.result; links = c.new-2.result }) c.new.ensures c.new-2.ensures

pub returns-clause-none : goal.returns-clause-none
returns-clause-none c = none_noted (record { heads = c.new.result; links = c.new-2.result }) c.new.ensures
