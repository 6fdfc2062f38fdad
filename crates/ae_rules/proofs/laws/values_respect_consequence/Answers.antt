use Rattle.ae_rules.specs.Lines.{Among, Equations, fact_ok, plain_ok}
use Rattle.ae_rules.specs.Valuations.{Where}
use Rattle.ae_rules.proofs.Respects.{respects}
use Rattle.ae_rules.proofs.laws.values_respect_consequence.Goals as goal

pub returns-clause-all : goal.returns-clause-all
returns-clause-all g c sig ok hyps ev le lt laws f a = respects sig ok (Among hyps) ev le lt laws a

pub returns-clause-equal : goal.returns-clause-equal
returns-clause-equal g c sig E ev le lt laws s t a = respects sig (fact_ok sig) (Equations (Where E)) ev le lt laws a

pub returns-clause-plain : goal.returns-clause-plain
returns-clause-plain g c sig E ev le lt laws s t a = respects sig (plain_ok sig) (Equations (Where E)) ev le lt laws a
