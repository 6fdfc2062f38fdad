use Rattle.ae_ground_laws.proofs.Fragment.{first_stands, part_stands}
use Rattle.ae_ground_laws.proofs.laws.first_formulas_are_ground.Goals as goal

pub returns-clause-first : goal.returns-clause-first
returns-clause-first c = λ p g f ground reach i. first_stands p g ground reach f i

pub returns-clause-parts : goal.returns-clause-parts
returns-clause-parts c = λ p g f h ground m i. part_stands p g ground f h m i
