use Rattle.ae_ground_laws.proofs.Built.{built_good, line_ground}
use Rattle.ae_ground_laws.proofs.laws.built_lines_are_ground.Goals as goal

pub returns-clause-terms : goal.returns-clause-terms
returns-clause-terms c = λ sig ts t s law names b so. built_good sig law ts names t b s so

pub returns-clause-lines : goal.returns-clause-lines
returns-clause-lines c = λ sig ts l law names o b. line_ground sig law ts names l o b
