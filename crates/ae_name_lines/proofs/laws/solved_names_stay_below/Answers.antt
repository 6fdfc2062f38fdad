use Rattle.ae_name_lines.proofs.Solving.{more_names_keep_solves, solves_grow, other_lines_solve_nothing}
use Rattle.ae_name_lines.proofs.laws.solved_names_stay_below.Goals as goal

pub returns-clause-more : goal.returns-clause-more
returns-clause-more c = more_names_keep_solves

pub returns-clause-solve : goal.returns-clause-solve
returns-clause-solve c = solves_grow

pub returns-clause-other : goal.returns-clause-other
returns-clause-other c = other_lines_solve_nothing
