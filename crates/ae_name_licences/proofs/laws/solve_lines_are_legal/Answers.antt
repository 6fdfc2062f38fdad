use Rattle.ae_name_licences.proofs.Legal.{solved_numbers_are_legal, solved_leaves_are_legal, turned_leaves_are_legal}
use Rattle.ae_name_licences.proofs.laws.solve_lines_are_legal.Goals as goal

pub returns-clause-numbers : goal.returns-clause-numbers
returns-clause-numbers c = solved_numbers_are_legal

pub returns-clause-leaves : goal.returns-clause-leaves
returns-clause-leaves c = solved_leaves_are_legal

pub returns-clause-turned : goal.returns-clause-turned
returns-clause-turned c = turned_leaves_are_legal
