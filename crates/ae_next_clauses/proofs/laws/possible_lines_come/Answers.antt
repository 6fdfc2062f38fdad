use Rattle.ae_next_clauses.proofs.Coming.{choice_comes, fresh_comes, order_comes}
use Rattle.ae_next_clauses.proofs.laws.possible_lines_come.Goals as goal

pub returns-clause-fresh : goal.returns-clause-fresh
returns-clause-fresh c p g s opened lines js f first d there formula allowed e named = fresh_comes p g s opened lines js d named f first there formula allowed e

pub returns-clause-order : goal.returns-clause-order
returns-clause-order c p g s opened lines js l r d entered e named = order_comes p g s opened lines js d named l r entered e

pub returns-clause-choice : goal.returns-clause-choice
returns-clause-choice c p g s opened lines js t d entered e named = choice_comes p g s opened lines js d named t entered e
