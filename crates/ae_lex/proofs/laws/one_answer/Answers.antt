use Rattle.ae_lex.proofs.Unique as unique
use Rattle.ae_lex.proofs.laws.one_answer.Goals as goal

pub returns-clause-one_list : goal.returns-clause-one_list
returns-clause-one_list c = unique.one_list

pub returns-clause-one_fault : goal.returns-clause-one_fault
returns-clause-one_fault c = unique.one_fault

pub returns-clause-never_both : goal.returns-clause-never_both
returns-clause-never_both c = unique.never_both
