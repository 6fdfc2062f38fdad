use Rattle.ae_orderless.proofs.Clauses.{literal_orderless, row_orderless, instance_orderless, fresh_orderless, choice_orderless}
use Rattle.ae_orderless.proofs.laws.clauses_stay_orderless.Goals as goal

pub returns-clause-literals : goal.returns-clause-literals
returns-clause-literals c = literal_orderless

pub returns-clause-rows : goal.returns-clause-rows
returns-clause-rows c f r d l w e i = row_orderless f r d w e l i

pub returns-clause-instances : goal.returns-clause-instances
returns-clause-instances c sig f ts d l w e i = instance_orderless sig f ts d w e l i

pub returns-clause-constants : goal.returns-clause-constants
returns-clause-constants c f m d l w e i = fresh_orderless f m d w e l i

pub returns-clause-choices : goal.returns-clause-choices
returns-clause-choices c sig t d l e i = choice_orderless sig t d e l i
