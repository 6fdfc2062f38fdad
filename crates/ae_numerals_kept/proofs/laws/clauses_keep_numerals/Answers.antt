use Rattle.ae_numerals_kept.proofs.Lowest.{literal_lowest, row_lowest, instances_lowest, fresh_lowest, choice_lowest, order_lowest}
use Rattle.ae_numerals_kept.proofs.laws.clauses_keep_numerals.Goals as goal

pub returns-clause-literals : goal.returns-clause-literals
returns-clause-literals c f sign w = literal_lowest f w sign

pub returns-clause-rows : goal.returns-clause-rows
returns-clause-rows c f r d l w e i = row_lowest f w r d e l i

pub returns-clause-instances : goal.returns-clause-instances
returns-clause-instances c sig f ts d l w a e i = instances_lowest sig f ts w a d e l i

pub returns-clause-constants : goal.returns-clause-constants
returns-clause-constants c f m d l w e i = fresh_lowest f m w d e l i

pub returns-clause-choices : goal.returns-clause-choices
returns-clause-choices c sig t d l w e i = choice_lowest sig t w d e l i

pub returns-clause-orders : goal.returns-clause-orders
returns-clause-orders c sig s t d l v w e i = order_lowest sig s t v w d e l i
