use Rattle.std.proofs.Common.{sym, subst, ◌∙◌, inr}
use Rattle.std.proofs.lemmas.Option.{same_Some}
use Rattle.std.proofs.lemmas.Result.{on_ok_weaker}
use Rattle.ae_base.proofs.Options.{never_some}
use Rattle.ae_entered_names.proofs.Stepping.{goes_nowhere, same_itself}
use Rattle.ae_sat.specs.Standing.{IsOneOf}
use Rattle.ae_entered_names.proofs.choices.add_for_term.Goals as goal

pub returns-in-None-clause-goes_on : goal.returns-in-None-clause-goes_on
returns-in-None-clause-goes_on v c = goes_nowhere c.args.task.problem.now c.args.task.goal c.args.task.generations c.args.search.now c.requires.holds

pub returns-in-None-clause-chosen : goal.returns-in-None-clause-chosen
returns-in-None-clause-chosen v c d e = never_some d (sym (sym c.in_ok-exhaust.ensures.clause ∙ c.in-None.is) ∙ e)

pub returns-in-None-clause-beside : goal.returns-in-None-clause-beside
returns-in-None-clause-beside v c = same_itself c.args.search.now

pub add_clause-requires-clause-clause : goal.add_clause-requires-clause-clause
add_clause-requires-clause-clause v c = sym c.in_ok-exhaust.ensures.clause ∙ c.in-Some.is

pub returns-in-Some-clause-chosen : goal.returns-in-Some-clause-chosen
returns-in-Some-clause-chosen v c =
    on_ok_weaker c.add_clause.result
    (λ h d e. inr (subst (IsOneOf c.add_clause.new.search.solver.propagation.clauses) (same_Some c.in-Some.clause d (sym (sym c.in_ok-exhaust.ensures.clause ∙ c.in-Some.is) ∙ e)) h)) c.add_clause.ensures.added
