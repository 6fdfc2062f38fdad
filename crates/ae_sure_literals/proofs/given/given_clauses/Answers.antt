use Rattle.std.specs.Prelude.{List, Option, length}
use Rattle.std.specs.List.{flat_map}
use Rattle.std.proofs.Common.{◌++◌, ◌∙◌, ap}
use Rattle.ae_rules.specs.Clauses.{Clause}
use Rattle.ae_sure_literals.specs.Inner.Given.{given_in, hypotheses_before, line_clauses, listed}
use Rattle.ae_sure_literals.proofs.given.given_clauses.Goals as goal

pub returns : goal.returns
unfolding given_in
returns c =
    let p = c.args.problem.now in
    let g = c.args.goal in
    let lines : List Clause = flat_map (line_clauses p g) c.args.lines.now in
    let of_goal : List Clause = listed c.in_ok-of_goal.of_goal in
    let hypotheses : List Clause = hypotheses_before p g (length p.items) in
    c.in_ok-add_lines.ensures
    ∙ ap (λ (w : List Clause). w ++ lines)
    (c.in_ok-add_clause.ensures ∙ ap (λ (w : List Clause). w ++ of_goal) (c.in_ok-add_hypotheses.ensures ∙ ap (λ (w : List Clause). w ++ hypotheses) c.new-given.ensures)
    ∙ ap (λ (o : Option Clause). hypotheses ++ listed o) c.in_ok-of_goal.ensures)
