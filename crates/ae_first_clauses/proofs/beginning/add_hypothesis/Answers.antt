use Rattle.std.proofs.Common.{[], sym, ap, ◌∙◌, ◌++◌, ◌∷◌}
use Rattle.std.proofs.lemmas.Result.{on_ok_weaker}
use Rattle.ae_core.specs.declared.proofs.ClauseLine.TheVariants.{Hyp}
use Rattle.ae_first_clauses.specs.Inner.Begun.{left_out}
use Rattle.ae_first_clauses.proofs.Begun.{put_behind, hyp_none, hyp_some}
use Rattle.ae_first_clauses.proofs.beginning.add_hypothesis.Goals as goal

pub returns-in-None : goal.returns-in-None
returns-in-None c = left_out (hyp_none c.args.problem.now c.args.goal c.requires.lawful c.args.place (sym c.in-None.is ∙ c.in_ok-hypothesis_clause.ensures))

pub returns-in-Some : goal.returns-in-Some
returns-in-Some c =
    on_ok_weaker c.keep_line.result
    (λ h. put_behind c.args.problem.now c.args.goal (Hyp c.args.place []) c.in-Some.clause c.args.first.now.lines.items c.keep_line.new.first.lines.items c.args.first.now.clauses c.keep_line.new.first.clauses
    (hyp_some c.args.problem.now c.args.goal c.requires.lawful c.args.place c.in-Some.clause (sym c.in-Some.is ∙ c.in_ok-hypothesis_clause.ensures))
    (h.0 ∙ ap (λ l. c.args.first.now.lines.items ++ l ∷ []) c.hypothesis_line.ensures) h.1) c.keep_line.ensures
