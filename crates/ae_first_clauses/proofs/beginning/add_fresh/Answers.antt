use Rattle.std.proofs.Common.{[], sym, ap, ◌∙◌, ◌++◌, ◌∷◌}
use Rattle.std.proofs.lemmas.Result.{on_ok_weaker}
use Rattle.ae_core.specs.declared.proofs.ClauseLine.TheVariants.{Fresh}
use Rattle.ae_first_clauses.specs.Inner.Begun.{left_out}
use Rattle.ae_first_clauses.proofs.Begun.{block_first, put_behind, fresh_none, fresh_some}
use Rattle.ae_first_clauses.proofs.beginning.add_fresh.Goals as goal

pub returns-in-None : goal.returns-in-None
returns-in-None c =
    let p = c.args.problem.now in
    let g = c.args.goal in
    let f = c.args.body.now in
    let ls = c.args.first.now.lines.items in
    let cs = c.args.first.now.clauses in
    record { first = block_first p g c.requires.lawful f c.requires.block.0 ls ls cs cs c.requires.is c.requires.block.1 c.count_variables.ensures c.requires.begun (left_out (fresh_none p g c.requires.lawful f (sym c.in-None.is ∙ c.in_ok-fresh_clause.ensures))) }

pub returns-in_ok-formula-in-Some : goal.returns-in_ok-formula-in-Some
returns-in_ok-formula-in-Some c =
    let p = c.args.problem.now in
    let g = c.args.goal in
    let f = c.args.body.now in
    let ls = c.args.first.now.lines.items in
    let cs = c.args.first.now.clauses in
    record {
      first = on_ok_weaker c.keep_line.result
          (λ h. block_first p g c.requires.lawful f c.requires.block.0 ls c.keep_line.new.first.lines.items cs c.keep_line.new.first.clauses c.requires.is c.requires.block.1 c.count_variables.ensures c.requires.begun
          (put_behind p g (Fresh f 0) c.in-Some.clause ls c.keep_line.new.first.lines.items cs c.keep_line.new.first.clauses
          (fresh_some p g c.requires.lawful f c.in-Some.clause c.requires.is (sym c.in-Some.is ∙ c.in_ok-fresh_clause.ensures)) (h.0 ∙ ap (λ z. ls ++ Fresh z 0 ∷ []) c.in_ok-formula-in-Some.ensures) h.1)) c.keep_line.ensures;
    }
