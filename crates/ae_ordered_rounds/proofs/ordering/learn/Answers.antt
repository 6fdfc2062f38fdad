use Rattle.std.specs.Prelude.{Bool, Ok, Err}
use Rattle.std.proofs.Common.{arith, refl, ap, ◌∙◌, inl}
use Rattle.ae_between_rounds.specs.declared.search.Search.{Search}
use Rattle.ae_kept_runs.proofs.Learnt.{hyps_sorted}
use Rattle.ae_kept_runs.proofs.Running.{notes_none, stopped_run}
use Rattle.ae_ordered_rounds.proofs.Learning.{built_lines, more_lines, passes_learnt}
use Rattle.ae_ordered_rounds.proofs.Steps.{failed_by}
use Rattle.ae_propagation.specs.Settled.{last_level}
use Rattle.ae_sat.proofs.Blocks.{block_false}
use Rattle.ae_sat.specs.Marked.{atoms}
use Rattle.ae_theory.specs.Names.{terms_in}
use Rattle.ae_theory.specs.declared.theory.Fail.{Fail}
use Rattle.ae_ordered_rounds.proofs.ordering.learn.Goals as goal

pub learn_from-requires-clause-contradictory : goal.learn_from-requires-clause-contradictory
learn_from-requires-clause-contradictory v c = c.requires.found.contradictory

pub learn_from-requires-clause-sorted : goal.learn_from-requires-clause-sorted
learn_from-requires-clause-sorted v c =
    let k = c.args.task in
    hyps_sorted k.problem.now k.goal k.generations c.args.search.now c.requires.between c.args.explained.block.deriv.hyps c.args.explained.tags c.requires.found.literals

pub learn_from-requires-clause-falsified : goal.learn_from-requires-clause-falsified
learn_from-requires-clause-falsified v c =
    let t = c.args.search.now.solver.propagation.trail in
    block_false t (atoms t) refl c.args.explained.block.deriv.hyps c.args.explained.tags c.requires.found.literals

pub learn_from-requires-clause-alive : goal.learn_from-requires-clause-alive
learn_from-requires-clause-alive v c = c.requires.between.searching.alive

pub returns-then-refuted-clause-comes : goal.returns-then-refuted-clause-comes
returns-then-refuted-clause-comes v c k h =
    let p = c.args.task.problem.now in
    let g = c.args.task.goal in
    let b = c.args.task.generations in
    let o = c.args.search.now in
    let between = c.requires.between in
    let n : Search = record o { solver = c.learn_from.new.solver; journal = c.learn_from.new.journal; lines = c.learn_from.new.lines } in
    let level = last_level o.solver.propagation.trail in
    let e = c.in-Ok.ensures in
    let block = c.args.explained.block in (
      c.runs_keep_rounds.ensures p g b o n between (e.searching p g b level o.blocks.opened (omega arith) between.searching) e.kept e.formulas
          (c.learnt_lines_come_over.ensures p g b o block c.args.explained.tags c.learn_from.new.lines.items between c.requires.found.literals
          (built_lines o.store.signature (terms_in o.store) block.deriv.lines c.requires.found.built) e.lines)
          (notes_none p g b o n between (λ x told. c.learn_from.ensures.instances p g b level o.blocks.opened (omega arith) between.searching x told)),
      c.learn_from.ensures.refuted (c.in-Ok.is ∙ ap (λ (w : Bool). Ok w) c.if-refuted.true),
    )

pub returns-then-refuted-clause-limit : goal.returns-then-refuted-clause-limit
returns-then-refuted-clause-limit v c = c.learn_from.ensures.journal.limit

pub returns-in-Ok-clause-comes : goal.returns-in-Ok-clause-comes
returns-in-Ok-clause-comes v c k h =
    let p = c.args.task.problem.now in
    let g = c.args.task.goal in
    let b = c.args.task.generations in
    let o = c.args.search.now in
    let between = c.requires.between in
    let n : Search = record o { solver = c.learn_from.new.solver; journal = c.learn_from.new.journal; lines = c.learn_from.new.lines } in
    let level = last_level o.solver.propagation.trail in
    let e = c.in-Ok.ensures in
    let block = c.args.explained.block in
    let on = c.in-Ok.is ∙ ap (λ (w : Bool). Ok w) c.if-refuted.false in (
      c.runs_keep_rounds.ensures p g b o n between (e.searching p g b level o.blocks.opened (omega arith) between.searching) e.kept e.formulas
          (c.learnt_lines_come_over.ensures p g b o block c.args.explained.tags c.learn_from.new.lines.items between c.requires.found.literals
          (built_lines o.store.signature (terms_in o.store) block.deriv.lines c.requires.found.built) e.lines)
          (notes_none p g b o n between (λ x told. c.learn_from.ensures.instances p g b level o.blocks.opened (omega arith) between.searching x told)),
      more_lines block o.solver.propagation.clauses o.lines.items c.learn_from.new.lines.items e.lines,
      c.orders_stay.ensures p g o n k (passes_learnt o n refl refl (c.learn_from.ensures.learnt on) c.learn_from.ensures.journal) h,
      inl (c.learn_from.ensures.learnt on).more,
    )

pub returns-in-Ok-clause-limit : goal.returns-in-Ok-clause-limit
returns-in-Ok-clause-limit v c = c.learn_from.ensures.journal.limit

pub returns-clause-comes : goal.returns-clause-comes
returns-clause-comes v c k h =
    let p = c.args.task.problem.now in
    let g = c.args.task.goal in
    let b = c.args.task.generations in
    let o = c.args.search.now in
    let between = c.requires.between in
    let n : Search = record o { solver = c.learn_from.new.solver; journal = c.learn_from.new.journal; lines = c.learn_from.new.lines } in
    let level = last_level o.solver.propagation.trail in
    let e = c.learn_from.ensures in
    let stopped = stopped_run p g b o n between (e.so_far p g b level o.blocks.opened (omega arith) between.searching) in
    failed_by p g b o n k c.in-Err.fail (λ i. (stopped, e.steps (c.in-Err.is ∙ ap (λ (f : Fail). Err f) i))) (λ wide i. absurd (e.never_wide wide (c.in-Err.is ∙ ap (λ (f : Fail). Err f) i)))

pub returns-clause-limit : goal.returns-clause-limit
returns-clause-limit v c = c.learn_from.ensures.journal.limit
