use Rattle.std.proofs.Common.{◌≡◌, ◌<◌, ◌∙◌, List, refl, sym, ap, subst, arith, length, length-append, [], ◌∷◌}
use Rattle.std.proofs.lemmas.List.Elements.{Contains-append_left}
use Rattle.std.specs.List.{Contains}
use Rattle.ae_between_rounds.specs.Between.{IsSearchingBelow}
use Rattle.ae_between_rounds.specs.Passing.Passes.{rests}
use Rattle.ae_block_constants.specs.declared.opened.Opened.{Opened}
use Rattle.ae_block_counts.specs.Counts.{quantifiers_left}
use Rattle.ae_explain.specs.Trail.{at}
use Rattle.ae_explain.specs.declared.trail.Assigned.{Assigned}
use Rattle.ae_opened_blocks.proofs.Holding.{holds_still}
use Rattle.ae_opened_blocks.proofs.Placing.{among_blocks, block, can_be_opened, its_clause, unopened}
use Rattle.ae_opened_blocks.proofs.Steps.{goes_on, sorted, there}
use Rattle.ae_journal.specs.Noted.{Noted}
use Rattle.ae_opened_blocks.proofs.opening.open_place.Goals as goal
use Rattle.ae_opening.proofs.Opened.{fewer}
use Rattle.ae_opening.specs.declared.opening.OpenedBlocks.{OpenedBlocks}
use Rattle.ae_propagation.specs.Settled.{last_level}
use Rattle.ae_sat.proofs.Resting.{lengthens_none}

pub formula_at-requires : goal.formula_at-requires
formula_at-requires v c = record { within = subst (λ (t : List Assigned). c.args.place < length t) (sym c.trail.ensures) c.requires.next.within }

pub add_block-requires : goal.add_block-requires
add_block-requires v c =
    let p = c.args.task.problem.now in
    let g = c.args.task.goal in
    let bound = c.args.task.generations in
    let o = c.args.search.now in
    let b = c.requires.between in
    let f = c.get.result.now in
    let is : f ≡ (at o.solver.propagation.trail c.args.place).lit.formula = c.get.ensures ∙ c.in_ok-formula.ensures ∙ ap (λ (t : List Assigned). (at t c.args.place).lit.formula) c.trail.ensures in
    record {
      block = block p g bound o b c.args.place c.requires.next f is;
      same = b.searching.signature;
      sorted = sorted p g bound o b f (can_be_opened p g bound o b c.args.place c.requires.next f is);
      blocks = b.holds.constants.sorted;
      there = there p g bound o b;
    }

pub enter_names-requires : goal.enter_names-requires
enter_names-requires v c =
    let p = c.args.task.problem.now in
    let g = c.args.task.goal in
    let bound = c.args.task.generations in
    let o = c.args.search.now in
    let b = c.requires.between in
    let f = c.get.result.now in
    let is : f ≡ (at o.solver.propagation.trail c.args.place).lit.formula = c.get.ensures ∙ c.in_ok-formula.ensures ∙ ap (λ (t : List Assigned). (at t c.args.place).lit.formula) c.trail.ensures in
    let w = its_clause p g bound o b c.args.place c.requires.next in
    let ready = can_be_opened p g bound o b c.args.place c.requires.next f is in
    let e = c.in_ok-add_block.ensures in
    let level = last_level o.solver.propagation.trail in
    record {
      searching = (level, e.searching p g bound level o.journal.lines (λ m s new l d q named. goes_on p g bound o b f m new l d q ready s named) b.searching);
      holds = holds_still p g bound o _ b f e.comes (record { journal = refl; known_names = refl; looked = refl; owners = refl; instances = refl })
          (unopened p g bound o b c.args.place c.requires.next f is) ready w.0 (at o.solver.propagation.trail c.args.place).lit w.1 w.2 (sym is);
    }

pub returns-clause-between : goal.returns-clause-between
returns-clause-between v c =
    let p = c.args.task.problem.now in
    let g = c.args.task.goal in
    let bound = c.args.task.generations in
    let o = c.args.search.now in
    let b = c.requires.between in
    let f = c.get.result.now in
    let is : f ≡ (at o.solver.propagation.trail c.args.place).lit.formula = c.get.ensures ∙ c.in_ok-formula.ensures ∙ ap (λ (t : List Assigned). (at t c.args.place).lit.formula) c.trail.ensures in
    let ready = can_be_opened p g bound o b c.args.place c.requires.next f is in
    let last = c.enter_names.new.search in
    let added = c.in_ok-add_block.ensures in
    let e = c.in_ok-enter_names.ensures in
    let level = last_level o.solver.propagation.trail in
    record {
      searching = subst (λ (t : List Assigned). IsSearchingBelow p g bound (last_level t) last) (sym (e.trail ∙ added.trail))
          (e.searching level (added.searching p g bound level o.journal.lines (λ m s new l d q named. goes_on p g bound o b f m new l d q ready s named) b.searching));
      looked = e.looked;
      holds = e.holds;
    }

pub returns-clause-lines : goal.returns-clause-lines
returns-clause-lines v c =
    let w = c.in_ok-add_block.ensures.comes in
    omega (arith, ap length w.lines, length-append c.args.search.now.lines.items (w.line ∷ []), c.in_ok-enter_names.ensures.lines)

pub returns-clause-passes : goal.returns-clause-passes
returns-clause-passes v c =
    let o = c.args.search.now in
    let added = c.in_ok-add_block.ensures in
    let e = c.in_ok-enter_names.ensures in
    let w = added.comes in
    let last = c.enter_names.new.search in
    rests (ap (λ (n : Noted). n.lines) e.journal) (lengthens_none o.solver.propagation.trail last.solver.propagation.trail (e.trail ∙ added.trail))
    (record { signature = e.extends.signature ∙ w.brought.named.signature; keeps = λ i t h. e.extends.keeps i t (w.brought.named.keeps i t h) })
    (λ d i. subst (λ (z : OpenedBlocks). Contains z.opened d) (sym e.blocks) (subst (λ (ds : List Opened). Contains ds d) (sym w.opens.more) (Contains-append_left o.blocks.opened _ d i)))

pub returns-clause-falls : goal.returns-clause-falls
returns-clause-falls v c =
    let p = c.args.task.problem.now in
    let g = c.args.task.goal in
    let bound = c.args.task.generations in
    let o = c.args.search.now in
    let b = c.requires.between in
    let f = c.get.result.now in
    let is : f ≡ (at o.solver.propagation.trail c.args.place).lit.formula = c.get.ensures ∙ c.in_ok-formula.ensures ∙ ap (λ (t : List Assigned). (at t c.args.place).lit.formula) c.trail.ensures in
    let blocks = c.add_block.new.blocks in
    let w = c.in_ok-add_block.ensures.comes in
    let last = c.enter_names.new.search in
    let e = c.in_ok-enter_names.ensures in
    let less =
    fewer f o.blocks.next blocks.next o.blocks.opened blocks.opened w.line w.clause w.opens o.solver.propagation.clauses (among_blocks p g bound o b c.args.place c.requires.next f is)
    (unopened p g bound o b c.args.place c.requires.next f is) in
    let with_clause = ap (quantifiers_left blocks.opened) w.clauses in
    let no_more = e.quantifiers blocks.opened in
    let same = ap (λ (z : OpenedBlocks). quantifiers_left z.opened last.solver.propagation.clauses) e.blocks in
    omega (arith, less, with_clause, no_more, same)
