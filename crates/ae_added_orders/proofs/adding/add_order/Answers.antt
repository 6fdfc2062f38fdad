use Rattle.std.specs.Prelude.{List, [], ◌∷◌, ◌++◌}
use Rattle.std.specs.List.{Contains}
use Rattle.std.proofs.Common.{◌∙◌, sym, ap, subst, arith}
use Rattle.std.proofs.lemmas.Option.{same_Some}
use Rattle.ae_between_rounds.proofs.Passing.{extends_more}
use Rattle.ae_between_rounds.specs.Passing.Passes.{rests}
use Rattle.ae_explain.specs.declared.trail.Assigned.{Assigned}
use Rattle.ae_journal.specs.Noted.{Noted}
use Rattle.ae_opening.specs.declared.opening.OpenedBlocks.{OpenedBlocks}
use Rattle.ae_propagation.specs.Settled.{last_level}
use Rattle.ae_between_rounds.specs.Between.{IsSearchingBelow}
use Rattle.ae_rules.specs.Clauses.{Clause}
use Rattle.ae_sat.proofs.Resting.{lengthens_none}
use Rattle.ae_sat.specs.Standing.{IsOneOf}
use Rattle.ae_added_orders.proofs.adding.add_order.Goals as goal

pub order_clause-requires : goal.order_clause-requires
order_clause-requires v c = record { numbers = c.requires.numbers }

pub add_clause-requires-clause-between : goal.add_clause-requires-clause-between
add_clause-requires-clause-between v c = c.requires.between

pub add_clause-requires-clause-may : goal.add_clause-requires-clause-may
add_clause-requires-clause-may v c = c.requires.may

pub add_clause-requires-clause-clause : goal.add_clause-requires-clause-clause
add_clause-requires-clause-clause v c = c.in_ok-clause.ensures

pub enter_names-requires : goal.enter_names-requires
enter_names-requires v c =
    let a = c.in_ok-add_clause.ensures.adds in
    let level = last_level c.args.search.now.solver.propagation.trail in
    record { searching = (level, a.searching level c.requires.between.searching); holds = a.holds }

pub returns-in_err-enter_names-clause-journal : goal.returns-in_err-enter_names-clause-journal
returns-in_err-enter_names-clause-journal v c = c.enter_names.ensures.journal ∙ c.add_clause.ensures.journal

pub returns-in_err-enter_names-clause-trail : goal.returns-in_err-enter_names-clause-trail
returns-in_err-enter_names-clause-trail v c = c.enter_names.ensures.trail ∙ c.add_clause.ensures.trail

pub returns-in_err-enter_names-clause-blocks : goal.returns-in_err-enter_names-clause-blocks
returns-in_err-enter_names-clause-blocks v c = c.enter_names.ensures.blocks ∙ c.add_clause.ensures.blocks

pub returns-clause-between : goal.returns-clause-between
returns-clause-between v c =
    let k = c.args.task in
    let o = c.args.search.now in
    let a = c.in_ok-add_clause.ensures.adds in
    let e = c.in_ok-enter_names.ensures in
    let last = c.enter_names.new.search in
    let level = last_level o.solver.propagation.trail in
    record {
      searching = subst (λ (t : List Assigned). IsSearchingBelow k.problem.now k.goal k.generations (last_level t) last) (sym (c.enter_names.ensures.trail ∙ c.add_clause.ensures.trail))
          (e.searching level (a.searching level c.requires.between.searching));
      looked = e.looked;
      holds = e.holds;
    }

pub returns-clause-lines : goal.returns-clause-lines
returns-clause-lines v c =
    let a = c.in_ok-add_clause.ensures.adds in
    omega (arith, a.lines, c.in_ok-enter_names.ensures.lines)

pub returns-clause-added : goal.returns-clause-added
returns-clause-added v c d is =
    subst (IsOneOf c.enter_names.new.search.solver.propagation.clauses) (same_Some c.in_ok-clause.clause d (sym c.in_ok-clause.ensures ∙ is))
    (c.in_ok-enter_names.ensures.kept c.in_ok-clause.clause c.in_ok-add_clause.ensures.added)

pub returns-clause-clauses : goal.returns-clause-clauses
returns-clause-clauses v c d is =
    c.in_ok-enter_names.ensures.plain c.in_ok-add_clause.ensures.plain ∙ c.in_ok-add_clause.ensures.clauses
    ∙ ap (λ (k : Clause). c.args.search.now.solver.propagation.clauses ++ k ∷ []) (same_Some c.in_ok-clause.clause d (sym c.in_ok-clause.ensures ∙ is))

pub returns-clause-passes : goal.returns-clause-passes
returns-clause-passes v c =
    let o = c.args.search.now in
    let mid = c.add_clause.new.search in
    let last = c.enter_names.new.search in
    let a = c.in_ok-add_clause.ensures.adds in
    let e = c.in_ok-enter_names.ensures in
    rests (ap (λ (n : Noted). n.lines) (c.enter_names.ensures.journal ∙ c.add_clause.ensures.journal))
    (lengthens_none o.solver.propagation.trail last.solver.propagation.trail (c.enter_names.ensures.trail ∙ c.add_clause.ensures.trail)) (extends_more o.store mid.store last.store a.extends e.extends)
    (λ d i. subst (λ (z : OpenedBlocks). Contains z.opened d) (sym (c.enter_names.ensures.blocks ∙ c.add_clause.ensures.blocks)) i)

pub returns-clause-journal : goal.returns-clause-journal
returns-clause-journal v c = c.enter_names.ensures.journal ∙ c.add_clause.ensures.journal

pub returns-clause-trail : goal.returns-clause-trail
returns-clause-trail v c = c.enter_names.ensures.trail ∙ c.add_clause.ensures.trail

pub returns-clause-blocks : goal.returns-clause-blocks
returns-clause-blocks v c = c.enter_names.ensures.blocks ∙ c.add_clause.ensures.blocks
