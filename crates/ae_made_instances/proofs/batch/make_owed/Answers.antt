use Rattle.std.proofs.Common.{◌≡◌, false, refl, sym, ◌∙◌}
use Rattle.std.specs.List.{list_any}
use Rattle.ae_base.proofs.AllOf.{all_weaker}
use Rattle.ae_between_rounds.specs.Owed.{IsOwedAt}
use Rattle.ae_between_rounds.specs.declared.search.Owed.{Owed}
use Rattle.ae_between_rounds.specs.Rewriting.{IsMarkOf}
use Rattle.ae_inst.specs.Matches.{is_match}
use Rattle.ae_made_instances.proofs.Ending.{between_still, came_nothing, came_some, counted_batch, holds_returned, limit_returned, noted_batch, open_still, stopped_returned}
use Rattle.ae_made_instances.proofs.Joining.{owed_due}
use Rattle.ae_made_instances.proofs.batch.make_owed.Goals as goal
use Rattle.ae_made_instances.specs.Inner.Making.{IsDueOwed}
use Rattle.ae_made_instances.specs.Inner.Making.HasMade.{not_yet}
use Rattle.ae_propagation.specs.Settled.{last_level}
use Rattle.ae_searching.proofs.Searching.{searching_lower, so_far}
use Rattle.ae_state.specs.Fitting.{FitsStore}
use Rattle.ae_state.specs.Names.{assumed_in}
use Rattle.ae_state.specs.Stepping.{IsInStep}
use Rattle.ae_value_table.specs.Alike.{alike}

-- ---- what is owed is due
pub make_all-requires-clause-due : goal.make_all-requires-clause-due
make_all-requires-clause-due g c =
    let t = c.args.task in
    let o = c.args.search.now in
    let b = c.requires.between in
    let f = c.requires.found in
    let n = c.args.found.number in
    all_weaker (IsOwedAt t.problem.now t.goal o n) (IsDueOwed t.problem.now t.goal o n)
    (owed_due t.problem.now t.goal t.generations n o f.number
    (λ x told. c.alike_names_hold.ensures.searches t.problem.now t.goal t.generations (last_level o.solver.propagation.trail) o.store o.store o.blocks.opened o.solver o.lines.items o.journal.lines
    (record { store = b.holds.store; fits = b.searching.alive.fits_store; all = c.requires.is_open.complete.1 }) (record { signature = refl; keeps = λ i u h. h }) b.searching x told)
    (λ x told. (b.holds.instances.justified x told).0)) c.args.found.owed f.each

pub make_all-requires-clause-made : goal.make_all-requires-clause-made
make_all-requires-clause-made g c =
    let t = c.args.task in
    let o = c.args.search.now in
    let f = c.requires.found in
    not_yet refl f.some
    (all_weaker (IsOwedAt t.problem.now t.goal o c.args.found.number) (λ (w : Owed). list_any (is_match (alike o.solver.theory.values) w.owner w.subst) o.instances.taken.taken ≡ false) (λ w d. d.untaken) c.args.found.owed f.each)

-- ---- where no line came
pub returns-then-len-before-clause-between : goal.returns-then-len-before-clause-between
returns-then-len-before-clause-between g c =
    let t = c.args.task in
    let e = c.in_ok-level.ensures in
    between_still t.problem.now t.goal t.generations c.in_ok-level.level c.args.search.now c.make_all.new.search c.requires.between e.goes_on e.batch
    (sym c.make_all.new.search.lines.ok.0 ∙ sym c.len.ensures ∙ c.if-len-before.true ∙ c.len-before.ensures ∙ c.args.search.now.lines.ok.0) e.came

pub returns-then-len-before-clause-none : goal.returns-then-len-before-clause-none
returns-then-len-before-clause-none g c q =
    let t = c.args.task in
    let o = c.args.search.now in
    let o2 = c.make_all.new.search in
    let e = c.in_ok-level.ensures in
    let same = sym c.make_all.new.search.lines.ok.0 ∙ sym c.len.ensures ∙ c.if-len-before.true ∙ c.len-before.ensures ∙ c.args.search.now.lines.ok.0 in
    let n = came_nothing o o2 same e.came in
    (open_still t.problem.now t.goal t.generations c.in_ok-level.level o o2 c.requires.between e.goes_on e.batch same e.came c.requires.is_open, n.0, n.1, n.2, e.goes_on.blocks)

-- ---- where a line came
pub return_to-requires : goal.return_to-requires
return_to-requires g c = record { alive = (c.make_all.new.search.store, c.in_ok-level.ensures.batch.searching.alive) }

pub returns-clause-between : goal.returns-clause-between
returns-clause-between g c =
    let t = c.args.task in
    let o2 = c.make_all.new.search in
    let level = c.in_ok-level.level in
    let e = c.in_ok-level.ensures in
    let r = c.return_to.new in
    let back = c.in_ok-return_to.ensures in
    let news = came_some c.args.search.now o2 (λ same. c.if-len-before.false (c.len.ensures ∙ c.make_all.new.search.lines.ok.0 ∙ same ∙ sym c.args.search.now.lines.ok.0 ∙ sym c.len-before.ensures)) e.came in
    record {
      searching = searching_lower FitsStore assumed_in IsMarkOf IsInStep t.problem.now t.goal t.generations o2.store o2.blocks.opened level (last_level r.solver.propagation.trail) r.solver o2.lines.items r.journal.lines back.level
          (back.searching t.problem.now t.goal t.generations o2.store o2.blocks.opened o2.lines.items news.0 e.batch.searching);
      looked = e.batch.looked;
      holds = holds_returned t.problem.now t.goal t.generations o2 r.solver r.journal e.batch.holds c.return_to.ensures.clauses c.return_to.ensures.instances;
    }

pub returns-clause-lines : goal.returns-clause-lines
returns-clause-lines g c q = (came_some c.args.search.now c.make_all.new.search (λ same. c.if-len-before.false (c.len.ensures ∙ c.make_all.new.search.lines.ok.0 ∙ same ∙ sym c.args.search.now.lines.ok.0 ∙ sym c.len-before.ensures)) c.in_ok-level.ensures.came).1

pub returns-in_err-return_to-clause-stopped : goal.returns-in_err-return_to-clause-stopped
returns-in_err-return_to-clause-stopped g c q =
    let t = c.args.task in
    let o2 = c.make_all.new.search in
    let e = c.in_ok-level.ensures in
    let r = c.return_to.new in
    let news = came_some c.args.search.now o2 (λ same. c.if-len-before.false (c.len.ensures ∙ c.make_all.new.search.lines.ok.0 ∙ same ∙ sym c.args.search.now.lines.ok.0 ∙ sym c.len-before.ensures)) e.came in
    stopped_returned t.problem.now t.goal t.generations o2 r.solver r.journal e.batch.holds e.batch.searching.signature
    (c.return_to.ensures.so_far t.problem.now t.goal t.generations o2.store o2.blocks.opened o2.lines.items news.0
    (so_far FitsStore assumed_in IsMarkOf IsInStep t.problem.now t.goal t.generations o2.store o2.blocks.opened c.in_ok-level.level o2.solver o2.lines.items o2.journal.lines e.batch.searching))

pub returns-in_err-return_to-clause-limit : goal.returns-in_err-return_to-clause-limit
returns-in_err-return_to-clause-limit g c = limit_returned c.make_all.new.search.journal c.return_to.new.journal c.in_ok-level.level c.return_to.ensures.noted_or ∙ c.make_all.ensures.limit

pub returns-clause-limit : goal.returns-clause-limit
returns-clause-limit g c = limit_returned c.make_all.new.search.journal c.return_to.new.journal c.in_ok-level.level c.return_to.ensures.noted_or ∙ c.make_all.ensures.limit

pub returns-clause-noted : goal.returns-clause-noted
returns-clause-noted g c q =
    let o2 = c.make_all.new.search in
    let e = c.in_ok-level.ensures in
    let news = came_some c.args.search.now o2 (λ same. c.if-len-before.false (c.len.ensures ∙ c.make_all.new.search.lines.ok.0 ∙ same ∙ sym c.args.search.now.lines.ok.0 ∙ sym c.len-before.ensures)) e.came in
    noted_batch c.args.search.now o2 c.return_to.new.journal c.in_ok-level.level e.goes_on news.2 c.return_to.ensures.noted_or

pub returns-clause-counted : goal.returns-clause-counted
returns-clause-counted g c q =
    let o2 = c.make_all.new.search in
    let news = came_some c.args.search.now o2 (λ same. c.if-len-before.false (c.len.ensures ∙ c.make_all.new.search.lines.ok.0 ∙ same ∙ sym c.args.search.now.lines.ok.0 ∙ sym c.len-before.ensures)) c.in_ok-level.ensures.came in
    counted_batch c.args.search.now.journal o2.journal c.return_to.new.journal c.in_ok-level.level news.3 c.return_to.ensures.noted_or
