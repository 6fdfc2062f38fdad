use Rattle.std.proofs.Common.{List, ◌≡◌, true, sym, subst}
use Rattle.std.specs.List.{Contains}
use Rattle.ae_between_rounds.specs.Finished.{IsOpenSearch}
use Rattle.ae_between_rounds.specs.declared.search.Search.{Search}
use Rattle.ae_core.specs.declared.formulas.Lit.{Lit}
use Rattle.ae_journal.specs.States.{is_universal, of_literal}
use Rattle.ae_open_states.specs.Shown.{trail_literals}
use Rattle.ae_owners.specs.Owners.{HasOwner}
use Rattle.ae_owners.specs.declared.owners.Owner.{Owner}
use Rattle.ae_owed_instances.proofs.OwnersAdded.{open_owned}
use Rattle.ae_owed_instances.proofs.Passed.{all_passed, none_left}
use Rattle.ae_owed_instances.proofs.owed.next_owed.Goals as goal

pub lower_all-requires-clause-is_open : goal.lower_all-requires-clause-is_open
lower_all-requires-clause-is_open g c =
    subst IsOpenSearch (sym c.add_owners.ensures.rest) (open_owned c.args.search.now c.add_owners.new.search.owners c.requires.is_open)

pub returns-clause-none : goal.returns-clause-none
returns-clause-none g c = λ e.
    let p = c.args.task.problem.now in
    let n = c.args.task.goal in
    let bound = c.args.task.generations in
    let s = c.lower_all.new.search in
    let f = c.in_ok-lower_all.ensures.fallen in
    let same = c.lower_all.ensures.rest in
    let literals =
    λ (l : Lit) (h : Contains (trail_literals s.solver.propagation.trail) l) (u : is_universal l ≡ true).
    subst (λ (z : List Owner). HasOwner z (of_literal l)) (sym f.owners)
    (c.in_ok-add_owners.ensures.all l (subst (λ (z : Search). Contains (trail_literals z.solver.propagation.trail) l) same h) u) in
    none_left p n bound s f.between f.is_open
    (c.alike_names_are_same.ensures s.solver.theory s.store (record { store = f.between.holds.store; fits = f.between.searching.alive.fits_store; all = f.is_open.complete.1 }))
    (all_passed p n bound s f.between f.is_open literals c.in_ok-lower_all.ensures.least (c.first_owed.ensures.none e))
