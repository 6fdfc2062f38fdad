use Rattle.std.proofs.Common.{ℕ, List, [], ◌∷◌, ◌++◌, sym, subst, refl}
use Rattle.ae_core.specs.declared.proofs.ClauseLine.TheVariants.{Rup}
use Rattle.ae_explain.specs.Trail.{clause}
use Rattle.ae_explain.specs.Levels.{greatest_of}
use Rattle.ae_sat.specs.Search.{IsStated}
use Rattle.ae_sat.proofs.Enlarging.{enlarges_more, enlarges_to, rup_enlarges}
use Rattle.ae_sat.proofs.Idling.{idle_memory}
use Rattle.ae_sat.proofs.Propagating.{line_state}
use Rattle.ae_sat.proofs.Results.{on_ok_more}
use Rattle.ae_sat.proofs.Searching.{keeps_same}
use Rattle.ae_sat.proofs.solver.Solver.learn.Goals as goal

pub take_in-requires-clause-learnt : goal.take_in-requires-clause-learnt
take_in-requires-clause-learnt g c =
    let e = c.in_ok-learnt.ensures in
    (greatest_of c.args.self.now.propagation.trail (clause c.args.self.now.propagation.clauses c.args.falsified), record { false_ones = e.false_ones; empty = e.empty; one = e.one; highest = e.highest; level = e.level })

pub take_in-requires-clause-line : goal.take_in-requires-clause-line
take_in-requires-clause-line g c = (c.args.lines.now.items, c.in_ok-learnt.ensures.line.0, c.in_ok-learnt.ensures.line.1)

pub returns-clause-stated : goal.returns-clause-stated
returns-clause-stated g c p n sig old =
    let s = c.args.self.now in
    let u = s.propagation.clauses in
    let ks = c.args.lines.now.items in
    let new = c.derive.new.lines.items in
    let stated : IsStated p n new u s.places =
    subst (λ (v : List ℕ). IsStated p n new u v) c.as_slice.ensures (c.in_ok-learnt.ensures.stated p n (subst (λ (v : List ℕ). IsStated p n ks u v) (sym c.as_slice.ensures) old)) in
    c.take_in.ensures.stated p n sig stated

pub returns-clause-legal : goal.returns-clause-legal
returns-clause-legal g c setting bound sig old state =
    let s = c.args.self.now in
    let u = s.propagation.clauses in
    let ks = c.args.lines.now.items in
    let new = c.derive.new.lines.items in
    let stated : IsStated setting.problem setting.goal new u s.places =
    subst (λ (v : List ℕ). IsStated setting.problem setting.goal new u v) c.as_slice.ensures
    (c.in_ok-learnt.ensures.stated setting.problem setting.goal (subst (λ (v : List ℕ). IsStated setting.problem setting.goal ks u v) (sym c.as_slice.ensures) old)) in
    c.take_in.ensures.legal setting bound sig stated (line_state setting s.propagation.trail u s.expanded ks new c.args.journal.now.lines (Rup c.in_ok-learnt.learnt.clause c.in_ok-learnt.ensures.line.0) c.in_ok-learnt.ensures.line.1 tt state)

pub returns-in_err-learnt-clause-allowed : goal.returns-in_err-learnt-clause-allowed
returns-in_err-learnt-clause-allowed g c p n sig old =
    let s = c.args.self.now in
    let u = s.propagation.clauses in
    let ks = c.args.lines.now.items in
    let before : IsStated p n ks u c.as_slice.result.now = subst (λ (v : List ℕ). IsStated p n ks u v) (sym c.as_slice.ensures) old in
    (c.in_err-learnt.ensures.stated p n before).allowed

pub returns-clause-allowed : goal.returns-clause-allowed
returns-clause-allowed g c p n sig old =
    let s = c.args.self.now in
    let u = s.propagation.clauses in
    let ks = c.args.lines.now.items in
    let before : IsStated p n ks u c.as_slice.result.now = subst (λ (v : List ℕ). IsStated p n ks u v) (sym c.as_slice.ensures) old in
    let new = c.derive.new.lines.items in
    let stated : IsStated p n new u s.places =
    subst (λ (v : List ℕ). IsStated p n new u v) c.as_slice.ensures (c.in_ok-learnt.ensures.stated p n before) in
    c.take_in.ensures.allowed p n sig stated

pub returns-clause-enlarges : goal.returns-clause-enlarges
returns-clause-enlarges g c =
    let s = c.args.self.now in
    let r = c.requires.alive.running in
    let t = s.propagation.trail in
    let u = s.propagation.clauses in
    let store = c.args.store.now in
    let ks = c.args.lines.now.items in
    let new = c.derive.new.lines.items in
    let e = c.in_ok-learnt.ensures in
    let rup = Rup c.in_ok-learnt.learnt.clause e.line.0 in
    let own = enlarges_to store u u u ks (ks ++ rup ∷ []) new (rup_enlarges t u r.lawful r.stands store c.in_ok-learnt.learnt.clause e.line.0 e.false_ones ks) refl e.line.1 in
    on_ok_more _ _ c.take_in.result c.take_in.ensures.enlarges (λ more. enlarges_more store u u c.take_in.new.self.propagation.clauses ks new c.take_in.new.lines.items own more)

pub returns-in_err-learnt-clause-base : goal.returns-in_err-learnt-clause-base
returns-in_err-learnt-clause-base g c z = idle_memory c.args.journal.now c.from_residual.result c.in_err-learnt.field-0.0 c.from_residual.ensures.1

pub returns-clause-base : goal.returns-clause-base
returns-clause-base g c z = c.take_in.ensures.base z

pub returns-in_err-learnt-clause-journal : goal.returns-in_err-learnt-clause-journal
returns-in_err-learnt-clause-journal g c = keeps_same c.args.journal.now
