use Rattle.std.specs.Prelude.{◌≡◌, List, IfOk}
use Rattle.std.proofs.Common.{subst}
use Rattle.ae_core.specs.declared.formulas.Lit.{Lit}
use Rattle.ae_explain.specs.declared.trail.Assigned.{Assigned}
use Rattle.ae_journal.specs.Journals.{decisions, live}
use Rattle.ae_journal.specs.Standing.{SurelyStands}
use Rattle.ae_journal.specs.declared.lines.Line.{Line}
use Rattle.ae_propagation.specs.Settled.{Holds}
use Rattle.ae_sat.specs.Standing.{decided_lits}
use Rattle.ae_sure_literals.specs.Sure.{AreSure}
use Rattle.ae_sure_literals.proofs.search.sure_in_search.Goals as goal

pub returns : goal.returns
returns g c bound level s opened lines h all_true x told =
    let p = c.args.problem.now in
    let js = c.args.journal.now.lines in
    (subst (λ (z : List Line × List Assigned). decisions (live z.0) ≡ decided_lits z.1 → ((l : Lit) → SurelyStands x z.0 l → Holds z.1 l) → IfOk c.sure_literals.result (AreSure x z.0 z.1))
    (λ i. (c.lines.ensures i, c.trail.ensures i)) (c.sure_literals.ensures x told.problem told.goal)) h.alive.running.decided
    (c.trail_stands.ensures.surely p c.args.goal bound level s opened lines js h all_true x told)
