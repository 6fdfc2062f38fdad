use Rattle.std.proofs.Common.{◌≡◌, List, arith, subst}
use Rattle.std.proofs.lemmas.Option.{MatchOption-at_none, MatchOption-at_some}
use Rattle.ae_theory.specs.Paths.{Paths, list_at, standing}
use Rattle.ae_theory.specs.Classes.{IsConflict, NoneClashes, extends_itself}
use Rattle.ae_theory.specs.declared.nodes.Node.{Node}
use Rattle.ae_theory.specs.declared.theory.Outcome.TheVariants.{Complete, Conflict}
use Rattle.ae_theory.proofs.Sharing.{none_added}
use Rattle.ae_theory.proofs.Conflicts.{conflict_contradicts}
use Rattle.ae_theory.proofs.constants.ConstantsTheory.saturate.Goals as goal

pub returns-clause-complete : goal.returns-clause-complete
returns-clause-complete c e =
    let last = c.self.inside.last in
    let q : c.outcome.result ≡ Complete = cc in
    let none : NoneClashes (list_at c.self.inside.nodes last) =
    subst (λ (w : List Node). NoneClashes (list_at w last)) c.as_slice.ensures (MatchOption-at_none _ _ (c.outcome.ensures.complete q) c.conflict_at.ensures) in
    subst (λ (o : Paths). NoneClashes (standing o)) c.self.view_is none

pub returns-clause-conflict : goal.returns-clause-conflict
returns-clause-conflict c k e =
    let o = c.args.self.now in
    let s = c.args._store.now in
    let last = c.self.inside.last in
    let q : c.outcome.result ≡ Conflict k = cc in
    let own : IsConflict (record { nodes = c.self.inside.nodes; last = last }) k =
    subst (λ (w : List Node). IsConflict (record { nodes = w; last = last }) k) c.as_slice.ensures (MatchOption-at_some _ _ k (c.outcome.ensures.conflict k q) c.conflict_at.ensures) in
    let h : IsConflict o k = subst (λ (w : Paths). IsConflict w k) c.self.view_is own in
    (h, conflict_contradicts o s (c.requires.fits s (extends_itself s)).each k h)

pub returns-clause-legal : goal.returns-clause-legal
returns-clause-legal c x bound named may added e = none_added x bound c.args._journal.now.lines added e

pub returns-clause-budget : goal.returns-clause-budget
returns-clause-budget c n may = omega arith

pub returns-clause-budget_left : goal.returns-clause-budget_left
returns-clause-budget_left c n may = (n, tt, omega arith)
