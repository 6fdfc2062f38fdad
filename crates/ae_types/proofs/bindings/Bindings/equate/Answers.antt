use Rattle.std.proofs.Common.{◌↔◌, ℕ, OnOk, IfErr, subst}
use Rattle.ae_core.specs.declared.terms.Sort.{Sort}
use Rattle.ae_types.specs.Inner.Enters.{sheet}
use Rattle.ae_types.specs.Bound.{bound, IsGiven}
use Rattle.ae_types.specs.Clashes.{IsClash, Refutes}
use Rattle.ae_types.specs.Substitutions.{Respects, MakesEqual}
use Rattle.std.proofs.lemmas.Result.{IfErr-weaker}
use Rattle.ae_types.proofs.UnifyLaws.{idempotent, clash_refutes, given_holds}
use Rattle.ae_types.proofs.bindings.Bindings.equate.Goals as goal

pub returns-clause-respected : goal.returns-clause-respected
returns-clause-respected c =
    subst (λ x. OnOk c.equate_in.result ((f : ℕ → Sort) → Respects f (bound (sheet c.equate_in.new.graph)) ↔ (Respects f (bound x) × MakesEqual f c.args.left.now c.args.right.now)))
    c.self.view_is c.equate_in.ensures.respected

pub returns-clause-idempotent : goal.returns-clause-idempotent
returns-clause-idempotent c = idempotent (sheet c.equate_in.new.graph) c.equate_in.ensures.sound

pub returns-clause-refuted : goal.returns-clause-refuted
returns-clause-refuted c =
    subst (λ x. IfErr c.equate_in.result (λ clash. Refutes clash ((f : ℕ → Sort) × Respects f (bound x) × MakesEqual f c.args.left.now c.args.right.now)))
    c.self.view_is
    (IfErr-weaker c.equate_in.result (IsClash (IsGiven (sheet c.self.inside.graph) c.args.left.now c.args.right.now)) _
    (λ e k. clash_refutes (IsGiven (sheet c.self.inside.graph) c.args.left.now c.args.right.now) e _
    (λ q. (q.0, given_holds (sheet c.self.inside.graph) c.args.left.now c.args.right.now q.0 q.1 q.2)) k)
    c.equate_in.ensures.blamed)
