use Rattle.std.specs.Prelude.{◌≡◌, false}
use Rattle.std.proofs.Common.{sym, ◌∙◌, subst}
use Rattle.ae_base.proofs.Tests.{true_false}
use Rattle.ae_core.specs.declared.problems.Signature.{Signature}
use Rattle.ae_sweeps.specs.Given.{rep_in}
use Rattle.ae_sweeps.specs.Inner.Entered.{IsCompared}
use Rattle.ae_sweeps.proofs.AlikeNames.{skip}
use Rattle.ae_sweeps.proofs.congruences.congruence_gap.Goals as goal

pub returns-then-not-is_compared-clause-none : goal.returns-then-not-is_compared-clause-none
returns-then-not-is_compared-clause-none c =
    let store = c.args.store.now in
    let p = c.node.result.now in
    let no : c.is_compared.result ≡ false = c.if-not-is_compared.true in
    skip store.signature store.nodes (rep_in c.args.reps.now) c.args.table.now c.args.name c.requires.entered p c.node.ensures.node
    (λ k. true_false (sym (c.is_compared.ensures.1 (subst (λ (s : Signature). IsCompared s p) (sym c.requires.same) k)) ∙ no))
