use Rattle.std.specs.Prelude.{ℕ, Option}
use Rattle.std.proofs.lemmas.Result.{IfOk-weaker}
use Rattle.ae_monoid.specs.declared.rules.Kept.{Kept}
use Rattle.ae_monoid.specs.Rules.{rule_at}
use Rattle.ae_monoid.specs.Changes.{AreTakenOut, IsReducible}
use Rattle.ae_equations.proofs.TakenOut.{alone_after}
use Rattle.ae_equations.proofs.equations.Equations.collapse.Goals as goal

pub returns-clause-alone : goal.returns-clause-alone
returns-clause-alone c =
    let old : ℕ → Option Kept = λ n. rule_at c.args.self.now.rules n in
    let new : ℕ → Option Kept = λ n. rule_at c.collapse_counted.new.self.rules n in
    IfOk-weaker c.collapse_counted.result (λ pairs. AreTakenOut old new (λ n. IsReducible old n) pairs) (λ pairs. (n : ℕ) → IsReducible new n → ⊥) (λ pairs t. alone_after old new pairs t) c.collapse_counted.ensures.pairs
