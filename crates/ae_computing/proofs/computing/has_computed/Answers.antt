use Rattle.std.proofs.Common.{◌≡◌, true}
use Rattle.std.specs.Prelude.{◌↔◌}
use Rattle.std.proofs.lemmas.Result.{IfOk-weaker}
use Rattle.ae_decide.specs.Clauses.{IsComputed}
use Rattle.ae_computing.specs.Inner.Computed.{all_right}
use Rattle.ae_computing.proofs.ComputedTests.{computing_tested}
use Rattle.ae_computing.proofs.computing.has_computed.Goals as goal

pub returns : goal.returns
returns c =
    let sig = c.args.signature.now in
    let y = c.args.system.now in
    IfOk-weaker c.all_right.result (λ b. b ≡ all_right y) (λ b. (b ≡ true) ↔ IsComputed sig y) (computing_tested sig y c.requires.terms) c.all_right.ensures
