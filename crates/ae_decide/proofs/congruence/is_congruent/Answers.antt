use Rattle.std.proofs.Common.{◌≡◌, true}
use Rattle.std.specs.Prelude.{◌↔◌}
use Rattle.std.proofs.lemmas.Result.{IfOk-weaker}
use Rattle.ae_decide.specs.Clauses.{IsCongruent}
use Rattle.ae_decide.specs.Congruence.{all_agree}
use Rattle.ae_decide.proofs.CongruenceTests.{congruence_tested}
use Rattle.ae_decide.proofs.congruence.is_congruent.Goals as goal

pub returns : goal.returns
returns c =
    let sig = c.args.signature.now in
    let y = c.args.system.now in
    IfOk-weaker c.all_agree.result (λ b. b ≡ all_agree sig y) (λ b. (b ≡ true) ↔ IsCongruent sig y) (congruence_tested sig y c.requires.terms c.requires.leaves) c.all_agree.ensures
