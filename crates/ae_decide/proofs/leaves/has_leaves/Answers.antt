use Rattle.std.proofs.Common.{◌≡◌, true}
use Rattle.std.specs.Prelude.{◌↔◌}
use Rattle.std.proofs.lemmas.Result.{IfOk-weaker}
use Rattle.ae_decide.specs.Clauses.{HasLeaves}
use Rattle.ae_decide.specs.Leaves.{all_have_values}
use Rattle.ae_decide.proofs.LeafTests.{leaves_tested}
use Rattle.ae_decide.proofs.leaves.has_leaves.Goals as goal

pub returns : goal.returns
returns c =
    let sig = c.args.signature.now in
    let y = c.args.system.now in
    IfOk-weaker c.all_have_values.result (λ b. b ≡ all_have_values sig y) (λ b. (b ≡ true) ↔ HasLeaves sig y) (leaves_tested sig y c.requires.terms) c.all_have_values.ensures
