use Rattle.std.proofs.Common.{◌≡◌, List}
use Rattle.std.proofs.lemmas.Result.{IfOk-at_ok}
use Rattle.ae_core.specs.declared.problems.Item.{Item}
use Rattle.ae_core.specs.declared.problems.Signature.{Signature}
use Rattle.ae_elaborate.proofs.files.problem_of.Goals as goal

pub returns : goal.returns
returns c = λ is h.
    let made = c.in_ok-signature in (
      IfOk-at_ok (λ (z : Signature). z ≡ c.args.signature.now) made.ensures.0 c.copy_signature-copy.ensures,
      IfOk-at_ok (λ (z : List Item). z ≡ is) made.ensures.1 h,
    )
