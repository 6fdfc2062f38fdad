use Rattle.std.proofs.Common.{rules, ◌≡◌, true, sym, ap, ◌∙◌}
use Rattle.std.specs.Prelude.{◌↔◌}
use Rattle.std.proofs.lemmas.Result.{IfOk-weaker}
use Rattle.ae_core.specs.declared.problems.Signature.{Signature}
use Rattle.ae_decide.specs.Reduction.{left_sides_stay}
use Rattle.ae_decide.proofs.ReductionTests.{right_sides_stay, reduced_holds, reduced_right}
use Rattle.ae_decide.proofs.reduction.are_reduced.Goals as goal
use Rattle.ae_decide.specs.Clauses.{AreReduced}

pub returns : goal.returns
returns c =
    let y = c.args.system.now in
    let left : left_sides_stay c.as_slice-rules.result.now ≡ true = search rules in
    IfOk-weaker c.right_sides_stay.result (λ b. b ≡ right_sides_stay c.as_slice-rules.result.now) (λ b. (signature : Signature) → (b ≡ true) ↔ AreReduced signature y)
    (λ b e signature. (
      λ t. reduced_holds signature y (ap left_sides_stay (sym c.as_slice-rules.ensures) ∙ left) (ap right_sides_stay (sym c.as_slice-rules.ensures) ∙ sym e ∙ t),
      λ h. e ∙ ap right_sides_stay c.as_slice-rules.ensures ∙ reduced_right signature y h,
    ))
    c.right_sides_stay.ensures
