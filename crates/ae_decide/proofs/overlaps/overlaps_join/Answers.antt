use Rattle.std.proofs.Common.{◌≡◌, true, ap, ◌∙◌}
use Rattle.std.specs.Prelude.{◌↔◌}
use Rattle.std.proofs.lemmas.Result.{IfOk-weaker}
use Rattle.ae_core.specs.declared.problems.Signature.{Signature}
use Rattle.ae_decide.specs.Clauses.{AllOverlapsJoin}
use Rattle.ae_decide.specs.Overlaps.{all_join}
use Rattle.ae_decide.proofs.OverlapTests.{overlaps_tested}
use Rattle.ae_decide.proofs.overlaps.overlaps_join.Goals as goal

pub returns : goal.returns
returns c =
    let y = c.args.system.now in
    IfOk-weaker c.all_join.result (λ b. b ≡ all_join c.as_slice.result.now) (λ b. (signature : Signature) → (b ≡ true) ↔ AllOverlapsJoin signature y)
    (λ b e signature. overlaps_tested signature y c.requires.falls b (e ∙ ap all_join c.as_slice.ensures)) c.all_join.ensures
