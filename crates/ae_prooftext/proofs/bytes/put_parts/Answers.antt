use Rattle.std.proofs.Common.{◌∷◌, []}
use Rattle.std.proofs.lemmas.Result.{on_ok_weaker}
use Rattle.ae_prooftext.specs.Inner.Pieces.{spaced_scaled}
use Rattle.ae_prooftext.proofs.Pieces.{parts_are, closed}
use Rattle.ae_prooftext.proofs.bytes.put_parts.Goals as goal

pub returns : goal.returns
returns c = on_ok_weaker c.put.result (λ e. closed c.args.out.now.items _ _ (spaced_scaled c.args.parts.now) (10 ∷ []) _ c.in_ok-put_spaced_scaled.ensures (parts_are c.args.parts.now) e) c.put.ensures
