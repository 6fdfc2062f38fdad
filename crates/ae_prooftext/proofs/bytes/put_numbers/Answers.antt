use Rattle.std.proofs.Common.{◌∷◌, []}
use Rattle.std.proofs.lemmas.Result.{on_ok_weaker}
use Rattle.ae_prooftext.specs.Inner.Pieces.{spaced_numbers}
use Rattle.ae_prooftext.proofs.Pieces.{numbers_are, closed}
use Rattle.ae_prooftext.proofs.bytes.put_numbers.Goals as goal

pub returns : goal.returns
returns c = on_ok_weaker c.put.result (λ e. closed c.args.out.now.items _ _ (spaced_numbers c.args.numbers.now) (10 ∷ []) _ c.in_ok-put_spaced_numbers.ensures (numbers_are c.args.numbers.now) e) c.put.ensures
