use Rattle.std.proofs.Common.{decimal, codes, refl}
use Rattle.std.proofs.lemmas.Result.{on_ok_weaker}
use Rattle.ae_prooftext.proofs.Pieces.{closed}
use Rattle.ae_statetext.proofs.answers.put_count.Goals as goal

pub returns : goal.returns
returns c = on_ok_weaker c.put_number.result (λ e. closed c.args.out.now.items _ _ (codes " Limit steps ") (decimal c.args.steps) _ c.in_ok-put.ensures refl e) c.put_number.ensures
