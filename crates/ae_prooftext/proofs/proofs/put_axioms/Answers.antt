use Rattle.std.proofs.Common.{codes}
use Rattle.std.proofs.lemmas.Result.{on_ok_weaker}
use Rattle.ae_prooftext.specs.Inner.Pieces.{numbers_bytes}
use Rattle.ae_prooftext.proofs.Pieces.{closed_twice}
use mathlib.Core.Path.{refl}
use Rattle.ae_prooftext.proofs.proofs.put_axioms.Goals as goal

pub returns : goal.returns
returns c =
    on_ok_weaker c.put-2.result (λ e. closed_twice c.args.out.now.items _ _ _ (codes "proof 2\naxioms [") (numbers_bytes c.args.places.now) (codes "\n") _ c.in_ok-put.ensures c.in_ok-put_number_list.ensures refl e) c.put-2.ensures
