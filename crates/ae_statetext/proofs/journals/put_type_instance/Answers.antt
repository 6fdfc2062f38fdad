use Rattle.std.proofs.Common.{◌++◌, ◌∷◌, [], decimal, codes, append_assoc}
use Rattle.std.proofs.lemmas.Result.{on_ok_weaker}
use Rattle.ae_prooftext.specs.Inner.Pieces.{sorts_bytes}
use Rattle.ae_prooftext.proofs.Pieces.{closed_twice}
use Rattle.ae_statetext.proofs.journals.put_type_instance.Goals as goal

pub returns : goal.returns
returns c =
    on_ok_weaker c.put.result (λ e. closed_twice c.args.out.now.items _ _ _ (codes "instance type " ++ decimal c.args.place ++ codes " [") (sorts_bytes c.args.signature.now c.args.sorts.now) (10 ∷ []) _
    c.in_ok-put_numbered.ensures c.in_ok-put_sorts.ensures (append_assoc (codes "instance type " ++ decimal c.args.place ++ codes " [") (sorts_bytes c.args.signature.now c.args.sorts.now) (10 ∷ [])) e) c.put.ensures
