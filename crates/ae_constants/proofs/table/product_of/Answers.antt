use Rattle.std.proofs.Common.{suc, length, arith}
use Rattle.ae_rules.specs.Linear.{form}
use Rattle.ae_store.specs.Terms.{named}
use Rattle.ae_constants.proofs.TableLaws.{form_at}
use Rattle.ae_constants.proofs.table.product_of.Goals as goal

pub returns : goal.returns
returns c =
    let fs = c.args.earlier.now in
    let n = suc (length fs) in
    λ ts o l e.
    c.in_ok-product.ensures ts n (form (named ts c.args.left)) (form (named ts c.args.right)) o l (omega arith)
    (form_at ts fs c.args.left _ _ e c.requires.left c.index-earlier-left.is) (form_at ts fs c.args.right _ _ e c.requires.right c.index-earlier-right.is)
