use Rattle.std.proofs.Common.{suc, length, arith}
use Rattle.ae_rules.specs.Linear.{form}
use Rattle.ae_store.specs.Terms.{named}
use Rattle.ae_constants.proofs.TableLaws.{form_at}
use Rattle.ae_constants.proofs.table.quotient_of.Goals as goal

pub returns : goal.returns
returns c =
    let fs = c.args.earlier.now in
    let n = suc (length fs) in
    λ ts u i e.
    c.in_ok-quotient.ensures ts n (form (named ts c.args.of)) u i (omega arith) (form_at ts fs c.args.of _ _ e c.requires c.index-earlier-of.is)
