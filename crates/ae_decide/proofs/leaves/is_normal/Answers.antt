use Rattle.std.proofs.Common.{rules, ◌≡◌, true, sym, ◌∙◌}
use Rattle.ae_decide.proofs.LeafTests.{lowest_normal}
use Rattle.ae_decide.proofs.leaves.is_normal.Goals as goal

pub returns : goal.returns
returns c =
    let proper : c.is_proper.result ≡ true = search rules in
    lowest_normal c.args.form.now c.is_lowest.result (sym c.is_proper.ensures ∙ proper) c.is_lowest.ensures
