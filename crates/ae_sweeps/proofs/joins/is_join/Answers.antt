use Rattle.std.specs.Prelude.{◌≡◌, true, false}
use Rattle.std.proofs.Common.{sym, ◌∙◌}
use Rattle.ae_base.proofs.Tests.{true_false}
use Rattle.ae_sweeps.proofs.JoinedNames.{not_ac, symbol_joins, product_tested}
use Rattle.ae_sweeps.proofs.joins.is_join.Goals as goal

pub returns-then-not-is_ac : goal.returns-then-not-is_ac
returns-then-not-is_ac c = λ a b l r j. let no : c.is_ac.result ≡ false = c.if-not-is_ac.true in true_false (sym (c.is_ac.ensures.1 (not_ac c.args.signature.now c.args.head a b j)) ∙ no)

pub returns-then-not-is_product : goal.returns-then-not-is_product
returns-then-not-is_product c =
    λ a b l r. symbol_joins c.args.signature.now c.args.head a b (c.is_ac.ensures.0 c.if-not-is_ac.false) (λ p. true_false (sym (c.is_product.ensures.1 p) ∙ c.if-not-is_product.true))

pub returns-then-not-left : goal.returns-then-not-left
returns-then-not-left c =
    λ a b l r. product_tested c.args.signature.now c.args.head a b false c.args.right (c.is_product.ensures.0 c.if-not-is_product.false) (sym c.if-not-left.true ∙ l) r

pub returns-else-not-left : goal.returns-else-not-left
returns-else-not-left c =
    λ a b l r. rw c.if-not-left.false (product_tested c.args.signature.now c.args.head a b true c.args.right (c.is_product.ensures.0 c.if-not-is_product.false) (sym c.if-not-left.false ∙ l) r)
