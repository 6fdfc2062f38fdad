use Rattle.std.proofs.Common.{sym, ◌∙◌}
use Rattle.std.proofs.lemmas.Result.{IfOk-weaker}
use Rattle.ae_base.proofs.Tests.{true_false}
use Rattle.ae_tight_sides.specs.Sides.AreSidesOf.{of_row, of_literal}
use Rattle.ae_tight_sides.proofs.Within.{names_within, some_weaker}
use Rattle.ae_tight_sides.proofs.sides.tight_sides.Goals as goal

pub row_sides-requires-clause-normal : goal.row_sides-requires-clause-normal
row_sides-requires-clause-normal c = c.requires.normal

pub row_sides-requires-clause-names : goal.row_sides-requires-clause-names
row_sides-requires-clause-names c = names_within c.args.store.now c.args.row.now.real c.args.row.now.lin.parts (c.requires.right.said).numbers

pub returns-then-rounded : goal.returns-then-rounded
returns-then-rounded c = of_row c.if-integral.true (λ e. true_false (sym (c.is_empty.ensures.1 e) ∙ c.if-is_empty.false)) c.in_ok-both.ensures.left c.in_ok-both.ensures.right

pub returns : goal.returns
returns c = IfOk-weaker c.first_sides.result _ _ (λ o. some_weaker _ _ (λ both w. of_literal w.0 w.1 w.2 w.3) o) c.first_sides.ensures
