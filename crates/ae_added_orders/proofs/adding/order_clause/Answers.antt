use Rattle.std.proofs.Common.{◌∙◌, sym}
use Rattle.std.proofs.lemmas.Option.{none-some}
use Rattle.ae_added_orders.proofs.adding.order_clause.Goals as goal

pub unreachable-requires : goal.unreachable-requires
unreachable-requires v c = let w = c.requires.numbers in none-some w.0 (sym c.in-None.is ∙ c.in_ok-trichotomy.ensures ∙ w.1)

pub returns : goal.returns
returns v c = sym c.in_ok-trichotomy.ensures ∙ c.in-Some.is
