-- Terms as keys, lent, and where each stands among the keys.
use Rattle.std.specs.Prelude.{ℕ, suc, ◌≡◌, List, [], ◌∷◌, Option, Some, None}
use Rattle.std.specs.Option.{option_map}
use Rattle.std.specs.Cmp.{IsTotalOrder}
use Rattle.std.proofs.lemmas.Cmp.{on_total}
use Rattle.ae_base.specs.Decided.{pick}
use Rattle.ae_core.specs.Decided.{Term_discrete}
use Rattle.ae_core.specs.Orders.{term_order, term_tree}
use Rattle.ae_core.specs.Inner.TreeOrder.{tree_total}
use Rattle.ae_core.specs.declared.terms.Term.{Term}

pub term_total : IsTotalOrder term_order
term_total = on_total term_tree tree_total

-- the first place where a term stands
abbrev pub place_in : List Term → Term → Option ℕ
place_in [] t = None
place_in (k ∷ ks) t = pick (Term_discrete k t) (Some 0) (option_map suc (place_in ks t))

-- it finds each term where it stands
abbrev pub IsIndex : List Term → (Term → Option ℕ) → Type 0
IsIndex ks found = (t : Term) → found t ≡ place_in ks t
