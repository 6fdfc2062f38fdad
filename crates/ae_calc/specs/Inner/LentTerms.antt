-- Lists of lent terms.
use Rattle.std.specs.Prelude.{List, [], ◌∷◌, ◌≡◌, map, false}
use Rattle.std.specs.List.{AllByRecursion}
use Rattle.std.specs.Ordering.{is_lt}
use denote.Ref.{Bor}
use Rattle.ae_core.specs.Orders.{term_order}
use Rattle.ae_core.specs.declared.terms.Term.{Term}

-- the terms themselves
abbrev pub values : List (Bor Term) → List Term
values ts = map (λ t. t.now) ts

-- no term comes before an earlier one in the order of terms
abbrev pub IsRisingList : List Term → Type 0
IsRisingList [] = Unit {0}
IsRisingList (t ∷ ts) = AllByRecursion (λ u. is_lt (term_order u t) ≡ false) ts × IsRisingList ts
