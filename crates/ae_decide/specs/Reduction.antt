-- A test of the sides of rules.
use Rattle.std.specs.Prelude.{ℕ, Bool, true, false, not, ◌&&◌, List, [], ◌∷◌}
use Rattle.std.specs.List.{list_all}
use Rattle.ae_base.specs.Decided.{decided}
use Rattle.ae_core.specs.Decided.{Head_discrete}
use Rattle.ae_core.specs.Sorts.{same_sorts}
use Rattle.ae_core.specs.declared.problems.AcSymbol.{AcSymbol}
use Rattle.ae_multiset.specs.Multisets.{minus}
use Rattle.ae_journal.specs.declared.systems.RuleEntry.{RuleEntry}

-- nothing is left of the first without the second
abbrev pub is_empty : List ℕ → Bool
is_empty [] = true
is_empty (n ∷ ns) = false

abbrev pub is_part : List ℕ → List ℕ → Bool
is_part a b = is_empty (minus a b)

abbrev pub same_symbol : AcSymbol → AcSymbol → Bool
same_symbol c d = decided (Head_discrete c.head d.head) && same_sorts c.sorts d.sorts

-- the rule reduces a multiset that the symbol joins
abbrev pub reduces : RuleEntry → AcSymbol → List ℕ → Bool
reduces d symbol side = same_symbol d.symbol symbol && is_part d.left side

abbrev pub are_irreducible : RuleEntry → RuleEntry → Bool
are_irreducible d e = not (reduces d e.symbol e.left) && not (reduces e d.symbol d.left)

-- no rule reduces the left side of another
abbrev pub left_sides_stay : List RuleEntry → Bool
left_sides_stay [] = true
left_sides_stay (e ∷ es) = list_all (are_irreducible e) es && left_sides_stay es

abbrev pub leaves_right : RuleEntry → RuleEntry → Bool
leaves_right d e = not (reduces d e.symbol e.right)
