-- What is computed of a goal's formula and of the items before it to decide whether the goal is in the reach.
use Rattle.std.specs.Prelude.{ℕ, ◌<◌, ◌≡◌, Bool, true, ◌&&◌, nat_eq, List, slice_get, Some}
use Rattle.ae_core.specs.Sorts.{formula_ok}
use Rattle.ae_core.specs.declared.formulas.Formula.{Formula, Formula-F, out-Formula}
use Rattle.ae_core.specs.declared.formulas.Formula.TheOpen as layer
use Rattle.ae_core.specs.declared.formulas.Quant.{Quant}
use Rattle.ae_core.specs.declared.problems.Signature.{Signature}
use Rattle.ae_core.specs.declared.problems.Problem.{Problem}
use Rattle.ae_core.specs.declared.problems.Item.{Item}
use Rattle.ae_core.specs.declared.problems.Item.TheVariants.{Axiom, Goal}
use Rattle.ae_journal.specs.Ground.{is_simple}

-- constants put for a block's variables change nothing of this
abbrev pub goal_layer : Formula → Formula-F Formula Quant → Bool
goal_layer f (layer.All q) = is_simple q.body
goal_layer f _ = is_simple f

abbrev pub goal_reached : Formula → Bool
goal_reached f = goal_layer f (out-Formula f)

abbrev pub item_reached : Signature → Item → Bool
item_reached sig (Axiom n v f) = nat_eq v 0 && formula_ok sig f && is_simple f
item_reached sig (Goal n v f) = true

-- the items before the goal
abbrev pub AreItemsReached : Signature → List Item → ℕ → Type 0
AreItemsReached sig is g = (k : ℕ) (i : Item) → k < g → slice_get is k ≡ Some i → item_reached sig i ≡ true

-- the goal's formula, and the items before it
abbrev pub AreReached : Problem → ℕ → Formula → Type 0
AreReached p g f = (formula_ok p.signature f ≡ true) × (goal_reached f ≡ true) × AreItemsReached p.signature p.items g
