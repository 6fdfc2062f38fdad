-- The items of a problem, of which some are goals.
use Rattle.std.specs.Prelude.{ℕ, get_or, ◌<◌, ◌≡◌, List, length, slice_get, Some, Option, None}
use Rattle.std.proofs.Common.{sym, ap, ◌∙◌}
use Rattle.std.proofs.lemmas.Option.{same_Some, slice_get-get_or}
use Rattle.ae_base.specs.Options.{◌>>=◌}
use Rattle.ae_core.specs.declared.formulas.Formula.{Formula}
use Rattle.ae_core.specs.declared.problems.Item.{Item}
use Rattle.ae_core.specs.declared.problems.Item.TheVariants.{Axiom, Goal}
use Rattle.ae_core.specs.declared.problems.Problem.{Problem}
use Rattle.ae_rules.specs.Derivations.{goal_body}

-- the item that was read at a place
pub item_at : (items slice : List Item) (k : ℕ) (found item : Item) → slice ≡ items → k < length items → found ≡ get_or slice k found → found ≡ item → slice_get items k ≡ Some item
item_at items slice k found item s lt is e = slice_get-get_or items k found lt ∙ ap Some (sym (is ∙ ap (λ xs. get_or xs k found) s) ∙ e)

pub axiom_is_no_goal : (items : List Item) (k : ℕ) (n : List ℕ) (v : ℕ) (f : Formula) (m : List ℕ) (w : ℕ) (h : Formula) → slice_get items k ≡ Some (Axiom n v f) → slice_get items k ≡ Some (Goal m w h) → ⊥
axiom_is_no_goal items k n v f m w h a b = let e : Axiom n v f ≡ Goal m w h = same_Some (Axiom n v f) (Goal m w h) (sym a ∙ b) in cc

-- the formula of a goal
pub body_of : (p : Problem) (k : ℕ) (n : List ℕ) (v : ℕ) (f : Formula) → slice_get p.items k ≡ Some (Goal n v f) → goal_body p k ≡ Some f
body_of p k n v f e = ap (λ (o : Option Item). o >>= λ i. elim i as (λ _. Option Formula) [ Axiom n v f ↦ None | Goal n v f ↦ Some f ]) e
