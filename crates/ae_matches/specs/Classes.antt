-- What stands for all matches that are the same: their sorts, and the least names of the classes of their names.
use Rattle.std.specs.Prelude.{ℕ, ◌≡◌, ◌<◌, ◌≤◌, Bool, true, List, [], ◌∷◌}
use Rattle.std.specs.List.{list_any}
use Rattle.ae_core.specs.declared.terms.Sort.{Sort, Unit as UnitSort}
use Rattle.ae_store.specs.declared.nodes.NodeHead.TheVariants as node
use Rattle.ae_store.specs.declared.nodes.Shape.{Shape}
use Rattle.ae_trigger.specs.declared.patterns.Subst.{Subst}
use Rattle.ae_matches.specs.Answers.{is_same_match}

module _ (alike : ℕ → ℕ → Bool) (count : ℕ) where
  -- the least name below a number that is the same as this one
  pub record IsLeast (n r : ℕ) : Type 0 where
    pub within : r < count
    pub same : alike n r ≡ true
    pub least : (m : ℕ) → m < count → alike n m ≡ true → r ≤ m

  abbrev pub AreLeast : List ℕ → List ℕ → Type 0
  AreLeast [] [] = Unit {0}
  AreLeast [] (r ∷ rs) = ⊥
  AreLeast (n ∷ ns) [] = ⊥
  AreLeast (n ∷ ns) (r ∷ rs) = IsLeast n r × AreLeast ns rs

  abbrev pub class : List Sort → List ℕ → Shape
  class ss rs = record { head = node.Fresh 0; sorts = ss; args = rs; sort = UnitSort }

  abbrev pub IsClass : Subst → Shape → Type 0
  IsClass m x = (rs : List ℕ) × AreLeast m.terms rs × (x ≡ class m.sorts rs)

  -- what is kept, by what stands for it
  abbrev pub IsIndexed : (Shape → Bool) → List Subst → Type 0
  IsIndexed has found = (m : Subst) (x : Shape) → IsClass m x → has x ≡ list_any (is_same_match alike m) found
