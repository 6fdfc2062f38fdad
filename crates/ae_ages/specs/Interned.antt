-- Terms entered at a generation, and formulas brought at one.
use Rattle.std.specs.Prelude.{ℕ, ◌≤◌, List, ◌⊎◌}
use Rattle.std.specs.List.{Contains}
use Rattle.ae_core.specs.declared.formulas.Formula.{Formula}
use Rattle.ae_core.specs.declared.terms.Term.{Term}
use Rattle.ae_goal_names.specs.Named.{HasNamed, StandsIn}
use Rattle.ae_journal.specs.States.{outside}
use Rattle.ae_owed.specs.Known.{IsYoung}
use Rattle.ae_store.specs.Stores.{Stored}
use Rattle.ae_ages.specs.Ages.{HasAge, AreAged, quantified}
use Rattle.ae_ages.specs.declared.entries.Aged.{Aged}

-- the terms have names and are known at g; what is known besides, at g or later, stands in them
pub record IsInterned (g : ℕ) (old new : Stored) (ts : List Term) : Type 0 where
  pub named : HasNamed old new ts
  pub kept : (n : ℕ) (t : Term) → IsYoung old n t → IsYoung new n t
  pub young : (t : Term) → Contains ts t → IsYoung new g t
  pub only : (n : ℕ) (t : Term) → IsYoung new n t → IsYoung old n t ⊎ ((g ≤ n) × StandsIn old.signature ts t)

-- so are the terms of a formula outside quantified parts, and its quantified parts got a generation of at most g
pub record IsBrought (g : ℕ) (old : Stored) (es : List Aged) (new : Stored) (fs : List Aged) (f : Formula) : Type 0 where
  pub terms : IsInterned g old new (outside f)
  pub formulas : AreAged g es fs (quantified f)

-- the terms of a formula are known at n, and its quantified parts have that generation
pub record IsHad (s : Stored) (es : List Aged) (n : ℕ) (f : Formula) : Type 0 where
  pub terms : (t : Term) → Contains (outside f) t → IsYoung s n t
  pub formulas : (h : Formula) → Contains (quantified f) h → HasAge es n h
