-- The names of an expression are names of the text.
use Rattle.std.specs.Prelude.{ℕ, List}
use Rattle.std.specs.List.{AllByRecursion}
use Rattle.ae_syntax.specs.declared.exprs.Expr.{Expr}
use Rattle.ae_syntax.specs.declared.exprs.Setting.{Setting}
use Rattle.ae_syntax.specs.declared.exprs.Trigger.{Trigger}
use Rattle.ae_syntax.specs.declared.exprs.Group.{Group}
use Rattle.ae_elab.specs.Names.{IsName, names_in, names_in_set, names_in_trigger, names_in_group}

abbrev pub AreNamed : List ℕ → Expr → Type 0
AreNamed text e = AllByRecursion (IsName text) (names_in e)

-- those of fields' values, of triggers, and of a block's groups
abbrev pub AreSetNamed : List ℕ → Setting → Type 0
AreSetNamed text s = AllByRecursion (IsName text) (names_in_set s)

abbrev pub AreTriggerNamed : List ℕ → Trigger → Type 0
AreTriggerNamed text t = AllByRecursion (IsName text) (names_in_trigger t)

abbrev pub AreGroupNamed : List ℕ → Group → Type 0
AreGroupNamed text g = AllByRecursion (IsName text) (names_in_group g)
