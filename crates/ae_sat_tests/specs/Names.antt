-- Clauses whose terms have names.
use Rattle.std.specs.List.{Contains}
use Rattle.ae_rules.specs.Clauses.{Clause}
use Rattle.ae_core.specs.declared.formulas.Lit.{Lit}
use Rattle.ae_store.specs.Stores.{Stored}
use Rattle.ae_theory.specs.Names.{AreNamed}

abbrev pub IsNamed : Stored → Clause → Type 0
IsNamed s c = (l : Lit) → Contains c l → AreNamed s l.formula
