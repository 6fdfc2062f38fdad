-- Conjunctions that grow at their end.
use Rattle.std.specs.Prelude.{List, Option, Some, None}
use Rattle.ae_core.specs.declared.formulas.Formula.{Formula}
use Rattle.ae_elab.specs.Elaboration.{all_after, all_true}

-- a conjunction, if there is one so far, and then more formulas
abbrev pub all_with : Option Formula → List Formula → Formula
all_with None fs = all_true fs
all_with (Some f) fs = all_after f fs
