use Rattle.ae_store.specs.Shapes.{shapes}
use Rattle.ae_store.specs.Terms.{terms}
use Rattle.ae_name_lines.proofs.Stores.{stores_are_closed}
use Rattle.ae_new_widths.proofs.OpaqueNames.{opaque_free, opaque_own}
use Rattle.ae_new_widths.proofs.laws.opaque_names_are_free.Goals as goal

pub returns : goal.returns
returns c sig nodes n t store at q = (opaque_free (terms (shapes nodes)) n t at q, opaque_own sig nodes store (stores_are_closed sig nodes store) n t at q)
