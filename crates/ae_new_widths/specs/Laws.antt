-- The laws, as statements.
use Rattle.std.specs.Prelude.{ℕ, ◌≤◌, true, List, ◌≡◌, take, length, slice_get, Some}
use Rattle.ae_core.specs.declared.terms.Term.{Term}
use Rattle.ae_core.specs.declared.problems.Signature.{Signature}
use Rattle.ae_journal.specs.Journals.{live}
use Rattle.ae_journal.specs.Licences.{IsLicensed}
use Rattle.ae_journal.specs.Standing.{Setting}
use Rattle.ae_journal.specs.declared.answers.WideAt.{WideAt}
use Rattle.ae_journal.specs.declared.lines.Line.{Line}
use Rattle.ae_store.specs.declared.nodes.Node.{Node}
use Rattle.ae_store.specs.Shapes.{shapes}
use Rattle.ae_store.specs.Stores.{Stored, IsStore}
use Rattle.ae_store.specs.Terms.{terms}
use Rattle.ae_strips.specs.Stripping.{StripsTo}
use Rattle.ae_theory.specs.Names.{IsNamedBy, terms_in}
use Rattle.ae_name_lines.specs.Closed.{AreClosed}
use Rattle.ae_name_lines.specs.InStep.{AreLineValues, SolvesBelow, is_opaque}
use Rattle.ae_patterns.specs.Patterns.{AreEntriesOf}
use Rattle.ae_value_table.specs.Table.{Contents, values}
use Rattle.ae_take_in.specs.Computing.{IsComputed}
use Rattle.ae_take_in.specs.TakingWidths.{IsTakingWidth}

-- a name whose term nothing computes
abbrev pub OpaqueNamesAreFree : Type 0
OpaqueNamesAreFree = (sig : Signature) (nodes : List Node) (n : ℕ) (t : Term) → IsStore sig nodes → slice_get (terms (shapes nodes)) n ≡ Some t → is_opaque t ≡ true
    → (IsComputed (terms (shapes nodes)) n → ⊥) × StripsTo (terms (shapes nodes)) n n

-- a step on the numbers of a new name's operands, where the old names' values are in step with a journal that the store names
abbrev pub TakingWidthsAreLicensed : Type 0
TakingWidthsAreLicensed = (x : Setting) (s : Stored) (js : List Line) (c : Contents) (wide : WideAt) → IsNamedBy x s js → IsStore s.signature s.nodes → AreEntriesOf s.signature (terms_in s) c.entries
    → c.taken ≤ length c.entries → AreClosed s.signature (take c.taken (terms_in s)) → AreLineValues s.signature (take c.taken (terms_in s)) (values c) (live js) → SolvesBelow c.taken (live js)
    → IsTakingWidth s.signature (terms_in s) c wide → IsLicensed x js wide
