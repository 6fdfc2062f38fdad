-- What holds of names that get values one after another.
use Rattle.std.specs.Prelude.{ℕ, suc, ◌<◌, ◌≢◌, true, List, ◌≡◌, take, length}
use Rattle.ae_math.specs.Forms.{number as number_form}
use Rattle.ae_rules.specs.Linear.{form, is_number}
use Rattle.ae_num.specs.Forms.{meaning, SameMeaning}
use Rattle.ae_core.specs.declared.problems.Signature.{Signature}
use Rattle.ae_num.specs.declared.forms.Lin.{Lin}
use Rattle.ae_settled.specs.Valued.{AreValues}
use Rattle.ae_store.specs.declared.nodes.Node.{Node}
use Rattle.ae_store.specs.Shapes.{shapes}
use Rattle.ae_store.specs.Terms.{terms, named}
use Rattle.ae_store.specs.Stores.{IsStore}
use Rattle.ae_value_table.specs.declared.patterns.Entry.{Entry}
use Rattle.ae_value_fitting.specs.Fitting.{ArePatterns}
use Rattle.ae_patterns.specs.Patterns.{AreEntriesOf}
use Rattle.ae_entering.specs.Firsts.{system_by, AreFirst, IsNext}

abbrev pub EntriesFit : Type 0
EntriesFit = (sig : Signature) (nodes : List Node) (es : List Entry) → IsStore sig nodes → AreEntriesOf sig (terms (shapes nodes)) es → length es ≡ length (terms (shapes nodes))
    → ArePatterns sig (terms (shapes nodes)) es

-- the values of the first names, where they are those of a system of these names
abbrev pub ValuesAreFirst : Type 0
ValuesAreFirst = (sig : Signature) (nodes : List Node) (es : List Entry) (number : ℕ → Lin) (leaf : ℕ → ℕ) → IsStore sig nodes → AreEntriesOf sig (terms (shapes nodes)) es
    → AreValues sig (system_by (take (length es) (terms (shapes nodes))) es number leaf) → AreFirst sig (terms (shapes nodes)) (length es) number leaf

-- the values of all names
abbrev pub FirstsAreValues : Type 0
FirstsAreValues = (sig : Signature) (nodes : List Node) (es : List Entry) (number : ℕ → Lin) (leaf : ℕ → ℕ) → IsStore sig nodes → AreEntriesOf sig (terms (shapes nodes)) es
    → length es ≡ length (terms (shapes nodes)) → AreFirst sig (terms (shapes nodes)) (length (terms (shapes nodes))) number leaf → AreValues sig (system_by (terms (shapes nodes)) es number leaf)

-- a name whose linear form is a number, among the first
abbrev pub ConstantsHaveTheirNumber : Type 0
ConstantsHaveTheirNumber = (sig : Signature) (nodes : List Node) (n : ℕ) (number : ℕ → Lin) (leaf : ℕ → ℕ) → IsStore sig nodes → AreFirst sig (terms (shapes nodes)) n number leaf
    → (k : ℕ) → k < n → k < length nodes → is_number (form (named (terms (shapes nodes)) k)) ≡ true
    → SameMeaning (meaning (number k)) (number_form (form (named (terms (shapes nodes)) k)).constant)

-- the next name, where it gets what its term gives it and the others keep what they have
abbrev pub NextIsFirst : Type 0
NextIsFirst = (sig : Signature) (nodes : List Node) (n : ℕ) (number more : ℕ → Lin) (leaf leaves : ℕ → ℕ) → IsStore sig nodes → n < length nodes → ((k : ℕ) → k ≢ n → more k ≡ number k) → ((k : ℕ) → k ≢ n → leaves k ≡ leaf k)
    → AreFirst sig (terms (shapes nodes)) n number leaf → IsNext sig (terms (shapes nodes)) n number leaf (more n) (leaves n) → AreFirst sig (terms (shapes nodes)) (suc n) more leaves
