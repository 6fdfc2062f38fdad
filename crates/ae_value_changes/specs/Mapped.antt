-- Values in which each number and each leaf is mapped, those inside records too.
use Rattle.std.specs.Prelude.{ℕ, ◌≡◌, ◌≢◌, true, map}
use Rattle.std.specs.List.{AllByRecursion}
use native.Mathlib.Decide.{ℕ_discrete}
use Rattle.ae_math.specs.Forms.{substitute}
use Rattle.ae_core.specs.Sorts.{is_numeric}
use Rattle.ae_core.specs.declared.terms.Sort.{Sort}
use Rattle.ae_num.specs.Forms.{meaning, SameMeaning, IsNormal}
use Rattle.ae_num.specs.declared.forms.Lin.{Lin}
use Rattle.ae_num.specs.declared.forms.Value.{Value, Value-F, Leaf, Number, Fields, fold-Value}
use Rattle.ae_num.specs.declared.forms.Value.TheOpen as layer
use Rattle.ae_store.specs.Stores.{IsStore}
use Rattle.ae_settled.specs.Held.{Held, system_of}
use Rattle.ae_settled.specs.Valued.{AreValues, IsOwnNumber, IsOwnLeaf}
use Rattle.ae_value_changes.specs.Put.{with_values, put_leaf}

abbrev pub mapped_layer : (Lin → Lin) → (ℕ → ℕ) → Value-F Value → Value
mapped_layer number leaf (layer.Leaf n) = Leaf (leaf n)
mapped_layer number leaf (layer.Number f) = Number (number f)
mapped_layer number leaf (layer.Fields vs) = Fields vs

-- the value with each number and each leaf mapped
unfoldable pub mapped : (Lin → Lin) → (ℕ → ℕ) → Value → Value
mapped number leaf = fold-Value Value (mapped_layer number leaf)

abbrev pub all_mapped : (Lin → Lin) → (ℕ → ℕ) → Held → Held
all_mapped number leaf x = with_values x (map (mapped number leaf) x.values)

-- `number` puts the number q for the name, and answers the normal form
abbrev pub IsPutting : (Lin → Lin) → ℕ → Lin → Type 0
IsPutting number name q = (f : Lin) → IsNormal f → IsNormal (number f) × SameMeaning (meaning (number f)) (substitute ℕ_discrete (meaning f) name (meaning q))

abbrev pub NumbersMapped : Type 0
NumbersMapped = (x : Held) (s : Sort) (name : ℕ) (q : Lin) (number : Lin → Lin) → IsStore x.signature x.nodes → AreValues x.signature (system_of x) → IsOwnNumber x.signature (system_of x) s name → is_numeric s ≡ true → IsNormal q
    → AllByRecursion (λ p. IsOwnNumber x.signature (system_of x) s p.key) q.parts → AllByRecursion (λ p. p.key ≢ name) q.parts → IsPutting number name q
    → AreValues x.signature (system_of (all_mapped number (λ k. k) x))

abbrev pub LeavesMapped : Type 0
LeavesMapped = (x : Held) (s : Sort) (name m : ℕ) → IsStore x.signature x.nodes → AreValues x.signature (system_of x) → IsOwnLeaf x.signature (system_of x) s name → IsOwnLeaf x.signature (system_of x) s m → m ≢ name
    → AreValues x.signature (system_of (all_mapped (λ f. f) (put_leaf name m) x))
