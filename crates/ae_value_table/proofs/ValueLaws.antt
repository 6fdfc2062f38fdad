-- The values of patterns, and when two are the same.
use Rattle.std.specs.Prelude.{ℕ, ◌≡◌, ◌↔◌, List, map, false, IsTrue}
use Rattle.std.proofs.Common.{sym, ap, ◌∙◌}
use Rattle.ae_base.proofs.Tests.{false_true}
use Rattle.ae_num.specs.declared.forms.Lin.{Lin}
use Rattle.ae_num.specs.declared.forms.Value.{Value, Value-F, out-Value}
use Rattle.ae_num.specs.declared.forms.Value as value
use Rattle.ae_num.specs.declared.forms.Value.TheOpen as value_shape
use Rattle.ae_num.specs.declared.forms.Value.TheVariants.{outs-Leaf, outs-Number, outs-Fields}
use Rattle.ae_value_table.specs.declared.patterns.Pattern.{Pattern, Number, Leaf, Fields, fold-roll-Pattern}
use Rattle.ae_value_table.specs.declared.patterns.Pattern.TheOpen as layer
use Rattle.ae_value_table.specs.declared.patterns.Pattern.TheVariants.{rolls-Leaf, rolls-Number, rolls-Fields}
use Rattle.ae_value_table.specs.Table.{value_by, value_layer}

-- ---- the value of each kind of pattern
module _ (number : ℕ → Lin) (leaf : ℕ → ℕ) where
  pub by-Number : (n : ℕ) → value_by number leaf (Number n) ≡ value.Number (number n)
  unfolding value_by
  by-Number n = ap (value_by number leaf) (sym (rolls-Number n)) ∙ fold-roll-Pattern Value (value_layer number leaf) (layer.Number n)

  pub by-Leaf : (n : ℕ) → value_by number leaf (Leaf n) ≡ value.Leaf (leaf n)
  unfolding value_by
  by-Leaf n = ap (value_by number leaf) (sym (rolls-Leaf n)) ∙ fold-roll-Pattern Value (value_layer number leaf) (layer.Leaf n)

  pub by-Fields : (n : ℕ) (ps : List Pattern) → value_by number leaf (Fields n ps) ≡ value.Fields (map (value_by number leaf) ps)
  unfolding value_by
  by-Fields n ps = ap (value_by number leaf) (sym (rolls-Fields n ps)) ∙ fold-roll-Pattern Value (value_layer number leaf) (layer.Fields n ps)

pub ruleset value_rules = (by-Number, by-Leaf, by-Fields)

-- ---- values of different kinds differ, and those of one kind have the same parts
pub number_leaf : (f : Lin) (n : ℕ) → value.Number f ≡ value.Leaf n → ⊥
number_leaf f n e = let z : ◌≡◌ {A = Value-F Value} (value_shape.Number f) (value_shape.Leaf n) = sym (outs-Number f) ∙ ap out-Value e ∙ outs-Leaf n in cc z

pub number_fields : (f : Lin) (vs : List Value) → value.Number f ≡ value.Fields vs → ⊥
number_fields f vs e = let z : ◌≡◌ {A = Value-F Value} (value_shape.Number f) (value_shape.Fields vs) = sym (outs-Number f) ∙ ap out-Value e ∙ outs-Fields vs in cc z

pub leaf_fields : (n : ℕ) (vs : List Value) → value.Leaf n ≡ value.Fields vs → ⊥
leaf_fields n vs e = let z : ◌≡◌ {A = Value-F Value} (value_shape.Leaf n) (value_shape.Fields vs) = sym (outs-Leaf n) ∙ ap out-Value e ∙ outs-Fields vs in cc z

pub same_numbers : (f g : Lin) → value.Number f ≡ value.Number g → f ≡ g
same_numbers f g e = let z : ◌≡◌ {A = Value-F Value} (value_shape.Number f) (value_shape.Number g) = sym (outs-Number f) ∙ ap out-Value e ∙ outs-Number g in cc z

pub same_leaves : (m n : ℕ) → value.Leaf m ≡ value.Leaf n → m ≡ n
same_leaves m n e = let z : ◌≡◌ {A = Value-F Value} (value_shape.Leaf m) (value_shape.Leaf n) = sym (outs-Leaf m) ∙ ap out-Value e ∙ outs-Leaf n in cc z

pub same_parts : (us vs : List Value) → value.Fields us ≡ value.Fields vs → us ≡ vs
same_parts us vs e = let z : ◌≡◌ {A = Value-F Value} (value_shape.Fields us) (value_shape.Fields vs) = sym (outs-Fields us) ∙ ap out-Value e ∙ outs-Fields vs in cc z

-- ---- answers
pub never : (P : Type 0) → (P → ⊥) → IsTrue false ↔ P
never P h = (λ t. absurd (false_true t), λ p. absurd (h p))

-- an answer for parts, as one for what is made of them
pub as_whole : (b : _) (P Q : Type 0) → (P → Q) → (Q → P) → IsTrue b ↔ P → IsTrue b ↔ Q
as_whole b P Q f g h = (λ t. f (h.0 t), λ q. h.1 (g q))

module _ (number : ℕ → Lin) (leaf : ℕ → ℕ) where
  abbrev V : Pattern → Value
  V = value_by number leaf

  -- the value of a number, compared with that of a pattern
  pub number_number : (m n : ℕ) (b : _) → IsTrue b ↔ (number m ≡ number n) → IsTrue b ↔ (value.Number (number m) ≡ V (Number n))
  number_number m n b h = as_whole b (number m ≡ number n) (value.Number (number m) ≡ V (Number n)) (λ e. ap value.Number e ∙ sym (by-Number number leaf n)) (λ e. same_numbers (number m) (number n) (e ∙ by-Number number leaf n)) h

  pub number_not_leaf : (m n : ℕ) → IsTrue false ↔ (value.Number (number m) ≡ V (Leaf n))
  number_not_leaf m n = never (value.Number (number m) ≡ V (Leaf n)) (λ e. number_leaf (number m) (leaf n) (e ∙ by-Leaf number leaf n))

  pub number_not_fields : (m n : ℕ) (ps : List Pattern) → IsTrue false ↔ (value.Number (number m) ≡ V (Fields n ps))
  number_not_fields m n ps = never (value.Number (number m) ≡ V (Fields n ps)) (λ e. number_fields (number m) (map V ps) (e ∙ by-Fields number leaf n ps))

  pub leaf_leaf : (m n : ℕ) (b : _) → IsTrue b ↔ (leaf m ≡ leaf n) → IsTrue b ↔ (value.Leaf (leaf m) ≡ V (Leaf n))
  leaf_leaf m n b h = as_whole b (leaf m ≡ leaf n) (value.Leaf (leaf m) ≡ V (Leaf n)) (λ e. ap value.Leaf e ∙ sym (by-Leaf number leaf n)) (λ e. same_leaves (leaf m) (leaf n) (e ∙ by-Leaf number leaf n)) h

  pub leaf_not_number : (m n : ℕ) → IsTrue false ↔ (value.Leaf (leaf m) ≡ V (Number n))
  leaf_not_number m n = never (value.Leaf (leaf m) ≡ V (Number n)) (λ e. number_leaf (number n) (leaf m) (sym (e ∙ by-Number number leaf n)))

  pub leaf_not_fields : (m n : ℕ) (ps : List Pattern) → IsTrue false ↔ (value.Leaf (leaf m) ≡ V (Fields n ps))
  leaf_not_fields m n ps = never (value.Leaf (leaf m) ≡ V (Fields n ps)) (λ e. leaf_fields (leaf m) (map V ps) (e ∙ by-Fields number leaf n ps))

  -- two patterns
  pub of_number : (m : ℕ) (q : Pattern) (b : _) → IsTrue b ↔ (value.Number (number m) ≡ V q) → IsTrue b ↔ (V (Number m) ≡ V q)
  of_number m q b h = as_whole b (value.Number (number m) ≡ V q) (V (Number m) ≡ V q) (λ e. by-Number number leaf m ∙ e) (λ e. sym (by-Number number leaf m) ∙ e) h

  pub of_leaf : (m : ℕ) (q : Pattern) (b : _) → IsTrue b ↔ (value.Leaf (leaf m) ≡ V q) → IsTrue b ↔ (V (Leaf m) ≡ V q)
  of_leaf m q b h = as_whole b (value.Leaf (leaf m) ≡ V q) (V (Leaf m) ≡ V q) (λ e. by-Leaf number leaf m ∙ e) (λ e. sym (by-Leaf number leaf m) ∙ e) h

  pub fields_not_number : (m n : ℕ) (ps : List Pattern) → IsTrue false ↔ (V (Fields m ps) ≡ V (Number n))
  fields_not_number m n ps = never (V (Fields m ps) ≡ V (Number n)) (λ e. number_fields (number n) (map V ps) (sym (sym (by-Fields number leaf m ps) ∙ e ∙ by-Number number leaf n)))

  pub fields_not_leaf : (m n : ℕ) (ps : List Pattern) → IsTrue false ↔ (V (Fields m ps) ≡ V (Leaf n))
  fields_not_leaf m n ps = never (V (Fields m ps) ≡ V (Leaf n)) (λ e. leaf_fields (leaf n) (map V ps) (sym (sym (by-Fields number leaf m ps) ∙ e ∙ by-Leaf number leaf n)))

  pub fields_fields : (m n : ℕ) (ps qs : List Pattern) (b : _) → IsTrue b ↔ (map V ps ≡ map V qs) → IsTrue b ↔ (V (Fields m ps) ≡ V (Fields n qs))
  fields_fields m n ps qs b h =
      as_whole b (map V ps ≡ map V qs) (V (Fields m ps) ≡ V (Fields n qs)) (λ e. by-Fields number leaf m ps ∙ ap value.Fields e ∙ sym (by-Fields number leaf n qs))
      (λ e. same_parts (map V ps) (map V qs) (sym (by-Fields number leaf m ps) ∙ e ∙ by-Fields number leaf n qs)) h
