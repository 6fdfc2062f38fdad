-- The numbers of values.
use Rattle.std.specs.Prelude.{ℕ, suc, ◌≡◌, ◌%◌, true, false, List, [], ◌∷◌, length, map, nat_eq, slice_get, get_or}
use Rattle.std.proofs.Common.{sym, ap, ◌∙◌, arith}
use Rattle.ae_base.specs.Options.{or_else}
use Rattle.std.proofs.lemmas.Bool.{eqb-true}
use Rattle.ae_num.specs.declared.forms.Lin.{Lin}
use Rattle.ae_num.specs.declared.forms.Value.{Value, Leaf, Number, Fields, fold-roll-Value}
use Rattle.ae_num.specs.declared.forms.Value.TheOpen as layer
use Rattle.ae_num.specs.declared.forms.Value.TheVariants.{rolls-Leaf, rolls-Number, rolls-Fields}
use Rattle.ae_value_table.specs.declared.patterns.Pattern.{Pattern, Number as NumberPattern, Leaf as LeafPattern, Fields as FieldsPattern}
use Rattle.ae_value_table.specs.Table.{Contents, number_at, leaf_at, value_in}
use Rattle.ae_value_table.proofs.ValueLaws.{by-Number, by-Leaf, by-Fields}
use Rattle.ae_least_names.specs.Keys.{form_key, key_layer, value_key}

pub of-Leaf : (n : ℕ) → value_key (Leaf n) ≡ n % 65536
unfolding value_key
of-Leaf n = ap value_key (sym (rolls-Leaf n)) ∙ fold-roll-Value ℕ key_layer (layer.Leaf n)

pub of-Number : (f : Lin) → value_key (Number f) ≡ form_key f
unfolding value_key
of-Number f = ap value_key (sym (rolls-Number f)) ∙ fold-roll-Value ℕ key_layer (layer.Number f)

pub of-Fields : (vs : List Value) → value_key (Fields vs) ≡ or_else (slice_get (map value_key vs) 0) 0
unfolding value_key
of-Fields vs = ap value_key (sym (rolls-Fields vs)) ∙ fold-roll-Value ℕ key_layer (layer.Fields vs)

module _ (c : Contents) where
  pub key-Number : (n : ℕ) → value_key (value_in c (NumberPattern n)) ≡ form_key (number_at c n)
  key-Number n = ap value_key (by-Number (number_at c) (leaf_at c) n) ∙ of-Number (number_at c n)

  pub key-Leaf : (n : ℕ) → value_key (value_in c (LeafPattern n)) ≡ leaf_at c n % 65536
  key-Leaf n = ap value_key (by-Leaf (number_at c) (leaf_at c) n) ∙ of-Leaf (leaf_at c n)

  pub key-Fields : (n : ℕ) (ps : List Pattern) → value_key (value_in c (FieldsPattern n ps)) ≡ or_else (slice_get (map value_key (map (value_in c) ps)) 0) 0
  key-Fields n ps = ap value_key (by-Fields (number_at c) (leaf_at c) n ps) ∙ of-Fields (map (value_in c) ps)

  -- a record's value
  pub key_empty : (n : ℕ) (ps qs : List Pattern) (p : Pattern) → p ≡ FieldsPattern n ps → qs ≡ ps → nat_eq (length qs) 0 ≡ true → 0 ≡ value_key (value_in c p)
  key_empty n ps (q ∷ qs) p is e t = let z : suc (length qs) ≡ 0 = eqb-true (length (q ∷ qs)) 0 t in absurd (omega (arith, z))
  key_empty n ps [] p is e t = sym (ap (λ x. value_key (value_in c x)) is ∙ key-Fields n ps ∙ ap (λ rs. or_else (slice_get (map value_key (map (value_in c) rs)) 0) 0) (sym e))

  pub key_first : (n : ℕ) (ps qs : List Pattern) (p d r : Pattern) → p ≡ FieldsPattern n ps → qs ≡ ps → nat_eq (length qs) 0 ≡ false → r ≡ get_or qs 0 d → value_key (value_in c r) ≡ value_key (value_in c p)
  key_first n ps [] p d r is e f g = absurd cc
  key_first n ps (q ∷ qs) p d r is e f g =
      ap (λ x. value_key (value_in c x)) g
      ∙ sym (ap (λ x. value_key (value_in c x)) is ∙ key-Fields n ps ∙ ap (λ rs. or_else (slice_get (map value_key (map (value_in c) rs)) 0) 0) (sym e))

pub ruleset key_rules = (key-Number, key-Leaf, key-Fields)
