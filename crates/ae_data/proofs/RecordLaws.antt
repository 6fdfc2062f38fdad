-- Values of records: their fields, and what an equation of two of them says.
use Rattle.std.specs.Prelude.{ℕ, List, [], ◌∷◌, ◌≡◌, ◌↔◌, map}
use Rattle.std.specs.List.{AllByRecursion}
use Rattle.std.proofs.Common.{refl, sym, ap, ◌∙◌}
use Rattle.ae_num.specs.declared.forms.Lin.{Lin}
use Rattle.ae_num.specs.declared.forms.Value.{Value, Leaf, Number, Fields, fold-roll-Value}
use Rattle.ae_num.specs.declared.forms.Value.TheOpen as layer
use Rattle.ae_num.specs.declared.forms.Value.TheVariants.{outs-Leaf, outs-Number, outs-Fields, rolls-Fields}
use Rattle.ae_data.specs.declared.records.ValuePair.{ValuePair}
use Rattle.ae_data.specs.Records.{fields_step, fields, lefts, rights, Reading, read_step, read}

pub fields_listed : (vs : List Value) → fields (Fields vs) ≡ vs
unfolding fields
fields_listed vs = ap fields_step (outs-Fields vs)

pub fields_leaf : (n : ℕ) → fields (Leaf n) ≡ []
unfolding fields
fields_leaf n = ap fields_step (outs-Leaf n)

pub fields_number : (f : Lin) → fields (Number f) ≡ []
unfolding fields
fields_number f = ap fields_step (outs-Number f)

pub fields_are : (v : Value) (vs : List Value) → v ≡ Fields vs → fields v ≡ vs
fields_are v vs e = ap fields e ∙ fields_listed vs

module _ {V : Type 0} (way : Reading V) where
  read_fields : (vs : List Value) → read way (Fields vs) ≡ way.record_of (map (read way) vs)
  unfolding read
  read_fields vs = ap (read way) (sym (rolls-Fields vs)) ∙ fold-roll-Value V (read_step way) (layer.Fields vs)

  each_alike : (ps : List ValuePair) → map (read way) (lefts ps) ≡ map (read way) (rights ps) → AllByRecursion (λ p. read way p.left ≡ read way p.right) ps
  each_alike [] e = tt
  each_alike (p ∷ ps) e =
      let head : read way p.left ≡ read way p.right = cc e in
      let rest : map (read way) (lefts ps) ≡ map (read way) (rights ps) = cc e in
      (head, each_alike ps rest)

  all_alike : (ps : List ValuePair) → AllByRecursion (λ p. read way p.left ≡ read way p.right) ps → map (read way) (lefts ps) ≡ map (read way) (rights ps)
  all_alike [] h = refl
  all_alike (p ∷ ps) h = λ i. h.0 i ∷ all_alike ps h.1 i

  pub equation_is : (ps : List ValuePair) → (read way (Fields (lefts ps)) ≡ read way (Fields (rights ps))) ↔ AllByRecursion (λ p. read way p.left ≡ read way p.right) ps
  equation_is ps = (
    λ e. each_alike ps (way.told (map (read way) (lefts ps)) (map (read way) (rights ps)) (sym (read_fields (lefts ps)) ∙ e ∙ read_fields (rights ps))),
    λ h. read_fields (lefts ps) ∙ ap way.record_of (all_alike ps h) ∙ sym (read_fields (rights ps)),
  )
