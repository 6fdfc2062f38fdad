-- How values are spelled, case by case.
use Rattle.std.proofs.Common.{ℕ, List, [], ◌∷◌, ◌++◌, ◌≡◌, map, decimal, codes, sym, ap, ◌∙◌, refl}
use Rattle.std.specs.List.{flat_map}
use Rattle.ae_num.specs.declared.forms.Lin.{Lin}
use Rattle.ae_num.specs.declared.forms.Value.{Value, fold-roll-Value}
use Rattle.ae_num.specs.declared.forms.Value.TheOpen as layer
use Rattle.ae_num.specs.declared.forms.Value.TheVariants.{Leaf, Number, Fields, rolls-Leaf, rolls-Number, rolls-Fields}
use Rattle.ae_valuetext.specs.Texts.{lin_text, value_step, value_text}

pub text_leaf : (n : ℕ) → value_text (Leaf n) ≡ decimal n
unfolding value_text
text_leaf n = ap value_text (sym (rolls-Leaf n)) ∙ fold-roll-Value (List ℕ) value_step (layer.Leaf n)

pub text_number : (f : Lin) → value_text (Number f) ≡ lin_text f
unfolding value_text
text_number f = ap value_text (sym (rolls-Number f)) ∙ fold-roll-Value (List ℕ) value_step (layer.Number f)

spaced : (vs : List Value) → flat_map (λ w. codes " " ++ w) (map value_text vs) ≡ flat_map (λ v. codes " " ++ value_text v) vs
spaced [] = refl
spaced (v ∷ vs) = ap (λ z. (codes " " ++ value_text v) ++ z) (spaced vs)

pub text_fields : (vs : List Value) → value_text (Fields vs) ≡ codes "(:" ++ flat_map (λ v. codes " " ++ value_text v) vs ++ codes ")"
unfolding value_text
text_fields vs =
    ap value_text (sym (rolls-Fields vs)) ∙ fold-roll-Value (List ℕ) value_step (layer.Fields vs)
    ∙ ap (λ z. codes "(:" ++ z ++ codes ")") (spaced vs)

pub ruleset value_rules = (text_leaf, text_number)
