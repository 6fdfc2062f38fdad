-- What is computed at each form of value.
use Rattle.std.specs.Prelude.{ℕ, ◌&&◌, List, [], ◌∷◌, ◌≡◌, map}
use Rattle.std.specs.List.{flat_map, list_all}
use Rattle.std.proofs.Common.{refl, sym, ap, ◌∙◌}
use Rattle.std.proofs.Math.Bool.{and-true}
use Rattle.std.proofs.lemmas.List.Folds.{list_all-append, list_all-map}
use Rattle.ae_num.specs.declared.forms.Lin.{Lin}
use Rattle.ae_num.specs.declared.forms.Part.{Part}
use Rattle.ae_num.specs.declared.forms.Value.{Value, Value-F, Leaf, Number, Fields, fold-roll-Value, map-Value, roll-Value}
use Rattle.ae_num.specs.declared.forms.Value.TheOpen as layer
use Rattle.ae_num.specs.declared.forms.Value.TheVariants.{rolls-Leaf, rolls-Number, rolls-Fields}
use Rattle.ae_stategrammar.specs.Fitting.{names_in, names_step}
use Rattle.ae_counts.specs.Inner.Counted.{count_within, counts_within, form_counts, value_counts}

names-roll : (x : Value-F Value) → names_in (roll-Value x) ≡ names_step (map-Value Value (List ℕ) names_in x)
unfolding names_in
names-roll x = fold-roll-Value (List ℕ) names_step x

value-is : (v : Value) → value_counts v ≡ counts_within (names_in v)
unfolding value_counts
value-is v = refl

pub counts_leaf : (n : ℕ) → value_counts (Leaf n) ≡ count_within n
counts_leaf n = value-is (Leaf n) ∙ ap (λ v. counts_within (names_in v)) (sym (rolls-Leaf n)) ∙ ap counts_within (names-roll (layer.Leaf n)) ∙ and-true (count_within n)

pub counts_number : (f : Lin) → value_counts (Number f) ≡ form_counts f
counts_number f =
    value-is (Number f) ∙ ap (λ v. counts_within (names_in v)) (sym (rolls-Number f)) ∙ ap counts_within (names-roll (layer.Number f))
    ∙ list_all-map count_within (λ (q : Part). q.key) f.parts

fields_count : (vs : List Value) → counts_within (flat_map (λ w. w) (map names_in vs)) ≡ list_all value_counts vs
fields_count [] = refl
fields_count (v ∷ vs) =
    list_all-append count_within (names_in v) (flat_map (λ w. w) (map names_in vs)) ∙ (λ i. sym (value-is v) i && fields_count vs i)

pub counts_fields : (vs : List Value) → value_counts (Fields vs) ≡ list_all value_counts vs
counts_fields vs =
    value-is (Fields vs) ∙ ap (λ v. counts_within (names_in v)) (sym (rolls-Fields vs)) ∙ ap counts_within (names-roll (layer.Fields vs)) ∙ fields_count vs

pub ruleset value_rules = (counts_leaf, counts_number, counts_fields)

pub names_are : (v : Value) → value_counts v ≡ counts_within (names_in v)
names_are = value-is
