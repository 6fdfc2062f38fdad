-- Values whose forms are in the normal form and whose names have 64 bits have a text.
use Rattle.std.specs.Prelude.{ℕ, ◌≡◌, ◌<◌, ◌^◌, IsTrue, List, [], ◌∷◌, map}
use mathlib.Core.Path.{refl, subst}
use Rattle.std.specs.List.{AllByRecursion, flat_map}
use Rattle.ae_base.proofs.AllOf.{all_front, all_back}
use Rattle.ae_codes.specs.Closers.{Close, closers, round}
use Rattle.ae_journal.specs.Systems.{forms_in, forms_step, IsNormalValue}
use Rattle.ae_num.specs.Forms.{IsNormal}
use Rattle.ae_num.specs.declared.forms.Lin.{Lin}
use Rattle.ae_num.specs.declared.forms.Value.{Value, Value-F, roll-Value, map-Value, ind-Value, fold-roll-Value}
use Rattle.ae_num.specs.declared.forms.Value.TheOpen as layer
use Rattle.ae_stategrammar.specs.Fitting.{names_in, names_step}
use Rattle.ae_valuetext.proofs.NormalForms.{normal_stands}
use Rattle.ae_valuetext.specs.Lins.{lin_fits}
use Rattle.ae_valuetext.specs.Texts.{AreNames}
use Rattle.ae_valuetext.specs.Values.{InRow, value, leaf_has, number_has, fields_have}

abbrev Has : Value → Type 0
Has v = IsNormalValue v → AreNames (names_in v) → (k : Close) (e : ℕ) → IsTrue (closers k.one k.two e) → (value k).Fits (v, e)

abbrev Before : Type 0
Before = (v : Value) × Has v

abbrev value_of : Before → Value
value_of e = e.0

names_roll : (x : Value-F Value) → names_in (roll-Value x) ≡ names_step (map-Value Value (List ℕ) names_in x)
unfolding names_in
names_roll x = fold-roll-Value (List ℕ) names_step x

forms_roll : (x : Value-F Value) → forms_in (roll-Value x) ≡ forms_step (map-Value Value (List Lin) forms_in x)
unfolding forms_in
forms_roll x = fold-roll-Value (List Lin) forms_step x

each : (ys : List Before) → AllByRecursion IsNormal (flat_map (λ v. v) (map forms_in (map value_of ys))) → AreNames (flat_map (λ v. v) (map names_in (map value_of ys))) → AllByRecursion InRow (map value_of ys)
unfolding round
each [] n a = tt
each (y ∷ ys) n a =
    let here = all_front IsNormal (forms_in y.0) (flat_map (λ v. v) (map forms_in (map value_of ys))) n in
    let named = all_front (λ m. m < 2 ^ 64) (names_in y.0) (flat_map (λ v. v) (map names_in (map value_of ys))) a in (
      (y.1 here named round 32 refl, y.1 here named round 41 refl),
      each ys (all_back IsNormal (forms_in y.0) (flat_map (λ v. v) (map forms_in (map value_of ys))) n) (all_back (λ m. m < 2 ^ 64) (names_in y.0) (flat_map (λ v. v) (map names_in (map value_of ys))) a),
    )

layer_has : (y : Value-F Before) → Has (roll-Value (map-Value Before Value value_of y))
layer_has (layer.Leaf m) n a k e h = leaf_has k m e ((subst AreNames (names_roll (layer.Leaf m)) a).0) h
layer_has (layer.Number f) n a k e h =
    number_has k f e (lin_fits f (normal_stands f ((subst (AllByRecursion IsNormal) (forms_roll (layer.Number f)) n).0) (subst AreNames (names_roll (layer.Number f)) a))) h
layer_has (layer.Fields ys) n a k e h =
    fields_have k (map value_of ys) e (each ys (subst (AllByRecursion IsNormal) (forms_roll (layer.Fields (map value_of ys))) n) (subst AreNames (names_roll (layer.Fields (map value_of ys))) a)) h

pub normal_values_fit : (v : Value) → IsNormalValue v → AreNames (names_in v) → (k : Close) (e : ℕ) → IsTrue (closers k.one k.two e) → (value k).Fits (v, e)
normal_values_fit = ind-Value Has (λ x y e. subst (λ z. Has (roll-Value z)) e (layer_has y))
