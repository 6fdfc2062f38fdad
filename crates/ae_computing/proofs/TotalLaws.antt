-- Steps of the loops over the numbers of values.
use Rattle.std.proofs.Common.{drop, get_or}
use Rattle.std.proofs.lemmas.List.{drop_more, drop_all}
use Rattle.std.specs.List.{list_all}
use Rattle.std.specs.Prelude.{true, ◌&&◌, ℕ, ℤ, ◌+◌, ◌<◌, ◌≤◌, ◌≡◌, ◌≢◌, List, map, length}
use mathlib.Core.Path.{sym, ap, ◌∙◌}
use native.Mathlib.Decide.{ℕ_discrete}
use Rattle.ae_base.proofs.Decided.{pick_yes, pick_no}
use Rattle.ae_math.specs.Fractions.{ℚ, ratio, ◌+ℚ◌, ◌*ℚ◌}
use Rattle.ae_math.proofs.FractionLaws.{add_assoc_q, add_zero_q}
use Rattle.ae_journal.specs.Values.{leaf_factor}
use Rattle.ae_num.specs.declared.forms.Part.{Part}
use Rattle.ae_num.specs.declared.forms.Value.{Value}
use Rattle.ae_naturals.specs.Fractions.{value_of}
use Rattle.ae_computing.specs.Inner.Totals.{summand, coefficient, total, is_number, agrees_at, agrees_on, agrees_on_each, agrees_on_summand, is_total}
use Rattle.ae_computing.specs.declared.values.Place.{Place}
use Rattle.ae_computing.specs.declared.values.Place.TheVariants.{Constant}
use Rattle.ae_computing.specs.declared.values.Summand.{Summand}
use Rattle.std.proofs.lemmas.List.Folds.{list_all-map}

abbrev pub parts_over : ℤ → List Part → List (ℕ × ℚ)
parts_over den ps = map (λ p. (p.key, ratio p.factor den)) ps

pub leaf_there : (k : ℕ) (den : ℤ) (ps : List Part) (i : ℕ) (d : Part) (s : ℚ) → i < length ps → (get_or ps i d).key ≡ k
    → (s +ℚ ratio (get_or ps i d).factor den) +ℚ leaf_factor (parts_over den (drop (i + 1) ps)) k
    ≡ s +ℚ leaf_factor (parts_over den (drop i ps)) k
leaf_there k den ps i d s h e =
    let p = get_or ps i d in
    let rest = leaf_factor (parts_over den (drop (i + 1) ps)) k in
    add_assoc_q s (ratio p.factor den) rest
    ∙ ap (λ x. s +ℚ x) (sym (pick_yes (ℕ_discrete p.key k) (ratio p.factor den +ℚ rest) rest e))
    ∙ (λ j. s +ℚ leaf_factor (parts_over den (sym (drop_more ps i d h) j)) k)

pub leaf_elsewhere : (k : ℕ) (den : ℤ) (ps : List Part) (i : ℕ) (d : Part) → i < length ps → (get_or ps i d).key ≢ k
    → leaf_factor (parts_over den (drop (i + 1) ps)) k ≡ leaf_factor (parts_over den (drop i ps)) k
leaf_elsewhere k den ps i d h n =
    let p = get_or ps i d in
    let rest = leaf_factor (parts_over den (drop (i + 1) ps)) k in
    sym (pick_no (ℕ_discrete p.key k) (ratio p.factor den +ℚ rest) rest n)
    ∙ (λ j. leaf_factor (parts_over den (sym (drop_more ps i d h) j)) k)

pub total_step : (p : Place) (ss : List Summand) (i : ℕ) (d : Summand) (s : ℚ) → i < length ss
    → (s +ℚ value_of (get_or ss i d).factor *ℚ coefficient p (get_or ss i d).value.now) +ℚ total (map summand (drop (i + 1) ss)) p
    ≡ s +ℚ total (map summand (drop i ss)) p
total_step p ss i d s h =
    let m = get_or ss i d in
    add_assoc_q s (value_of m.factor *ℚ coefficient p m.value.now) (total (map summand (drop (i + 1) ss)) p)
    ∙ (λ j. s +ℚ total (map summand (sym (drop_more ss i d h) j)) p)

pub no_leaf_left : (k : ℕ) (den : ℤ) (ps : List Part) (i : ℕ) (s : ℚ) → length ps ≤ i → s ≡ s +ℚ leaf_factor (parts_over den (drop i ps)) k
no_leaf_left k den ps i s h = sym (add_zero_q s) ∙ (λ j. s +ℚ leaf_factor (parts_over den (sym (drop_all i ps h) j)) k)

pub none_total_left : (p : Place) (ss : List Summand) (i : ℕ) (s : ℚ) → length ss ≤ i → s ≡ s +ℚ total (map summand (drop i ss)) p
none_total_left p ss i s h = sym (add_zero_q s) ∙ (λ j. s +ℚ total (map summand (sym (drop_all i ss h) j)) p)

-- ---- the tests of a sum, one after another
pub by_tests : (v : Value) (ss : List Summand) → is_number v ≡ true → agrees_at v (map summand ss) Constant ≡ true → agrees_on v (map summand ss) v ≡ true
    → list_all (agrees_on_summand v (map summand ss)) ss ≡ is_total v (map summand ss)
by_tests v ss a b c =
    let ts = map summand ss in
    sym (list_all-map (λ s. agrees_on v ts s.1) summand ss)
    ∙ (λ i. sym a i && (sym b i && (sym c i && agrees_on_each v ts ts)))
