-- A value has one normal form.
use Rattle.std.specs.Prelude.{ℕ, ℤ, pos, ◌<◌, ◌<ℤ◌, false, cond, ◌≡◌, ◌≢◌, List, [], ◌∷◌, map}
use Rattle.std.specs.List.{AllByRecursion, flat_map}
use Rattle.std.proofs.lemmas.Bool.Decides.{nat_tests}
use mathlib.Core.Path.{refl, sym, ap, subst, ◌∙◌}
use native.Mathlib.Omega.{arith}
use Rattle.ae_base.proofs.AllOf.{all_front, all_back}
use Rattle.ae_math.specs.Fractions.{ℚ, ratio}
use Rattle.ae_math.specs.Forms.{is_zero}
use Rattle.ae_math.proofs.FormLaws.{is_zero_no}
use Rattle.ae_math.proofs.Wholes.{ratio_is_zero}
use Rattle.ae_num.specs.Forms.{IsNormal, IsRising, AllAbove, SameMeaning, meaning as form_of}
use Rattle.ae_num.specs.declared.forms.Lin.{Lin}
use Rattle.ae_num.specs.declared.forms.Part.{Part}
use Rattle.ae_num.specs.declared.forms.Value.{Value, Value-F, fold-roll-Value, ind-Value, map-Value, roll-Value, out-Value, roll-out-Value}
use Rattle.ae_num.specs.declared.forms.Value.TheOpen as layer
use Rattle.ae_num.proofs.UniqueLaws.{unique}
use Rattle.ae_journal.specs.Values.{Val, vals, meaning, meaning_step, sum_of_lin, settled, put_part, enter}
use Rattle.ae_journal.specs.Systems.{IsNormalValue, forms_in, forms_step}

pub meaning-roll : (x : Value-F Value) → meaning (roll-Value x) ≡ meaning_step (map-Value Value Val meaning x)
unfolding meaning
meaning-roll x = fold-roll-Value Val meaning_step x

pub forms-roll : (x : Value-F Value) → forms_in (roll-Value x) ≡ forms_step (map-Value Value (List Lin) forms_in x)
unfolding forms_in
forms-roll x = fold-roll-Value (List Lin) forms_step x

-- ---- the sum of a normal form is in its one spelling
abbrev parts_over : ℤ → List Part → List (ℕ × ℚ)
parts_over d ps = map (λ (p : Part). (p.key, ratio p.factor d)) ps

entered : (k : ℕ) (x : ℚ) (d : ℤ) (ps : List Part) → AllAbove k ps → is_zero x ≡ false → enter k x (parts_over d ps) ≡ (k, x) ∷ parts_over d ps
entered k x d [] a z = ap (λ b. cond b [] ((k, x) ∷ [])) z
entered k x d (p ∷ ps) a z =
    let h : k < p.key = a.0 in
    let e : enter k x (parts_over d (p ∷ ps)) ≡ put_part k x (parts_over d (p ∷ ps)) = grind (arith, nat_tests) in
    e ∙ ap (λ b. cond b (parts_over d (p ∷ ps)) ((k, x) ∷ parts_over d (p ∷ ps))) z

settles : (d : ℤ) (ps : List Part) → pos 0 <ℤ d → IsRising ps → AllByRecursion (λ p. p.factor ≢ pos 0) ps → settled (parts_over d ps) ≡ parts_over d ps
settles d [] h r n = refl
settles d (p ∷ ps) h r n =
    ap (enter p.key (ratio p.factor d)) (settles d ps h r.1 n.1)
    ∙ entered p.key (ratio p.factor d) d ps r.0 (is_zero_no (ratio p.factor d) (λ e. n.0 (ratio_is_zero p.factor d h e)))

pub spelled : (f : Lin) → IsNormal f → sum_of_lin f ≡ form_of f
spelled f n = λ i. record { parts = settles f.den f.parts n.positive n.rising n.nonzero i; constant = ratio f.constant f.den }

-- ---- one written value
one_form : (f g : Lin) → IsNormal f → IsNormal g → sum_of_lin f ≡ sum_of_lin g → f ≡ g
one_form f g n m e = unique f g n m (subst (SameMeaning (form_of f)) same (record { factors = λ k. refl; constants = refl }))
  where
    same : form_of f ≡ form_of g
    same = sym (spelled f n) ∙ e ∙ spelled g m

abbrev IsOne : Value → Type 0
IsOne v = (w : Value) → IsNormalValue v → IsNormalValue w → meaning v ≡ meaning w → v ≡ w

front : (v : Value) (vs : List Value) → AllByRecursion IsNormal (flat_map (λ l. l) (map forms_in (v ∷ vs))) → IsNormalValue v
front v vs = all_front IsNormal (forms_in v) (flat_map (λ l. l) (map forms_in vs))

behind : (v : Value) (vs : List Value) → AllByRecursion IsNormal (flat_map (λ l. l) (map forms_in (v ∷ vs))) → AllByRecursion IsNormal (flat_map (λ l. l) (map forms_in vs))
behind v vs = all_back IsNormal (forms_in v) (flat_map (λ l. l) (map forms_in vs))

lists : (ys : List ((v : Value) × IsOne v)) (ws : List Value)
    → AllByRecursion IsNormal (flat_map (λ l. l) (map forms_in (map {A = (v : Value) × IsOne v} (λ e. e.0) ys)))
    → AllByRecursion IsNormal (flat_map (λ l. l) (map forms_in ws))
    → vals (map meaning (map {A = (v : Value) × IsOne v} (λ e. e.0) ys)) ≡ vals (map meaning ws) → map {A = (v : Value) × IsOne v} (λ e. e.0) ys ≡ ws
lists [] [] n m e = refl
lists [] (w ∷ ws) n m e = absurd (cc)
lists (y ∷ ys) [] n m e = absurd (cc)
lists (y ∷ ys) (w ∷ ws) n m e =
    let rest = map {A = (v : Value) × IsOne v} (λ e. e.0) ys in
    let p : meaning y.0 ≡ meaning w = cc in
    let q : vals (map meaning rest) ≡ vals (map meaning ws) = cc in
    let a = y.1 w (front y.0 rest n) (front w ws m) p in
    let b = lists ys ws (behind y.0 rest n) (behind w ws m) q in
    λ i. a i ∷ b i

one_case : (y : Value-F ((v : Value) × IsOne v)) → IsOne (roll-Value (map-Value ((v : Value) × IsOne v) Value (λ e. e.0) y))
one_case y w n m e = by_layer y (out-Value w) (roll-out-Value w) n m e
  where
    by_layer : (y : Value-F ((v : Value) × IsOne v)) (x : Value-F Value) → roll-Value x ≡ w
        → IsNormalValue (roll-Value (map-Value ((v : Value) × IsOne v) Value (λ e. e.0) y)) → IsNormalValue w
        → meaning (roll-Value (map-Value ((v : Value) × IsOne v) Value (λ e. e.0) y)) ≡ meaning w
        → roll-Value (map-Value ((v : Value) × IsOne v) Value (λ e. e.0) y) ≡ w
    by_layer y x is n m e = told y x (subst (AllByRecursion IsNormal) (forms-roll _) n) (subst (AllByRecursion IsNormal) (ap forms_in (sym is) ∙ forms-roll x) m)
        (sym (meaning-roll _) ∙ e ∙ ap meaning (sym is) ∙ meaning-roll x) ∙ is
      where
        told : (y : Value-F ((v : Value) × IsOne v)) (x : Value-F Value)
            → AllByRecursion IsNormal (forms_step (map-Value Value (List Lin) forms_in (map-Value ((v : Value) × IsOne v) Value (λ e. e.0) y)))
            → AllByRecursion IsNormal (forms_step (map-Value Value (List Lin) forms_in x))
            → meaning_step (map-Value Value Val meaning (map-Value ((v : Value) × IsOne v) Value (λ e. e.0) y)) ≡ meaning_step (map-Value Value Val meaning x)
            → roll-Value (map-Value ((v : Value) × IsOne v) Value (λ e. e.0) y) ≡ roll-Value x
        told (layer.Leaf k) (layer.Leaf j) n m e = let z : k ≡ j = cc in ap (λ i. roll-Value (layer.Leaf i)) z
        told (layer.Leaf k) (layer.Number g) n m e = absurd (cc)
        told (layer.Leaf k) (layer.Fields ws) n m e = absurd (cc)
        told (layer.Number f) (layer.Leaf j) n m e = absurd (cc)
        told (layer.Number f) (layer.Number g) n m e =
            let z : sum_of_lin f ≡ sum_of_lin g = cc in ap (λ h. roll-Value (layer.Number h)) (one_form f g n.0 m.0 z)
        told (layer.Number f) (layer.Fields ws) n m e = absurd (cc)
        told (layer.Fields ys) (layer.Leaf j) n m e = absurd (cc)
        told (layer.Fields ys) (layer.Number g) n m e = absurd (cc)
        told (layer.Fields ys) (layer.Fields ws) n m e =
            let z : vals (map meaning (map {A = (v : Value) × IsOne v} (λ e. e.0) ys)) ≡ vals (map meaning ws) = cc in
            ap (λ us. roll-Value (layer.Fields us)) (lists ys ws n m z)

-- normal values with one meaning are one
pub one_written : (v w : Value) → IsNormalValue v → IsNormalValue w → meaning v ≡ meaning w → v ≡ w
one_written = ind-Value IsOne (λ x y e. subst (λ z. IsOne (roll-Value z)) e (one_case y))

-- the fields of a normal value are normal
all_normal : (vs : List Value) → AllByRecursion IsNormal (flat_map (λ l. l) (map forms_in vs)) → AllByRecursion IsNormalValue vs
all_normal [] n = tt
all_normal (v ∷ vs) n = (front v vs n, all_normal vs (behind v vs n))

pub fields_normal : (vs : List Value) → IsNormalValue (roll-Value (layer.Fields vs)) → AllByRecursion IsNormalValue vs
fields_normal vs n = all_normal vs (subst (AllByRecursion IsNormal) (forms-roll (layer.Fields vs)) n)
