-- The texts of values, each with the byte that closes it: a name, a linear form, or `(: v1 .. vn)`.
use Rattle.std.specs.Prelude.{ℕ, suc, ◌-◌, ◌^◌, ◌≤◌, ◌<◌, ◌⊎◌, Bool, true, false, IsTrue, nat_eq, nat_le, List, [], ◌∷◌, ◌++◌, ◌≡◌, length, map}
use mathlib.Core.Path.{refl, sym, ap, ◌∙◌, subst}
use mathlib.Core.Logic.{inl, inr}
use mathlib.Core.List.{append-nil, append_assoc}
use native.Mathlib.Omega.{arith}
use Rattle.std.specs.List.{AllByRecursion, flat_map}
use Rattle.std.proofs.lemmas.Bool.{ne_eqb, eq-eqb, eqb-true, le-leb}
use Rattle.ae_codes.specs.Codes.{Code, Begins, StartsNumeral, is_digit, both, one, mapped, words, is_bracket}
use Rattle.ae_codes.specs.Closers.{Close, close_end, closers, closes_round, end_long, round, sizes}
use Rattle.ae_codes.specs.Fractions.{or_two, or_cases}
use Rattle.ae_codes.specs.Listings.{joined, after_text, following, following_spelled}
use Rattle.ae_codes.specs.Machines.{checked, machine}
use Rattle.ae_codes.specs.Names.{closing, closing_text}
use Rattle.ae_codes.specs.Nested.{Shaped}
use Rattle.ae_codes.specs.Numbers.{Closed, number, number_machine, starts, and_both, digit_low}
use Rattle.ae_codes.specs.Plans.{Inner, Plan, Tight, Layers, fixed, fixed_tight, inside, sequence, sequence_tight, choice, choice_tight, sends, sends_tight, in_row, coded, coded_shaped, coded_text, coded_fits}
use Rattle.ae_codes.specs.Rows.{alone, list_row, list_row_list, rows, row_fits, EachFits, ItemShape, item_closes, item_long}
use Rattle.ae_num.specs.declared.forms.Lin.{Lin}
use Rattle.ae_num.specs.declared.forms.Value.{Value, Value-F, Leaf, roll-Value, out-Value, out-roll-Value, roll-out-Value, fold-roll-Value}
use Rattle.ae_num.specs.declared.forms.Value.TheOpen as layer
use Rattle.ae_num.specs.declared.forms.Value.TheVariants.{outs-Leaf, rolls-Leaf}
use Rattle.ae_valuetext.specs.Texts.{lin_text, value_step, value_text}
use Rattle.ae_valuetext.specs.Lins.{lin_body, lin_spelled}

abbrev pub ValueEnd : Type 0
ValueEnd = (v : Value) × ℕ

-- a byte that closes it, and a text that isn't empty
abbrev pub value_shape : Close → ValueEnd → List ℕ → Type 0
value_shape k v w = IsTrue (closers k.one k.two v.1) × (1 ≤ length w)

-- the first name surely has a text
abbrev pub value_sure : Close → ValueEnd
value_sure k = (Leaf 0, k.two)

abbrev pub ValuePlan : Type 0 → Type 1
ValuePlan = Plan {T = λ k. ValueEnd} value_shape value_sure

abbrev pub ValueCodes : Type 1
ValueCodes = (k : Close) → Code ValueEnd

abbrev pub ValueInner : ValueCodes → Type 0
ValueInner = Inner {T = λ k. ValueEnd} value_shape value_sure

abbrev pub value_ends : Close → ValueEnd → List ℕ
value_ends k v = value_text v.0 ++ v.1 ∷ []

-- ---- the values of fields behind `(:`, each behind a blank
abbrev pub value_inside : ValuePlan ValueEnd
value_inside = inside {T = λ k. ValueEnd} value_shape value_sure round

pub inside_shaped : (c : ValueCodes) (h : ValueInner c) → Shaped (ItemShape 41) (Leaf 0, 41) (value_inside.make c h)
unfolding inside round
inside_shaped c h = record { form = λ v f. let s = (h round).form v f in (closes_round 32 41 v.1 s.0, s.1); has = (h round).has }

abbrev pub fields_plan : ValuePlan (List Value)
fields_plan = following {T = λ k. ValueEnd} value_shape value_sure 41 refl value_inside (Leaf 0) inside_shaped

abbrev pub colon : ValuePlan (Unit {0})
colon = fixed {T = λ k. ValueEnd} value_shape value_sure (alone tt (58 ∷ []))

abbrev pub colon_fields : ValuePlan ((u : Unit {0}) × List Value)
colon_fields = sequence {T = λ k. ValueEnd} value_shape value_sure colon (λ u. fields_plan)

-- ---- a linear form behind `(`
abbrev pub lin_word : Code (Unit {0})
lin_word = alone tt (108 ∷ 105 ∷ 110 ∷ 32 ∷ [])

abbrev pub named_lin : Code ((u : Unit {0}) × Lin)
named_lin = both lin_word (λ u. lin_body)

abbrev pub is_colon : ℕ → Bool
is_colon x = nat_eq x 58

pub fields_begin : (c : ValueCodes) (h : ValueInner c) → Begins (colon_fields.make c h) is_colon true
unfolding sequence fixed both alone words
fields_begin c h a f = (58, _, refl, refl)

pub lin_begins : (c : ValueCodes) (h : ValueInner c) → Begins ((fixed {T = λ k. ValueEnd} value_shape value_sure named_lin).make c h) is_colon false
unfolding fixed both alone words
lin_begins c h a f = (108, _, refl, refl)

abbrev pub Compound : Type 0
Compound = ((u : Unit {0}) × List Value) ⊎ ((u : Unit {0}) × Lin)

abbrev pub compound : ValuePlan Compound
compound = choice {T = λ k. ValueEnd} value_shape value_sure is_colon colon_fields (fixed {T = λ k. ValueEnd} value_shape value_sure named_lin) fields_begin lin_begins

abbrev pub opening : ValuePlan (Unit {0})
opening = fixed {T = λ k. ValueEnd} value_shape value_sure (alone tt (40 ∷ []))

abbrev pub Bracket : Type 0
Bracket = (u : Unit {0}) × ((x : Compound) × ℕ)

abbrev pub end_plan : Close → ValuePlan ℕ
end_plan k = fixed {T = λ k. ValueEnd} value_shape value_sure (closing (closers k.one k.two) (close_end k))

abbrev pub bracket : Close → ValuePlan Bracket
bracket k = sequence {T = λ k. ValueEnd} value_shape value_sure opening (λ u. sequence {T = λ k. ValueEnd} value_shape value_sure compound (λ x. end_plan k))

-- ---- a name
abbrev pub name_code : Close → Code Closed
name_code k = number (sizes k)

abbrev pub name_plan : Close → ValuePlan Closed
name_plan k = fixed {T = λ k. ValueEnd} value_shape value_sure (name_code k)

pub bracket_begins : (k : Close) (c : ValueCodes) (h : ValueInner c) → Begins ((bracket k).make c h) is_bracket true
unfolding sequence fixed both alone words
bracket_begins k c h a f = (40, _, refl, refl)

figure_first : (w : List ℕ) → StartsNumeral w → (x : ℕ) × (xs : List ℕ) × (w ≡ x ∷ xs) × (nat_eq x 40 ≡ false)
figure_first [] s = absurd s
figure_first (x ∷ w) s = (
  x,
  w,
  refl,
  elim (or_cases (is_digit x) (nat_eq x 45) s) [
    | inl d ↦ (let l = digit_low x d in ne_eqb x 40 (λ e. omega arith))
    | inr e ↦ (let q = eqb-true x 45 e in ne_eqb x 40 (λ r. omega arith))
  ],
)

name_starts : (k : Close) (v : Closed) → (name_code k).Fits v → StartsNumeral ((name_code k).text v)
unfolding number checked
name_starts k v f = starts (sizes k) v f

pub name_begins : (k : Close) (c : ValueCodes) (h : ValueInner c) → Begins ((name_plan k).make c h) is_bracket false
unfolding fixed
name_begins k c h a f = figure_first ((name_code k).text a) (name_starts k a f)

abbrev pub RawValue : Type 0
RawValue = Bracket ⊎ Closed

abbrev pub raw_value : Close → ValuePlan RawValue
raw_value k = choice {T = λ k. ValueEnd} value_shape value_sure is_bracket (bracket k) (name_plan k) (bracket_begins k) (name_begins k)

opening_long : (c : ValueCodes) (h : ValueInner c) (u : Unit {0}) → (opening.make c h).Fits u → 1 ≤ length ((opening.make c h).text u)
unfolding fixed alone words
opening_long c h u f = omega arith

pub raw_tight : (k : Close) → Tight {T = λ k. ValueEnd} value_shape value_sure (raw_value k)
raw_tight k = choice_tight {T = λ k. ValueEnd} value_shape value_sure is_bracket (bracket k) (name_plan k) (bracket_begins k) (name_begins k)
    (sequence_tight {T = λ k. ValueEnd} value_shape value_sure opening _ (fixed_tight {T = λ k. ValueEnd} value_shape value_sure (alone tt (40 ∷ []))) opening_long)
    (fixed_tight {T = λ k. ValueEnd} value_shape value_sure (name_code k))

-- ---- from what is cut to the value and back
abbrev pub layer_of : RawValue → Value-F Value
layer_of (inl (u, (inl v, e))) = layer.Fields v.1
layer_of (inl (u, (inr v, e))) = layer.Number v.1
layer_of (inr v) = layer.Leaf v.0

abbrev pub end_of : RawValue → ℕ
end_of (inl (u, (x, e))) = e
end_of (inr v) = v.1

abbrev pub from_layer : Value-F Value → ℕ → RawValue
from_layer (layer.Leaf n) e = inr (n, e)
from_layer (layer.Number f) e = inl (tt, (inr (tt, f), e))
from_layer (layer.Fields vs) e = inl (tt, (inl (tt, vs), e))

abbrev pub value_to : RawValue → ValueEnd
value_to v = (roll-Value (layer_of v), end_of v)

abbrev pub value_from : ValueEnd → RawValue
value_from v = from_layer (out-Value v.0) v.1

cut_back : (v : RawValue) → from_layer (layer_of v) (end_of v) ≡ v
cut_back (inl (u, (inl v, e))) = refl
cut_back (inl (u, (inr v, e))) = refl
cut_back (inr v) = refl

pub value_back : (k : Close) (c : ValueCodes) (h : ValueInner c) (v : RawValue) → ((raw_value k).make c h).Fits v → value_from (value_to v) ≡ v
value_back k c h v f = ap (λ z. from_layer z (end_of v)) (out-roll-Value (layer_of v)) ∙ cut_back v

abbrev pub value_plan : Close → ValuePlan ValueEnd
value_plan k = sends {T = λ k. ValueEnd} value_shape value_sure value_to value_from (raw_value k) (value_back k)

pub value_tight : (k : Close) → Tight {T = λ k. ValueEnd} value_shape value_sure (value_plan k)
value_tight k = sends_tight {T = λ k. ValueEnd} value_shape value_sure value_to value_from (raw_value k) (value_back k) (raw_tight k)

-- ---- what a layer spells
item_spelled : (x : Value) (e : ℕ) → value_inside.spell value_ends (x, e) ≡ value_text x ++ e ∷ []
unfolding inside
item_spelled x e = refl

more_is : (t : List ℕ) (ts : List (List ℕ)) → joined 41 t ts ≡ t ++ flat_map (λ w. 32 ∷ w) ts ++ 41 ∷ []
more_is t [] = ap (λ w. w ++ 41 ∷ []) (sym (append-nil t))
more_is t (u ∷ us) =
    ap (λ w. (t ++ 32 ∷ []) ++ w) (more_is u us)
    ∙ append_assoc t (32 ∷ []) (u ++ flat_map (λ w. 32 ∷ w) us ++ 41 ∷ [])
    ∙ sym (append_assoc t (32 ∷ u ++ flat_map (λ w. 32 ∷ w) us) (41 ∷ []))

fields_are : (ts : List (List ℕ)) → 58 ∷ after_text 41 ts ≡ 58 ∷ flat_map (λ w. 32 ∷ w) ts ++ 41 ∷ []
fields_are [] = refl
fields_are (t ∷ ts) = ap (λ w. 58 ∷ 32 ∷ w) (more_is t ts)

module _ (k : Close) where
  abbrev ends_with : ℕ → List ℕ
  ends_with e = (closing (closers k.one k.two) (close_end k)).text e

  lin_in : (f : Lin) → lin_body.Fits f → (40 ∷ 108 ∷ 105 ∷ 110 ∷ 32 ∷ lin_body.text f) ≡ lin_text f
  lin_in f g = lin_spelled f g

  layer_spelled : (c : ValueCodes) (h : ValueInner c) (y : Value-F Value) (e : ℕ) → ((raw_value k).make c h).Fits (from_layer y e) → (raw_value k).spell value_ends (from_layer y e) ≡ value_text (roll-Value y) ++ e ∷ []
  unfolding choice sequence fixed one both alone words number checked machine number_machine value_text
  layer_spelled c h (layer.Leaf n) e f = ap (λ z. z ++ e ∷ []) (sym (fold-roll-Value (List ℕ) value_step (layer.Leaf n)))
  layer_spelled c h (layer.Number l) e f =
      ap (λ z. (40 ∷ 108 ∷ 105 ∷ 110 ∷ 32 ∷ lin_body.text l) ++ z) (closing_text (closers k.one k.two) (close_end k) e)
      ∙ ap (λ z. z ++ e ∷ []) (lin_in l (f.1.0.1) ∙ sym (fold-roll-Value (List ℕ) value_step (layer.Number l)))
  layer_spelled c h (layer.Fields vs) e f =
      ap (λ z. (40 ∷ 58 ∷ fields_plan.spell value_ends vs) ++ z) (closing_text (closers k.one k.two) (close_end k) e)
      ∙ ap (λ z. (40 ∷ 58 ∷ z) ++ e ∷ []) (following_spelled {T = λ k. ValueEnd} value_shape value_sure 41 refl value_inside (Leaf 0) inside_shaped value_ends value_text item_spelled vs)
      ∙ ap (λ z. (40 ∷ z) ++ e ∷ []) (fields_are (map value_text vs))
      ∙ ap (λ z. z ++ e ∷ []) (sym (fold-roll-Value (List ℕ) value_step (layer.Fields vs)))

  pub value_equation : (c : ValueCodes) (h : ValueInner c) (v : ValueEnd) → ((value_plan k).make c h).Fits v → (value_plan k).spell value_ends v ≡ value_ends k v
  unfolding sends mapped
  value_equation c h v f = layer_spelled c h (out-Value v.0) v.1 f.0 ∙ ap (λ z. value_text z ++ v.1 ∷ []) (roll-out-Value v.0)

  -- ---- what a layer promises to those above it
  raw_closed : (c : ValueCodes) (h : ValueInner c) (v : RawValue) → ((raw_value k).make c h).Fits v → IsTrue (closers k.one k.two (end_of v))
  unfolding choice sequence fixed one both alone words closing number checked machine number_machine
  raw_closed c h (inl (u, (x, e))) f = f.1.1
  raw_closed c h (inr v) f = f.1

  raw_long : (c : ValueCodes) (h : ValueInner c) (v : RawValue) → ((raw_value k).make c h).Fits v → 1 ≤ length (((raw_value k).make c h).text v)
  unfolding choice sequence fixed one both alone words
  raw_long c h (inl v) f = omega arith
  raw_long c h (inr v) f = let w = figure_first ((name_code k).text v) (name_starts k v f) in let l : length ((name_code k).text v) ≡ suc (length w.1) = ap length w.2 in omega arith

  leaf_to : (e : ℕ) → value_to (value_from (Leaf 0, e)) ≡ (Leaf 0, e)
  leaf_to e = ap (λ y. value_to (from_layer y e)) (outs-Leaf 0) ∙ ap (λ z. (z, e)) (rolls-Leaf 0)

  leaf_fits : (c : ValueCodes) (h : ValueInner c) → ((value_plan k).make c h).Fits (value_sure k)
  unfolding sends mapped choice fixed one number checked machine number_machine
  leaf_fits c h = (subst (λ y. ((raw_value k).make c h).Fits (from_layer y k.two)) (sym (outs-Leaf 0)) (refl, or_two (nat_eq k.two k.one) (nat_eq k.two k.two) (eq-eqb k.two k.two refl)), leaf_to k.two)

  pub value_shaped : (c : ValueCodes) (h : ValueInner c) → Shaped (value_shape k) (value_sure k) ((value_plan k).make c h)
  unfolding sends mapped
  value_shaped c h = record {
    form = λ v f. (subst (λ e. IsTrue (closers k.one k.two e)) (ap (λ z. z.1) f.1) (raw_closed c h (value_from v) f.0), raw_long c h (value_from v) f.0);
    has = leaf_fits c h;
  }

abbrev pub value_layers : Layers {T = λ k. ValueEnd} value_shape value_sure
value_layers = record {
  plan = value_plan;
  tight = value_tight;
  shaped = λ c h k. value_shaped k c h;
  text = value_ends;
  equation = λ c h k v f. value_equation k c h v f;
  sure_shape = λ k. (or_two (nat_eq k.two k.one) (nat_eq k.two k.two) (eq-eqb k.two k.two refl), end_long (value_text (Leaf 0)) k.two);
}

-- a value and the byte that closes it
unfoldable pub value : Close → Code ValueEnd
value = coded {T = λ k. ValueEnd} value_shape value_sure value_layers

pub value_is_shaped : (k : Close) → Shaped (value_shape k) (value_sure k) (value k)
unfolding value
value_is_shaped = coded_shaped {T = λ k. ValueEnd} value_shape value_sure value_layers

pub value_is_spelled : (k : Close) (v : ValueEnd) → (value k).text v ≡ value_text v.0 ++ v.1 ∷ []
unfolding value
value_is_spelled k v = coded_text {T = λ k. ValueEnd} value_shape value_sure value_layers k v

-- ---- which values have a text
to_from : (y : Value-F Value) (e : ℕ) → value_to (from_layer y e) ≡ (roll-Value y, e)
to_from (layer.Leaf n) e = refl
to_from (layer.Number f) e = refl
to_from (layer.Fields vs) e = refl

made : (k : Close) (y : Value-F Value) (e : ℕ) → ((raw_value k).make value value_is_shaped).Fits (from_layer y e) → (value k).Fits (roll-Value y, e)
unfolding value value_is_shaped sends mapped
made k y e f = coded_fits {T = λ k. ValueEnd} value_shape value_sure value_layers k (roll-Value y, e) (
  subst (λ z. ((raw_value k).make value value_is_shaped).Fits (from_layer z e)) (sym (out-roll-Value y)) f,
  ap (λ z. value_to (from_layer z e)) (out-roll-Value y) ∙ to_from y e,
)

-- a name of 64 bits
pub leaf_has : (k : Close) (n e : ℕ) → n < 2 ^ 64 → IsTrue (closers k.one k.two e) → (value k).Fits (roll-Value (layer.Leaf n), e)
unfolding choice fixed one number checked machine number_machine
leaf_has k n e l h = made k (layer.Leaf n) e (and_both (nat_le 0 n) (nat_le n (2 ^ 64 - 1)) (le-leb 0 n (omega arith)) (le-leb n (2 ^ 64 - 1) (omega arith)), h)

-- a form that has a text
pub number_has : (k : Close) (f : Lin) (e : ℕ) → lin_body.Fits f → IsTrue (closers k.one k.two e) → (value k).Fits (roll-Value (layer.Number f), e)
unfolding choice sequence fixed one both alone words closing
number_has k f e g h = made k (layer.Number f) e (refl, ((refl, g), h))

-- the value has a text behind which a blank stands, or a bracket
abbrev pub InRow : Value → Type 0
InRow v = (value round).Fits (v, 32) × (value round).Fits (v, 41)

abbrev item : Code ValueEnd
item = value_inside.make value value_is_shaped

abbrev item_shape : Shaped (ItemShape 41) (Leaf 0, 41) item
item_shape = inside_shaped value value_is_shaped

each_in_row : (x : Value) (xs : List Value) → AllByRecursion InRow (x ∷ xs)
    → EachFits 41 refl item (item_closes 41 refl item (Leaf 0) item_shape) (Leaf 0) (item_shape.has) (item_long 41 refl item (Leaf 0) item_shape) (list_row x xs)
unfolding inside
each_in_row x [] a = a.0.1
each_in_row x (y ∷ ys) a = (a.0.0, each_in_row y ys a.1)

row_of : (x : Value) (xs : List Value) → AllByRecursion InRow (x ∷ xs) → (rows 41 refl item (Leaf 0) item_shape).Fits (list_row x xs)
row_of x xs a = row_fits 41 refl item (item_closes 41 refl item (Leaf 0) item_shape) (Leaf 0) (item_shape.has) (item_long 41 refl item (Leaf 0) item_shape) (list_row x xs) (each_in_row x xs a)

fields_fit : (vs : List Value) → AllByRecursion InRow vs → (fields_plan.make value value_is_shaped).Fits vs
unfolding following sends mapped choice sequence fixed one both alone words in_row
fields_fit [] a = (refl, refl)
fields_fit (x ∷ xs) a = ((refl, row_of x xs a), list_row_list x xs)

-- fields of which each has a text
pub fields_have : (k : Close) (vs : List Value) (e : ℕ) → AllByRecursion InRow vs → IsTrue (closers k.one k.two e) → (value k).Fits (roll-Value (layer.Fields vs), e)
unfolding choice sequence fixed one both alone words closing
fields_have k vs e a h = made k (layer.Fields vs) e (refl, ((refl, fields_fit vs a), h))
