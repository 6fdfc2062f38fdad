-- Values as the grammar reads them.
use Rattle.std.proofs.Common.{ℕ, suc, Bool, true, false, nat_eq, List, [], ◌∷◌, ◌++◌, ◌≡◌, ◌≢◌, length, drop, refl, sym, ap, ◌∙◌, arith}
use mathlib.Core.Logic.{inl, inr}
use Rattle.std.proofs.lemmas.Bool.{eqb-true, eq-eqb, ne_eqb}
use Rattle.ae_codes.specs.Closers.{Close, closers, close_end, round, sizes}
use Rattle.ae_codes.specs.Codes.{Read, got, Code, both, is_bracket}
use Rattle.ae_codes.specs.Names.{closing}
use Rattle.ae_codes.specs.Nested.{Shaped, agree_same}
use Rattle.ae_codes.specs.Numbers.{number}
use Rattle.ae_codes.specs.Plans.{fixed, inside, sequence, choice, sends, coded_shaped, coded_reads}
use Rattle.ae_codes.specs.Rows.{rows, row_list, alone, ItemShape, agree_rows}
use Rattle.ae_num.specs.declared.forms.Value.{Value, Leaf, Number, Fields}
use Rattle.ae_num.specs.declared.forms.Value.TheVariants.{rolls-Leaf, rolls-Number, rolls-Fields}
use Rattle.ae_readers.specs.Readers.{after_read, before, behind_read, closing_read, fixed_read, more_read, row_read, FaultIs}
use Rattle.ae_readers.proofs.Combinators.{after_after, after_same, mapped_is, one_is, one_none, on_side}
use Rattle.ae_readers.proofs.NameReading.{closing_is}
use Rattle.ae_readers.proofs.RowReading.{row_turn, goes_on, ends_here, faulty, following_is}
use Rattle.ae_readers.proofs.WordReading.{alone_is}
use Rattle.ae_readers.specs.declared.fault.Fault.{Fault}
use Rattle.ae_valuereader.proofs.FormReading.{body_is}
use Rattle.ae_valuereader.proofs.SignReading.{both_then, byte_then, same_plan}
use Rattle.ae_valuereader.specs.Forms.{body_read}
use Rattle.ae_valuereader.specs.Values.{field_rows, name_read, compound_by, compound_read, bracket_read, value_by, value_turn}
use Rattle.ae_valuetext.specs.Lins.{lin_body}
use Rattle.ae_valuetext.specs.Values as values
use Rattle.ae_valuetext.specs.Values.{ValueEnd, ValueInner, value, value_is_shaped, value_shape, value_sure, value_layers, value_plan, value_to, value_from, value_back, raw_value, RawValue, bracket, bracket_begins}
use Rattle.ae_valuetext.specs.Values.{name_plan, name_begins, Compound, compound, colon_fields, named_lin, fields_begin, lin_begins, is_colon, lin_word, value_inside, inside_shaped, fields_plan}

-- ---- rows read alike, whatever is known of their values
same_rows : {X : Type 0} (last : ℕ) (other : nat_eq last 32 ≡ false) (item : Code ((x : X) × ℕ)) (x0 : X) (h h' : Shaped (ItemShape last) (x0, last) item) (bytes : List ℕ)
    → row_read (rows last other item x0 h) bytes ≡ row_read (rows last other item x0 h') bytes
same_rows last other item x0 h h' bytes =
    let n = suc (length bytes) in
    ap (λ r. after_read r (λ r rest. got (row_list r) rest)) (agree_rows last other item item x0 h h' n (agree_same item n) bytes (omega arith))

abbrev shapes : ValueInner value
shapes = value_is_shaped

-- ---- the values of fields
fields_are : (bytes : List ℕ) → (fields_plan.make value shapes).read bytes ≡ behind_read 41 field_rows bytes
unfolding field_rows
fields_are bytes = following_is {T = λ k. ValueEnd} value_shape value_sure 41 refl value_inside (Leaf 0) inside_shaped value shapes bytes

abbrev fields_code : Code ((u : Unit {0}) × List Value)
fields_code = colon_fields.make value shapes

module _ {C : Type 0} (F : Value → List ℕ → Read C) where
  colon_is : (xs : List ℕ) → after_read (fields_code.read (58 ∷ xs)) (λ v rest. F (Fields v.1) rest) ≡ after_read (behind_read 41 field_rows xs) (λ vs rest. F (Fields vs) rest)
  unfolding sequence fixed
  colon_is xs =
      both_then (alone {A = Unit {0}} tt (58 ∷ [])) (λ u. fields_plan.make value shapes) (58 ∷ xs) (λ v rest. F (Fields v.1) rest)
      ∙ byte_then 58 xs (λ u r. after_read ((fields_plan.make value shapes).read r) (λ vs rest. F (Fields vs) rest))
      ∙ ap (λ r. after_read r (λ vs rest. F (Fields vs) rest)) (fields_are xs)

  -- ---- a linear form
  lin_is : (bytes : List ℕ) → after_read (named_lin.read bytes) (λ v rest. F (Number v.1) rest) ≡ after_read (fixed_read (108 ∷ 105 ∷ 110 ∷ 32 ∷ []) bytes) (λ u r. after_read (body_read r) (λ l rest. F (Number l) rest))
  lin_is bytes =
      both_then lin_word (λ u. lin_body) bytes (λ v rest. F (Number v.1) rest)
      ∙ ap (λ r. after_read r (λ u q. after_read (lin_body.read q) (λ l rest. F (Number l) rest))) (alone_is tt (108 ∷ 105 ∷ 110 ∷ 32 ∷ []) bytes)
      ∙ after_after (fixed_read (108 ∷ 105 ∷ 110 ∷ 32 ∷ []) bytes) (λ u rest. got tt rest) _
      ∙ after_same (fixed_read (108 ∷ 105 ∷ 110 ∷ 32 ∷ []) bytes) _ _ (λ u q. ap (λ z. after_read z (λ l rest. F (Number l) rest)) (body_is q))

  abbrev value_of : Compound → Value
  value_of (inl v) = Fields v.1
  value_of (inr v) = Number v.1

  abbrev compound_code : Code Compound
  compound_code = compound.make value shapes

  compound_side : (b : Bool) (x : ℕ) (xs : List ℕ) → nat_eq x 58 ≡ b
      → after_read (on_side b (fields_code.read (x ∷ xs)) (named_lin.read (x ∷ xs))) (λ v rest. F (value_of v) rest) ≡ after_read (compound_by b x xs) F
  compound_side true x xs e = let s = eqb-true x 58 e in
      after_after (fields_code.read (x ∷ xs)) _ _
      ∙ ap (λ z. after_read (fields_code.read (z ∷ xs)) (λ v rest. F (Fields v.1) rest)) s
      ∙ colon_is xs
      ∙ sym (after_after (behind_read 41 field_rows xs) _ F)
  compound_side false x xs e =
      after_after (named_lin.read (x ∷ xs)) _ _
      ∙ lin_is (x ∷ xs)
      ∙ after_same (fixed_read (108 ∷ 105 ∷ 110 ∷ 32 ∷ []) (x ∷ xs)) _ _ (λ u r. sym (after_after (body_read r) _ F))
      ∙ sym (after_after (fixed_read (108 ∷ 105 ∷ 110 ∷ 32 ∷ []) (x ∷ xs)) _ F)

  compound_is : (bytes : List ℕ) → after_read (compound_code.read bytes) (λ v rest. F (value_of v) rest) ≡ after_read (compound_read bytes) F
  unfolding choice fixed
  compound_is [] = ap (λ r. after_read r (λ v rest. F (value_of v) rest)) (one_none is_colon fields_code named_lin (fields_begin value shapes) (lin_begins value shapes))
  compound_is (x ∷ xs) = ap (λ r. after_read r (λ v rest. F (value_of v) rest)) (one_is is_colon fields_code named_lin (fields_begin value shapes) (lin_begins value shapes) x xs) ∙ compound_side (nat_eq x 58) x xs refl

-- ---- values
module _ (k : Close) where
  abbrev made : RawValue → List ℕ → Read ValueEnd
  made v rest = got (value_to v) rest

  abbrev closed : Value → List ℕ → Read ValueEnd
  closed v r = after_read (closing_read k r) (λ e rest. got (v, e) rest)

  abbrev closing_code : Code ℕ
  closing_code = closing (closers k.one k.two) (close_end k)

  abbrev bracket_code : Code values.Bracket
  bracket_code = (bracket k).make value shapes

  rolled : (x : Compound) (e : ℕ) (rest : List ℕ) → made (inl (tt, (x, e))) rest ≡ got (value_of {C = ValueEnd} closed x, e) rest
  rolled (inl v) e rest = λ i. got (rolls-Fields v.1 i, e) rest
  rolled (inr v) e rest = λ i. got (rolls-Number v.1 i, e) rest

  bracket_is : (xs : List ℕ) → after_read (bracket_code.read (40 ∷ xs)) (λ v rest. made (inl v) rest) ≡ bracket_read k xs
  unfolding sequence fixed
  bracket_is xs =
      both_then (alone {A = Unit {0}} tt (40 ∷ [])) (λ u. both (compound_code {C = ValueEnd} closed) (λ x. closing_code)) (40 ∷ xs) (λ v rest. made (inl v) rest)
      ∙ byte_then 40 xs (λ u r. after_read ((both (compound_code {C = ValueEnd} closed) (λ x. closing_code)).read r) (λ v rest. made (inl (u, v)) rest))
      ∙ both_then (compound_code {C = ValueEnd} closed) (λ x. closing_code) xs (λ v rest. made (inl (tt, v)) rest)
      ∙ after_same ((compound_code {C = ValueEnd} closed).read xs) _ _ (λ x r. ap (λ z. after_read z (λ e rest. made (inl (tt, (x, e))) rest)) (closing_is k (close_end k) r) ∙ after_same (closing_read k r) _ _ (λ e rest. rolled x e rest))
      ∙ compound_is closed xs

  leaf_is : (bytes : List ℕ) → after_read ((number (sizes k)).read bytes) (λ v rest. made (inr v) rest) ≡ name_read k bytes
  leaf_is bytes = after_same ((number (sizes k)).read bytes) _ _ (λ v rest. λ i. got (rolls-Leaf v.0 i, v.1) rest)

  side_is : (b : Bool) (x : ℕ) (xs : List ℕ) → nat_eq x 40 ≡ b → after_read (on_side b (bracket_code.read (x ∷ xs)) ((number (sizes k)).read (x ∷ xs))) made ≡ value_by b k x xs
  side_is true x xs e = let s = eqb-true x 40 e in
      after_after (bracket_code.read (x ∷ xs)) _ _ ∙ ap (λ z. after_read (bracket_code.read (z ∷ xs)) (λ v rest. made (inl v) rest)) s ∙ bracket_is xs
  side_is false x xs e = after_after ((number (sizes k)).read (x ∷ xs)) _ _ ∙ leaf_is (x ∷ xs)

  abbrev raw_code : Code RawValue
  raw_code = (raw_value k).make value shapes

  raw_is : (bytes : List ℕ) → after_read (raw_code.read bytes) made ≡ value_turn k bytes
  unfolding choice fixed
  raw_is [] = ap (λ r. after_read r made) (one_none is_bracket bracket_code (number (sizes k)) (bracket_begins k value shapes) (name_begins k value shapes))
  raw_is (x ∷ xs) = ap (λ r. after_read r made) (one_is is_bracket bracket_code (number (sizes k)) (bracket_begins k value shapes) (name_begins k value shapes) x xs) ∙ side_is (nat_eq x 40) x xs refl

  pub value_is : (bytes : List ℕ) → (value k).read bytes ≡ value_turn k bytes
  unfolding value sends
  value_is bytes =
      coded_reads {T = λ k. ValueEnd} value_shape value_sure value_layers k bytes
      ∙ same_plan {T = λ k. ValueEnd} value_shape value_sure (value_plan k) value (coded_shaped {T = λ k. ValueEnd} value_shape value_sure value_layers) shapes bytes
      ∙ mapped_is value_to value_from raw_code (value_back k value shapes) bytes
      ∙ raw_is bytes

-- ---- rows of fields
field_turn : (bytes : List ℕ) → row_read field_rows bytes ≡ after_read ((value round).read bytes) (λ v rest. more_read (nat_eq v.1 32) v.0 (row_read field_rows rest) rest)
unfolding field_rows inside
field_turn bytes = row_turn 41 refl (value round) (Leaf 0) (inside_shaped value value_is_shaped) bytes

-- as far as a loop over values has come
module _ (text : List ℕ) (from at : ℕ) (xs : List Value) (so_far : row_read field_rows (drop from text) ≡ before xs (row_read field_rows (drop at text))) where
  pub values_go_on : (v : ValueEnd) (next : ℕ) (ys : List Value) → (value round).read (drop at text) ≡ got v (drop next text) → v.1 ≡ 32 → ys ≡ xs ++ v.0 ∷ []
      → row_read field_rows (drop from text) ≡ before ys (row_read field_rows (drop next text))
  values_go_on v next ys e q p = goes_on field_rows (value round) field_turn text from at xs so_far v next e (eq-eqb v.1 32 q) ∙ ap (λ z. before z (row_read field_rows (drop next text))) (sym p)

  pub values_end : (v : ValueEnd) (next : ℕ) (ys : List Value) → (value round).read (drop at text) ≡ got v (drop next text) → v.1 ≢ 32 → ys ≡ xs ++ v.0 ∷ []
      → row_read field_rows (drop from text) ≡ got ys (drop next text)
  values_end v next ys e q p = ends_here field_rows (value round) field_turn text from at xs so_far v next e (ne_eqb v.1 32 q) ∙ ap (λ z. got z (drop next text)) (sym p)

  pub values_faulty : (f : Fault) → FaultIs text f ((value round).read (drop at text)) → FaultIs text f (row_read field_rows (drop from text))
  values_faulty f e = faulty field_rows (value round) field_turn text from at xs so_far f e
