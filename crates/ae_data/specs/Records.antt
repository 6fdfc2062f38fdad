-- Values of records, equations between them, and what values stand for.
use Rattle.std.specs.Prelude.{ℕ, List, [], ◌≡◌, map, length}
use Rattle.ae_num.specs.declared.forms.Lin.{Lin}
use Rattle.ae_num.specs.declared.forms.Value.{Value, Value-F, Fields, fold-Value, out-Value}
use Rattle.ae_num.specs.declared.forms.Value.TheOpen as layer
use Rattle.ae_data.specs.declared.records.ValuePair.{ValuePair}

abbrev pub fields_step : Value-F Value → List Value
fields_step (layer.Fields vs) = vs
fields_step _ = []

-- the values of a record's fields, in the order of its type
unfoldable pub fields : Value → List Value
fields v = fields_step (out-Value v)

-- both are the values of as many fields
pub record AreRecords (left right : Value) : Type 0 where
  pub left_fields : List Value
  pub right_fields : List Value
  pub left_is : left ≡ Fields left_fields
  pub right_is : right ≡ Fields right_fields
  pub as_many : length left_fields ≡ length right_fields

-- the left sides of equations, and the right sides
abbrev pub lefts : List ValuePair → List Value
lefts ps = map (λ p. p.left) ps

abbrev pub rights : List ValuePair → List Value
rights ps = map (λ p. p.right) ps

-- what values stand for: any things, where a record is told by its fields
pub record Reading (V : Type 0) : Type 0 where
  pub leaf : ℕ → V
  pub number : Lin → V
  pub record_of : List V → V
  pub told : (xs ys : List V) → record_of xs ≡ record_of ys → xs ≡ ys

abbrev pub read_step : {V : Type 0} → Reading V → Value-F V → V
read_step way (layer.Leaf n) = way.leaf n
read_step way (layer.Number f) = way.number f
read_step way (layer.Fields vs) = way.record_of vs

-- the thing that a value stands for
unfoldable pub read : {V : Type 0} → Reading V → Value → V
read {V} way = fold-Value V (read_step way)
