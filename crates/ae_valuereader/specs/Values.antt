-- How a value is read, by its first bytes. What stands inside is read by the grammar's own code.
use Rattle.std.specs.Prelude.{ℕ, Bool, true, false, nat_eq, List, [], ◌∷◌}
use mathlib.Core.Path.{refl}
use Rattle.ae_codes.specs.Closers.{Close, round, sizes}
use Rattle.ae_codes.specs.Codes.{Code, Read, got, stops}
use Rattle.ae_codes.specs.Numbers.{number}
use Rattle.ae_codes.specs.Plans.{inside}
use Rattle.ae_codes.specs.Rows.{Row, rows}
use Rattle.ae_num.specs.declared.forms.Value.{Value, Leaf, Number, Fields}
use Rattle.ae_readers.specs.Readers.{after_read, behind_read, closing_read, fixed_read}
use Rattle.ae_valuereader.specs.Forms.{body_read}
use Rattle.ae_valuetext.specs.Values.{ValueEnd, value, value_is_shaped, inside_shaped}

-- the values of fields
unfoldable pub field_rows : Code (Row Value)
unfolding value inside
field_rows = rows 41 refl (value round) (Leaf 0) (inside_shaped value value_is_shaped)

abbrev pub name_read : Close → List ℕ → Read ValueEnd
name_read k bytes = after_read ((number (sizes k)).read bytes) (λ v rest. got (Leaf v.0, v.1) rest)

abbrev pub compound_by : Bool → ℕ → List ℕ → Read Value
compound_by true x xs = after_read (behind_read 41 field_rows xs) (λ vs rest. got (Fields vs) rest)
compound_by false x xs = after_read (fixed_read (108 ∷ 105 ∷ 110 ∷ 32 ∷ []) (x ∷ xs)) (λ u r. after_read (body_read r) (λ l rest. got (Number l) rest))

-- what stands behind an opening bracket, with its own
abbrev pub compound_read : List ℕ → Read Value
compound_read [] = stops []
compound_read (x ∷ xs) = compound_by (nat_eq x 58) x xs

abbrev pub bracket_read : Close → List ℕ → Read ValueEnd
bracket_read k bytes = after_read (compound_read bytes) (λ v r. after_read (closing_read k r) (λ e rest. got (v, e) rest))

abbrev pub value_by : Bool → Close → ℕ → List ℕ → Read ValueEnd
value_by true k x xs = bracket_read k xs
value_by false k x xs = name_read k (x ∷ xs)

abbrev pub value_turn : Close → List ℕ → Read ValueEnd
value_turn k [] = stops []
value_turn k (x ∷ xs) = value_by (nat_eq x 40) k x xs
