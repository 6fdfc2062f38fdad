-- How linear forms and values are spelled. A name is written as its number. Each function is total: what it gives of a value that no text stands for is of no meaning.
use Rattle.std.specs.Prelude.{ℕ, ◌<◌, ◌^◌, List, ◌++◌, decimal, codes}
use Rattle.std.specs.Fmt.{signed_decimal}
use Rattle.std.specs.List.{AllByRecursion, flat_map}
use Rattle.ae_num.specs.declared.forms.Lin.{Lin}
use Rattle.ae_num.specs.declared.forms.Part.{Part}
use Rattle.ae_num.specs.declared.forms.Value.{Value, Value-F, fold-Value}
use Rattle.ae_num.specs.declared.forms.Value.TheOpen as layer

-- ---- linear forms: `(lin DEN CONST F1 N1 .. Fn Nn)`
abbrev pub part_text : Part → List ℕ
part_text p = codes " " ++ signed_decimal p.factor ++ codes " " ++ decimal p.key

unfoldable pub lin_text : Lin → List ℕ
lin_text f = codes "(lin " ++ signed_decimal f.den ++ codes " " ++ signed_decimal f.constant ++ flat_map part_text f.parts ++ codes ")"

-- ---- values: a name, a linear form, or `(: v1 .. vn)` for the values of a record's fields
abbrev pub value_step : Value-F (List ℕ) → List ℕ
value_step (layer.Leaf n) = decimal n
value_step (layer.Number f) = lin_text f
value_step (layer.Fields ws) = codes "(:" ++ flat_map (λ w. codes " " ++ w) ws ++ codes ")"

unfoldable pub value_text : Value → List ℕ
value_text = fold-Value (List ℕ) value_step

-- numbers of 64 bits, as names are
abbrev pub AreNames : List ℕ → Type 0
AreNames ns = AllByRecursion (λ n. n < 2 ^ 64) ns
