-- Numbers of names, by their values.
use Rattle.std.specs.Prelude.{ℕ, ℤ, ◌+◌, ◌*◌, ◌-◌, ◌%◌, length, slice_get, Option, Some, None, unsigned_abs}
use Rattle.ae_base.specs.Options.{or_else}
use Rattle.ae_num.specs.declared.forms.Lin.{Lin}
use Rattle.ae_num.specs.declared.forms.Part.{Part}
use Rattle.ae_num.specs.declared.forms.Value.{Value, Value-F, fold-Value}
use Rattle.ae_num.specs.declared.forms.Value.TheOpen as layer
use Rattle.ae_value_table.specs.declared.patterns.Entry.{Entry}
use Rattle.ae_value_table.specs.Table.{Contents, value_in, held}

-- the low bits of a number's size
abbrev pub low : ℤ → ℕ
low z = unsigned_abs z % 65536

abbrev pub part_key : Part → ℕ
part_key p = p.key % 65536 + low p.factor * 127

abbrev pub key_of_part : Option Part → ℕ
key_of_part None = 0
key_of_part (Some p) = part_key p

-- of a form, by its constant and its first and last part
abbrev pub form_key : Lin → ℕ
form_key f = key_of_part (slice_get f.parts 0) + key_of_part (slice_get f.parts (length f.parts - 1)) * 31 + low f.constant * 1013

-- of a record's value, that of its first field
abbrev pub key_layer : Value-F ℕ → ℕ
key_layer (layer.Leaf n) = n % 65536
key_layer (layer.Number f) = form_key f
key_layer (layer.Fields ks) = or_else (slice_get ks 0) 0

unfoldable pub value_key : Value → ℕ
value_key = fold-Value ℕ key_layer

abbrev pub entry_key : Contents → Option Entry → ℕ
entry_key c None = 0
entry_key c (Some e) = value_key (value_in c e.pattern)

-- of a name that has a value, that of its value
abbrev pub key : Contents → ℕ → ℕ
key c n = entry_key c (slice_get (held c) n)
