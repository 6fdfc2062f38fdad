-- What is held of the values of names.
use Rattle.std.specs.Prelude.{ℕ, pos, List, [], ◌∷◌, map, take, Option}
use Rattle.ae_base.specs.Options.{or_else}
use Rattle.ae_pmap.specs.Forest.{Forest, present}
use Rattle.ae_pmap.specs.Pairs.{found}
use Rattle.ae_num.specs.declared.forms.Lin.{Lin}
use Rattle.ae_num.specs.declared.forms.Value.{Value}
use Rattle.ae_num.specs.declared.forms.Value as value
use Rattle.ae_linear.specs.Rows.{Contents as Rows, row_at, value_of}
use Rattle.ae_value_table.specs.declared.patterns.Pattern.{Pattern, Pattern-F, fold-Pattern}
use Rattle.ae_value_table.specs.declared.patterns.Pattern.TheOpen as layer
use Rattle.ae_value_table.specs.declared.patterns.Entry.{Entry}

pub record Contents : Type 0 where
  -- what is known of each name for good
  pub entries : List Entry
  -- how many of them have values now, the first ones
  pub taken : ℕ
  -- the values of the numbers that aren't their own
  pub rows : Rows
  -- the leaves of the other names that aren't their own
  pub leaves : Forest ℕ
  -- the numbers of the steps that say both
  pub justs : Forest ℕ

-- once the name
abbrev pub own : ℕ → Lin
own n = record { den = pos 1; parts = record { key = n; factor = pos 1 } ∷ []; constant = pos 0 }

abbrev pub number_at : Contents → ℕ → Lin
number_at c n = or_else (value_of (row_at c.rows n)) (own n)

abbrev pub leaf_at : Contents → ℕ → ℕ
leaf_at c n = or_else (found (present c.leaves) n) n

abbrev pub just_at : Contents → ℕ → Option ℕ
just_at c n = found (present c.justs) n

-- ---- values
abbrev pub value_layer : (ℕ → Lin) → (ℕ → ℕ) → Pattern-F Value → Value
value_layer number leaf (layer.Number n) = value.Number (number n)
value_layer number leaf (layer.Leaf n) = value.Leaf (leaf n)
value_layer number leaf (layer.Fields n vs) = value.Fields vs

-- the value that is made of these numbers and leaves of names
unfoldable pub value_by : (ℕ → Lin) → (ℕ → ℕ) → Pattern → Value
value_by number leaf = fold-Pattern Value (value_layer number leaf)

abbrev pub value_in : Contents → Pattern → Value
value_in c = value_by (number_at c) (leaf_at c)

-- what is known of the names that have values
abbrev pub held : Contents → List Entry
held c = take c.taken c.entries

-- the value of each
abbrev pub values : Contents → List Value
values c = map (λ e. value_in c e.pattern) (held c)
