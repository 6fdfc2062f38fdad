-- Names of one sort and one value.
use Rattle.std.specs.Prelude.{ℕ, ◌≤◌, Bool, false, ◌||◌, ◌&&◌, nat_eq, Option, Some, slice_get, IsTrue}
use Rattle.ae_base.specs.Decided.{decide, decided}
use Rattle.ae_core.specs.Decided.{Sort_discrete}
use Rattle.ae_num.specs.contracts.forms.Value as value_contract
use Rattle.ae_num.specs.declared.forms.Value.{Value}
use Rattle.ae_value_table.specs.declared.patterns.Entry.{Entry}
use Rattle.ae_value_table.specs.Table.{Contents, value_in, held}

pub Value_discrete : Discrete Value
Value_discrete = decide value_contract.the_row.coded

abbrev pub alike_entries : Contents → Option Entry → Option Entry → Bool
alike_entries c (Some a) (Some b) = decided (Sort_discrete a.sort b.sort) && decided (Value_discrete (value_in c a.pattern) (value_in c b.pattern))
alike_entries c _ _ = false

-- the names are one, or of one sort and one value
abbrev pub alike : Contents → ℕ → ℕ → Bool
alike c m n = nat_eq m n || alike_entries c (slice_get (held c) m) (slice_get (held c) n)

-- the least of the names that are alike
pub record IsLeastAlike (c : Contents) (n least : ℕ) : Type 0 where
  pub alike_to : IsTrue (alike c least n)
  pub first : (m : ℕ) → IsTrue (alike c m n) → least ≤ m
