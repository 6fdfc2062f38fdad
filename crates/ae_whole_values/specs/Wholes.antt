-- Values of integers, and which of them are whole.
use Rattle.std.specs.Prelude.{ℕ, List, ◌∷◌, ◌≡◌, map, slice_get, Some, unsigned_abs}
use Rattle.std.specs.List.{AllByRecursion}
use Rattle.ae_core.specs.declared.terms.Head.{Head}
use Rattle.ae_core.specs.declared.terms.Sort.{Sort, Int}
use Rattle.ae_core.specs.declared.terms.Term.{Term, Apply}
use Rattle.ae_num.specs.Forms.{IsCommonDivisor}
use Rattle.ae_num.specs.declared.forms.Lin.{Lin}
use Rattle.ae_journal.specs.Systems.{IsName, IsNamed}
use Rattle.ae_journal.specs.declared.systems.System.{System}
use Rattle.ae_linear.specs.declared.rows.Row.{Row}
use Rattle.ae_linear.specs.Rows.{row_at}
use Rattle.ae_value_table.specs.declared.patterns.Entry.{Entry}
use Rattle.ae_value_table.specs.Table.{Contents, held, number_at, just_at}

-- no number but 1 divides the denominator and all factors
abbrev pub IsWhole : Lin → Type 0
IsWhole f = IsCommonDivisor (unsigned_abs f.den ∷ map (λ p. unsigned_abs p.factor) f.parts) 1

-- ---- what is held of names
-- the name is one of integers, and has a value
pub record IsIntegerName (c : Contents) (n : ℕ) : Type 0 where
  pub entry : Entry
  pub at : slice_get (held c) n ≡ Some entry
  pub sort : entry.sort ≡ Int

-- the values of all such names are whole
abbrev pub AreAllWhole : Contents → Type 0
AreAllWhole c = (n : ℕ) → IsIntegerName c n → IsWhole (number_at c n)

-- the step of this number says the value of such a name, and that isn't whole
pub record IsFraction (c : Contents) (step : ℕ) : Type 0 where
  pub name : ℕ
  pub integer : IsIntegerName c name
  pub row : Row
  pub there : row_at c.rows name ≡ Some row
  pub just : just_at c name ≡ Some step
  pub not_whole : ¬ IsWhole row.value

-- ---- terms
-- the arguments of named terms have names
abbrev pub HaveArguments : System → Type 0
HaveArguments y = (n : ℕ) (h : Head) (ss : List Sort) (us : List Term) → IsName y n (Apply h ss us) → AllByRecursion (IsNamed y) us
