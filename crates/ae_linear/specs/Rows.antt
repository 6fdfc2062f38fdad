-- Rows: the values of eliminated names, and what becomes of them where a name is eliminated.
use Rattle.std.specs.Prelude.{◌≡◌, ◌≢◌, ℕ, ◌<◌, List, Option, Some, None, true}
use native.Mathlib.Decide.{ℕ_discrete}
use Rattle.ae_math.specs.Forms.{substitute}
use Rattle.ae_pmap.specs.Forest.{Forest, present, map_at, IsRoot}
use Rattle.ae_pmap.specs.Pairs.{found}
use Rattle.ae_num.specs.declared.forms.Lin.{Lin}
use Rattle.ae_num.specs.declared.numbers.Wide.{Wide}
use Rattle.ae_num.specs.Forms.{meaning, SameMeaning, IsNormal, has_key, first_wide, subst_steps}
use Rattle.ae_linear.specs.declared.occurrences.Link.{Link}
use Rattle.ae_linear.specs.declared.rows.Row.{Row}
use Rattle.ae_linear.specs.declared.rows.Shared.{Shared}
use Rattle.ae_linear.specs.Inner.Occurrences.{AreLinked, AreHeadsBy, OccursBy}

-- ---- rows as functions from names
abbrev pub value_of : Option Row → Option Lin
value_of None = None
value_of (Some row) = Some row.value

-- none of the form's names has a row
abbrev pub IsFree : (ℕ → Option Row) → Lin → Type 0
IsFree rows form = (key : ℕ) → has_key form.parts key ≡ true → rows key ≡ None

-- each value is in the normal form, and none of its names has a row
pub record AreRows (rows : ℕ → Option Row) : Type 0 where
  pub normal : (n : ℕ) (row : Row) → rows n ≡ Some row → IsNormal row.value
  pub free : (n : ℕ) (row : Row) → rows n ≡ Some row → IsFree rows row.value

-- the value is put for the name in a row
pub record IsSubstituted (old : Row) (name : ℕ) (value : Lin) (new : Row) : Type 0 where
  pub form : SameMeaning (meaning new.value) (substitute ℕ_discrete (meaning old.value) name (meaning value))
  pub normal : IsNormal new.value
  pub just : new.just ≡ old.just

abbrev pub IsSubstitutedAt : Option Row → ℕ → Lin → Option Row → Type 0
IsSubstitutedAt None name value new = new ≡ None
IsSubstitutedAt (Some row) name value o = (new : Row) × (o ≡ Some new) × IsSubstituted row name value new

-- the name has the value, which is put for it in all other rows
pub record ArePut (old : ℕ → Option Row) (name : ℕ) (value : Lin) (just : ℕ) (new : ℕ → Option Row) : Type 0 where
  pub row : new name ≡ Some (record { value = value; just = just })
  pub others : (n : ℕ) → n ≢ name → IsSubstitutedAt (old n) name value (new n)

-- no stated product or sum leaves the limits where the value is put for the name in the row
abbrev pub FitsAt : Option Row → ℕ → Lin → Type 0
FitsAt o name value = (row : Row) → o ≡ Some row → first_wide (subst_steps row.value name value) ≡ None

-- the first that leaves them there
pub record IsWideAt (o : Option Row) (name : ℕ) (value : Lin) (wide : Wide) : Type 0 where
  pub row : Row
  pub there : o ≡ Some row
  pub leaves : first_wide (subst_steps row.value name value) ≡ Some wide

-- the first that leaves them, rows taken by rising name
pub record IsFirstWide (rows : ℕ → Option Row) (name : ℕ) (value : Lin) (wide : Wide) : Type 0 where
  pub at : ℕ
  pub leaves : IsWideAt (rows at) name value wide
  pub before : (n : ℕ) → n < at → FitsAt (rows n) name value

-- ---- rows in persistent maps
-- the map of the rows, and what finds those that have a name
pub record Contents : Type 0 where
  pub rows : Forest Row
  pub heads : Forest ℕ
  pub links : List Link

-- the row of a name
abbrev pub row_at : Contents → ℕ → Option Row
row_at c n = found (present c.rows) n

-- the rows are found by each name that they have
pub record AreIndexed (rows : ℕ → Option Row) (heads : ℕ → Option ℕ) (links : List Link) : Type 0 where
  pub are_rows : AreRows rows
  pub are_linked : AreLinked links
  pub are_heads : AreHeadsBy heads links
  pub finds : (n key : ℕ) (row : Row) → rows n ≡ Some row → has_key row.value.parts key ≡ true → OccursBy heads links key n

-- the version fits the rows
pub record Fits (c : Contents) (shared : Shared) : Type 0 where
  pub rows : IsRoot c.rows shared.rows
  pub heads : IsRoot c.heads shared.heads
  pub indexed : AreIndexed (λ n. found (map_at c.rows shared.rows) n) (λ n. found (map_at c.heads shared.heads) n) c.links

-- the version fits the rows and stands for those of the function
pub record StandsFor (c : Contents) (shared : Shared) (rows : ℕ → Option Row) : Type 0 where
  pub fits : Fits c shared
  pub is : (n : ℕ) → found (map_at c.rows shared.rows) n ≡ rows n

-- each version goes on standing for its rows
abbrev pub Lasts : Contents → Contents → Type 0
Lasts old new = (shared : Shared) (rows : ℕ → Option Row) → StandsFor old shared rows → StandsFor new shared rows
