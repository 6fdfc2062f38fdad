-- The rows that a row is made of, and the tags under which these were assumed.
use Rattle.std.specs.Prelude.{ℕ, Bool, true, false, Option, None, List, [], ◌∷◌, ◌++◌, ◌≡◌, ◌↔◌, slice_get, slice_index_or, Some}
use Rattle.std.specs.List.{Contains}
use Rattle.ae_base.specs.Options.{or_else, ◌>>=◌}
use Rattle.ae_core.specs.declared.formulas.Lit.{Lit}
use Rattle.ae_bounds.specs.declared.rows.Row.{Row}
use Rattle.ae_bounds.specs.declared.rows.Unrounded.{Unrounded}
use Rattle.ae_bounds.specs.declared.rows.Origin.{Origin}
use Rattle.ae_bounds.specs.declared.rows.Origin.TheVariants.{Assumed, Combined}
use Rattle.ae_bound_blocks.specs.declared.given.Given.{Given}

-- the rows, by their numbers, that a row combines
abbrev pub parents : Origin → List ℕ
parents (Assumed tag) = []
parents (Combined lower upper) = lower ∷ upper ∷ []

-- those of which it is a positive sum; a row that was rounded is none
abbrev pub summands : Option Unrounded → Origin → List ℕ
summands None o = parents o
summands (Some u) o = []

-- those that a row is made of: the ones that it combines, or where rounding isn't looked through, the ones of which it is a sum
abbrev pub sources : Bool → Row → List ℕ
sources true r = parents r.from
sources false r = summands r.unrounded r.from

abbrev pub sources_at : Bool → List Row → ℕ → List ℕ
sources_at through rows k = or_else (slice_get rows k >>= λ r. Some (sources through r)) []

-- the rows that the row of this number is made of in the end: itself, and those of which each of them is made
pub data IsSource (through : Bool) (rows : List Row) (place : ℕ) : ℕ → Type 0 where
  itself : IsSource through rows place place
  parent : (k p : ℕ) → IsSource through rows place k → Contains (sources_at through rows k) p → IsSource through rows place p

abbrev pub IsAncestor : List Row → ℕ → ℕ → Type 0
IsAncestor rows place k = IsSource true rows place k

-- the tags of the assumed ones of the marked rows, in the order of the rows
abbrev pub tag_of : Origin → List ℕ
tag_of (Assumed tag) = tag ∷ []
tag_of (Combined lower upper) = []

abbrev pub tags_of : List Bool → List Row → List ℕ
tags_of (true ∷ marks) (r ∷ rows) = tag_of r.from ++ tags_of marks rows
tags_of (false ∷ marks) (r ∷ rows) = tags_of marks rows
tags_of _ _ = []

-- the tags of exactly the assumed rows that the row is made of, each row once
pub record AreTagsOf (rows : List Row) (place : ℕ) (tags : List ℕ) : Type 0 where
  pub marks : List Bool
  pub exactly : (k : ℕ) → ((slice_index_or marks k false ≡ true) ↔ IsAncestor rows place k)
  pub are : tags ≡ tags_of marks rows

-- the hypotheses of what is given for a tag
abbrev pub hyps_of : List Given → ℕ → List Lit
hyps_of given tag = or_else (slice_get given tag >>= λ g. Some g.deriv.hyps) []
