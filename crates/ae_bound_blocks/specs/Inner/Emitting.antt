-- Lines for the first ones of the rows.
use Rattle.std.specs.Prelude.{ℕ, suc, ◌<◌, Bool, true, false, ◌||◌, List, [], ◌∷◌, ◌++◌, ◌≡◌, take, length, slice_get, get_or, Some, None}
use Rattle.std.specs.List.{Contains, flat_map}
use Rattle.ae_core.specs.declared.terms.Term.{Term}
use Rattle.ae_core.specs.declared.problems.Signature.{Signature}
use Rattle.ae_core.specs.declared.proofs.EqLine.{EqLine}
use Rattle.ae_core.specs.declared.proofs.Deriv.{Deriv}
use Rattle.ae_num.specs.Forms.{meaning, SameMeaning, IsNormal, first_wide, combine_steps}
use Rattle.ae_rows.specs.Rows.{combination, IsLower, IsUpper}
use Rattle.ae_rules.specs.Lines.{Fact, Stated, AllAllowed, fact_ok}
use Rattle.ae_bounds.specs.declared.rows.Row.{Row}
use Rattle.ae_bounds.specs.declared.rows.Unrounded.{Unrounded}
use Rattle.ae_bounds.specs.Rounding.{WasRounded}
use Rattle.ae_rounding.specs.Laws.{AreOpaque}
use Rattle.ae_store.specs.Terms.{named}
use Rattle.ae_bounds.specs.declared.rows.Origin.TheVariants.{Assumed}
use Rattle.ae_bounds.specs.Findings.{AreFounded}
use Rattle.ae_trim.specs.Inner.Marks.{marked}
use Rattle.ae_bound_blocks.specs.declared.given.Given.{Given}
use Rattle.ae_bound_blocks.specs.declared.emitting.Emitted.{Emitted}
use Rattle.ae_bound_blocks.specs.Ancestors.{sources_at, tags_of, hyps_of}
use Rattle.ae_bound_blocks.specs.Said.{kept, was, row_fact, AreBuilt, AreNumbersOf, HasNumbers, IsGiven}

-- a form is the combination of two others
pub record IsCombinationOf (first second r : Unrounded) : Type 0 where
  pub name : ℕ
  pub below : IsLower name (meaning first.lin)
  pub above : IsUpper name (meaning second.lin)
  pub first_normal : IsNormal first.lin
  pub second_normal : IsNormal second.lin
  pub strict : r.strict ≡ first.strict || second.strict
  pub normal : IsNormal r.lin
  pub same : SameMeaning (meaning r.lin) (combination name (meaning first.lin) (meaning second.lin))
  pub fits : first_wide (combine_steps first.lin name second.lin) ≡ None

-- the line of this number says the form
pub record IsSaid (sig : Signature) (ts : List Term) (real : Bool) (lines : List EqLine) (line : ℕ) (r : Unrounded) : Type 0 where
  pub stated : Stated lines line (row_fact ts real r.strict r.lin)
  pub numbers : AreNumbersOf sig ts real r.lin
  pub integers : HasNumbers sig ts real

-- allowed lines, after the old ones, of which the last says the form; the new ones are between terms that are built of the names
pub record IsSaidAfter (sig : Signature) (ts : List Term) (real : Bool) (old new : Deriv) (r : Unrounded) : Type 0 where
  pub allowed : AllAllowed sig (fact_ok sig) new.hyps [] new.lines
  pub before : (k : ℕ) (f : Fact) → Stated old.lines k f → Stated new.lines k f
  pub some : 0 < length new.lines
  pub last : (k : ℕ) → suc k ≡ length new.lines → IsSaid sig ts real new.lines k r
  pub built : AreBuilt sig ts old.lines → AreBuilt sig ts new.lines

-- a row that was rounded is over integers, and the names of the form that it had are opaque terms, different names different ones
abbrev pub IsRoundable : List Term → Bool → Row → Type 0
IsRoundable ts real r = (u : Unrounded) → r.unrounded ≡ Some u → WasRounded u r × (real ≡ false) × AreOpaque (named ts) u.lin

-- lines that say one row more, and the number of the last
pub record IsMore (sig : Signature) (ts : List Term) (real : Bool) (old new : Emitted) (r : Row) : Type 0 where
  pub said : IsSaidAfter sig ts real old.deriv new.deriv (kept r)
  pub place : ℕ
  pub last : suc place ≡ length new.deriv.lines
  pub places : new.places ≡ old.places ++ place ∷ []

-- what the lines of the marked rows rest on: these are closed under parents, and the assumed ones are given
pub record AreReady (sig : Signature) (ts : List Term) (real : Bool) (rows : List Row) (given : List Given) (marks : List Bool) : Type 0 where
  pub size : length marks ≡ length rows
  pub normal : (k : ℕ) (r : Row) → slice_get rows k ≡ Some r → IsNormal r.lin
  pub founded : AreFounded rows
  pub roundable : (k : ℕ) (r : Row) → marked marks k ≡ true → slice_get rows k ≡ Some r → IsRoundable ts real r
  pub closed : (k p : ℕ) → marked marks k ≡ true → Contains (sources_at true rows k) p → marked marks p ≡ true
  pub each_given : (k tag : ℕ) (r : Row) → marked marks k ≡ true → slice_get rows k ≡ Some r → r.from ≡ Assumed tag → (g : Given) × (slice_get given tag ≡ Some g) × IsGiven sig ts real (was r) g

-- the marked ones of the first rows are said by lines, the last of these, where it is marked, by the last one
pub record AreEmitted (sig : Signature) (ts : List Term) (real : Bool) (rows : List Row) (given : List Given) (marks : List Bool) (count : ℕ) (e : Emitted) : Type 0 where
  pub allowed : AllAllowed sig (fact_ok sig) e.deriv.hyps [] e.deriv.lines
  pub places : length e.places ≡ count
  pub said : (k : ℕ) (r : Row) → k < count → marked marks k ≡ true → slice_get rows k ≡ Some r → IsSaid sig ts real e.deriv.lines (get_or e.places k 0) (kept r)
  pub last : (k : ℕ) → suc k ≡ count → marked marks k ≡ true → suc (get_or e.places k 0) ≡ length e.deriv.lines
  pub tags : e.tags ≡ tags_of (take count marks) rows
  pub hyps : e.deriv.hyps ≡ flat_map (hyps_of given) e.tags
  pub built : AreBuilt sig ts e.deriv.lines
