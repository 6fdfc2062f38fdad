-- Rows that agree with a journal, over integers too, and the licences of the steps that make their point after the rest of their combinations was noted.
use Rattle.std.specs.Prelude.{ℕ, Bool, true, List, [], ◌∷◌, ◌++◌, ◌≡◌, ◌≢◌, ◌⊎◌, slice_get, Some}
use Rattle.std.specs.List.{Contains}
use Rattle.ae_math.specs.Fractions.{zero_ℚ}
use Rattle.ae_core.specs.Sorts.{sort_of}
use Rattle.ae_core.specs.declared.terms.Term.{Term}
use Rattle.ae_core.specs.declared.terms.Sort.{Int}
use Rattle.ae_core.specs.declared.formulas.Lit.{Lit}
use Rattle.ae_num.specs.declared.forms.Lin.{Lin}
use Rattle.ae_num.specs.Forms.{meaning}
use Rattle.ae_rows.specs.Rows.{IsOver, factor_at}
use Rattle.ae_journal.specs.Values.{sum_of_lin, sum_in, minus_val}
use Rattle.ae_journal.specs.States.{inequality}
use Rattle.ae_journal.specs.Journals.{OnlyCombines}
use Rattle.ae_journal.specs.Standing.{Setting, MayStand, SurelyStands, IsWholeRow, value_now}
use Rattle.ae_journal.specs.Rows.{IsRow}
use Rattle.ae_journal.specs.Legal.{AreLegal}
use Rattle.ae_journal.specs.Points.{NoneLeft}
use Rattle.ae_journal.specs.Licences.{IsLicensed}
use Rattle.ae_journal.specs.declared.lines.Line.{Line}
use Rattle.ae_journal.specs.declared.lines.Line.TheVariants as line
use Rattle.ae_journal.specs.declared.answers.WideAt.{WideAt}
use Rattle.ae_combine_lines.specs.Laws.{IsSure}
use Rattle.ae_ineq.specs.Sums.{IsZero}
use Rattle.ae_ineq.specs.Widths.{IsPointWide}
use Rattle.ae_bounds.specs.declared.rows.Row.{Row}
use Rattle.ae_bounds.specs.declared.rows.Origin.TheVariants.{Assumed, Combined}
use Rattle.ae_bounds.specs.Rounding.{AreSettled}
use Rattle.ae_bounds.specs.Combinations.{IsExtended}
use Rattle.ae_bound_lines.specs.Standing.{AreStanding}
use Rattle.ae_bound_points.specs.Points.{IsNonzeroRow}
use Rattle.ae_bound_widths.specs.Fractions.{IsNoted, AreFinished}
use Rattle.ae_bound_rest.specs.Rest.{counted, AreNoted, AreAllNoted, AreWide}

-- the name has the sort `int`
abbrev pub IsWholeName : Setting → ℕ → Type 0
IsWholeName x k = (t : Term) × (slice_get x.names k ≡ Some t) × (sort_of x.problem.signature t ≡ Some Int)

-- the row stands, as one of sort `int` where it is one
pub record IsStanding (x : Setting) (js : List Line) (r : Row) : Type 0 where
  pub stands : IsOver 0 (meaning r.lin) ⊎ IsRow x js r.strict (sum_of_lin r.lin)
  pub whole : r.integral ≡ true → r.lin.parts ≢ [] → IsWholeRow x js r.strict r.lin

-- its names have the sort `int` exactly where the row has
pub record IsSorted (x : Setting) (r : Row) : Type 0 where
  pub whole : (k : ℕ) → factor_at k (meaning r.lin) ≢ zero_ℚ → r.integral ≡ true → IsWholeName x k
  pub integral : (k : ℕ) → factor_at k (meaning r.lin) ≢ zero_ℚ → IsWholeName x k → r.integral ≡ true

-- rows that agree with a journal: they stand, rounded and as they were before; the row of each inequality literal that surely stands was assumed and counts, each `Combine` line
-- that stands is that of a row, and each combination that isn't 0 has its line
pub record AreAgreed (x : Setting) (js : List Line) (rows : List Row) : Type 0 where
  pub standing : AreStanding x js rows
  pub was : (r : Row) (tag : ℕ) → Contains rows r → r.from ≡ Assumed tag → IsStanding x js (counted r)
  pub sorted : (r : Row) → Contains rows r → IsSorted x r
  pub literals : (l : Lit) (s t : Term) (strict : Bool) → SurelyStands x js l → inequality l ≡ Some (s, t, strict)
      → (r : Row) × (tag : ℕ) × Contains rows r × (r.from ≡ Assumed tag) × (r.counts ≡ true) × (sum_of_lin (counted r).lin ≡ sum_in (minus_val (value_now x js s) (value_now x js t)))
  pub lines : (before after : List Line) (b : Bool) (h : Lin) → js ≡ before ++ line.Combine b h ∷ after → OnlyCombines after
      → (r : Row) × (lower : ℕ) × (upper : ℕ) × Contains rows r × (r.from ≡ Combined lower upper) × (r.lin ≡ h) × (r.strict ≡ b)
  pub noted : (r : Row) (lower upper : ℕ) → Contains rows r → r.from ≡ Combined lower upper → ¬ IsZero (meaning r.lin) → IsNoted js r

-- the row of each inequality literal that may stand was assumed, and each row that was assumed and counts is that of one which surely stands
pub record AreThoseAssumed (x : Setting) (js : List Line) (rows : List Row) : Type 0 where
  pub may : (l : Lit) (s t : Term) (strict : Bool) → MayStand x js l → inequality l ≡ Some (s, t, strict)
      → (r : Row) × (tag : ℕ) × Contains rows r × (r.from ≡ Assumed tag) × (sum_of_lin (counted r).lin ≡ sum_in (minus_val (value_now x js s) (value_now x js t))) × ((counted r).strict ≡ strict)
      × (sort_of x.problem.signature s ≡ Some Int → r.integral ≡ true)
  pub sure : (r : Row) (tag : ℕ) → Contains rows r → r.from ≡ Assumed tag → r.counts ≡ true → IsSure x js (sum_of_lin (counted r).lin)

-- ---- laws
-- rows that agree still do after combinations of them were noted
abbrev pub AgreementIsKept : Type 0
AgreementIsKept = (x : Setting) (rows rs : List Row) (js ks : List Line) → AreAgreed x js rows → IsExtended rows js rs ks → AreAgreed x ks rs

-- the lines of the rest are legal
abbrev pub RestIsLegal : Type 0
RestIsLegal = (x : Setting) (bound : ℕ) (rows : List Row) (js ks : List Line) → AreAgreed x js rows → AreFinished rows → AreNoted rows js ks → (added : List Line) × (ks ≡ js ++ added) × AreLegal x bound js added

-- a width of the combinations of the rest is licensed
abbrev pub RestWidthsAreLicensed : Type 0
RestWidthsAreLicensed = (x : Setting) (rows : List Row) (js ks : List Line) (w : WideAt) → AreAgreed x js rows → AreFinished rows → AreWide rows js ks w → IsLicensed x ks w

-- after the rest was noted no combination is left, and a step of the making of the point of the kept rows that leaves the limits is licensed
abbrev pub RestLeavesNothing : Type 0
RestLeavesNothing = (x : Setting) (rows : List Row) (js ks : List Line) → AreAgreed x js rows → AreFinished rows → AreAllNoted rows js ks → AreThoseAssumed x ks rows → NoneLeft x ks

abbrev pub MakingWidthsAreLicensed : Type 0
MakingWidthsAreLicensed = (x : Setting) (rows : List Row) (js ks : List Line) (w : WideAt) → AreAgreed x js rows → AreFinished rows → AreSettled rows → AreAllNoted rows js ks → AreThoseAssumed x ks rows → IsPointWide (IsNonzeroRow rows) w
    → IsLicensed x ks w
