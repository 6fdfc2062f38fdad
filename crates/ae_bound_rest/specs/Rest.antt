-- Rows that count in a journal, their roundings, and the combinations of these.
use Rattle.std.specs.Prelude.{ℕ, Bool, true, false, ◌&&◌, ◌||◌, Option, Some, None, List, [], ◌∷◌, ◌++◌, map, ◌≡◌, ◌≢◌, ◌⊎◌}
use Rattle.std.specs.List.{Contains}
use Rattle.ae_num.specs.declared.forms.Lin.{Lin}
use Rattle.ae_num.specs.Forms.{meaning, SameMeaning, IsNormal, first_wide, combine_steps}
use Rattle.ae_rows.specs.Rows.{combination, IsLower, IsUpper}
use Rattle.ae_journal.specs.Sides.{IsRounded}
use Rattle.ae_journal.specs.declared.answers.NumStep.TheVariants.{Combine}
use Rattle.ae_journal.specs.declared.answers.WideAt.{WideAt}
use Rattle.ae_journal.specs.declared.lines.Line.{Line}
use Rattle.ae_journal.specs.declared.lines.Line.TheVariants as line
use Rattle.ae_bounds.specs.declared.rows.Row.{Row}
use Rattle.ae_bounds.specs.declared.rows.Unrounded.{Unrounded}
use Rattle.ae_bounds.specs.declared.rows.Origin.{Origin}
use Rattle.ae_bounds.specs.declared.rows.Origin.TheVariants.{Assumed, Combined}
use Rattle.ae_bounds.specs.Combinations.{IsThere}

-- a row of a form that isn't rounded
abbrev pub plain : Lin → Bool → Bool → Bool → Row
plain l strict integral counts = record { lin = l; strict = strict; integral = integral; unrounded = None; counts = counts; from = Assumed 0 }

-- the row that counts in a journal: an assumed one as it was before it was rounded, a combination as it is
abbrev pub counted_of : Origin → Option Unrounded → Row → Row
counted_of (Assumed tag) (Some u) r = plain u.lin u.strict r.integral r.counts
counted_of (Assumed tag) None r = plain r.lin r.strict r.integral r.counts
counted_of (Combined lower upper) u r = plain r.lin r.strict r.integral true

abbrev pub counted : Row → Row
counted r = counted_of r.from r.unrounded r

-- the second row is the first one rounded, which is over integers
pub record IsRoundingOf (p r : Row) : Type 0 where
  pub whole : p.integral ≡ true
  pub names : p.lin.parts ≢ []
  pub normal : IsNormal r.lin
  pub is : IsRounded p.strict p.lin r.lin
  pub own : r ≡ plain r.lin false true p.counts

-- one of the rows, or one of them rounded
abbrev pub IsStandingIn : List Row → Row → Type 0
IsStandingIn sure p = Contains sure p ⊎ ((s : Row) × Contains sure s × IsRoundingOf s p)

-- two of these on the largest name of both
pub record AreOpposedIn (sure : List Row) (first second : Row) (name : ℕ) : Type 0 where
  pub first_in : IsStandingIn sure first
  pub second_in : IsStandingIn sure second
  pub normal : IsNormal first.lin × IsNormal second.lin
  pub below : IsLower name (meaning first.lin)
  pub above : IsUpper name (meaning second.lin)

-- the row of a form, or that row rounded
abbrev pub IsFormRow : Lin → Bool → Bool → Row → Type 0
IsFormRow l strict integral r = (r ≡ plain l strict integral true) ⊎ IsRoundingOf (plain l strict integral true) r

-- the combination of two of these, rounded or not
pub record IsMade (sure : List Row) (r : Row) : Type 0 where
  pub first : Row
  pub second : Row
  pub name : ℕ
  pub opposed : AreOpposedIn sure first second name
  pub form : Lin
  pub form_normal : IsNormal form
  pub same : SameMeaning (meaning form) (combination name (meaning first.lin) (meaning second.lin))
  pub is : IsFormRow form (first.strict || second.strict) (first.integral && second.integral) r

-- combinations were noted one after the other, none a positive multiple of a row that counts
pub data IsGrown (start : List Row) (js : List Line) : List Row → List Line → Type 0 where
  as_it_was : IsGrown start js start js
  one_more : (sure : List Row) (ks : List Line) (r : Row) → IsGrown start js sure ks → IsMade sure r → IsNormal r.lin → ¬ IsThere sure (meaning r.lin)
      → IsGrown start js (sure ++ r ∷ []) (ks ++ line.Combine r.strict r.lin ∷ [])

-- the combination of two rows, and what it is rounded, are positive multiples of rows that count
pub record IsDoneIn (sure : List Row) (first second : Row) (name : ℕ) : Type 0 where
  pub form : Lin
  pub normal : IsNormal form
  pub same : SameMeaning (meaning form) (combination name (meaning first.lin) (meaning second.lin))
  pub there : IsThere sure (meaning form)
  pub rounded : (r : Row) → IsRoundingOf (plain form (first.strict || second.strict) (first.integral && second.integral) true) r → IsThere sure (meaning r.lin)

-- so it is for each two of them
abbrev pub IsComplete : List Row → Type 0
IsComplete sure = (p q : Row) (n : ℕ) → AreOpposedIn sure p q n → IsDoneIn sure p q n

-- the width is the first of the combination of two of them
pub record IsWideOf (sure : List Row) (w : WideAt) : Type 0 where
  pub name : ℕ
  pub first : Row
  pub second : Row
  pub opposed : AreOpposedIn sure first second name
  pub step : w.step ≡ Combine
  pub left : w.left ≡ first.lin
  pub key : w.key ≡ Some name
  pub right : w.right ≡ second.lin
  pub wide : first_wide (combine_steps first.lin name second.lin) ≡ Some w.wide

-- what was noted: the rows that count, beginning with those of the kept ones, and the lines
pub record AreNoted (rows : List Row) (js ks : List Line) : Type 0 where
  pub sure : List Row
  pub grown : IsGrown (map counted rows) js sure ks

-- and then no combination is left
pub record AreAllNoted (rows : List Row) (js ks : List Line) : Type 0 where
  pub sure : List Row
  pub grown : IsGrown (map counted rows) js sure ks
  pub complete : IsComplete sure
  pub normal : (r : Row) → Contains sure r → IsNormal r.lin

-- a combination on the way has left the limits
pub record AreWide (rows : List Row) (js ks : List Line) (w : WideAt) : Type 0 where
  pub sure : List Row
  pub grown : IsGrown (map counted rows) js sure ks
  pub wide : IsWideOf sure w
