-- The facts that say rows between terms that are written out, and the lines that give assumed rows.
use Rattle.std.specs.Prelude.{ℕ, ℤ, pos, Bool, false, cond, List, [], ◌∷◌, ◌++◌, ◌≡◌, ◌⊎◌, true, slice_get, Option, Some, None}
use Rattle.std.specs.List.{AllByRecursion}
use Rattle.ae_core.specs.declared.terms.Term.{Term}
use Rattle.ae_core.specs.declared.problems.Signature.{Signature}
use Rattle.ae_core.specs.declared.proofs.EqLine.{EqLine}
use Rattle.ae_core.specs.declared.proofs.EqLine.TheVariants.{LeSum, LtSum, LeRound}
use Rattle.ae_core.specs.declared.proofs.Relation.{Relation}
use Rattle.ae_core.specs.declared.proofs.Relation.TheVariants.{AtMost, Below}
use Rattle.ae_core.specs.declared.proofs.Scaled.{Scaled}
use Rattle.ae_num.specs.declared.forms.Lin.{Lin}
use Rattle.ae_num.specs.Forms.{meaning}
use Rattle.ae_num.specs.Limits.{FitsLimits}
use Rattle.ae_rules.specs.Built.{IsBuilt, HasFactorsWithin, HasIntegers}
use Rattle.ae_rules.specs.Lines.{Fact, states, AllAllowed, fact_ok, HaveSort}
use Rattle.ae_row_lines.specs.Says.{Says}
use Rattle.ae_store.specs.Terms.{named}
use Rattle.ae_just.specs.Sides.{side_term, whole}
use Rattle.ae_state_steps.specs.ValueSteps.{sort_for, value_side, IsNumberName}
use Rattle.ae_rounding.specs.Laws.{AreOpaque}
use Rattle.ae_bounds.specs.declared.rows.Row.{Row}
use Rattle.ae_bounds.specs.declared.rows.Unrounded.{Unrounded}
use Rattle.ae_bounds.specs.declared.rows.Origin.TheVariants.{Assumed}
use Rattle.ae_bound_blocks.specs.declared.given.Given.{Given}
use Rattle.ae_bound_blocks.specs.Ancestors.{IsAncestor}

-- the form of a row with its strictness, and those that it had before it was rounded, where it was
abbrev pub kept : Row → Unrounded
kept r = record { lin = r.lin; strict = r.strict }

abbrev pub was_of : Option Unrounded → Unrounded → Unrounded
was_of None v = v
was_of (Some u) v = u

abbrev pub was : Row → Unrounded
was r = was_of r.unrounded (kept r)

-- strictly below, or at most
abbrev pub relation_of : Bool → Relation
relation_of strict = cond strict Below AtMost

-- ---- written out
-- a form times its denominator
abbrev pub sum_term : List Term → Bool → Lin → Term
sum_term ts real l = side_term ts (value_side real l)

-- it isn't below 0, or is above 0
abbrev pub row_fact : List Term → Bool → Bool → Lin → Fact
row_fact ts real strict l = record { relation = relation_of strict; left = whole real (pos 0); right = sum_term ts real l }

abbrev pub sum_line : Bool → Term → Term → ℤ → List Scaled → EqLine
sum_line strict s t d ps = cond strict (LtSum s t d ps) (LeSum s t d ps)

-- the line that states it as a sum of earlier lines
abbrev pub row_line : List Term → Bool → Bool → Lin → ℤ → List Scaled → EqLine
row_line ts real strict l d ps = sum_line strict (whole real (pos 0)) (sum_term ts real l) d ps

-- the line that rounds what an earlier line says
abbrev pub round_line : List Term → Bool → Lin → ℕ → EqLine
round_line ts real l k = LeRound (whole real (pos 0)) (sum_term ts real l) k

-- ---- terms that are built of the names
-- whole numbers of the sort are: one of the names is an integer where the sort is `int`
abbrev pub HasNumbers : Signature → List Term → Bool → Type 0
HasNumbers sig ts real = (real ≡ true) ⊎ HasIntegers sig ts

-- the line states something of two terms that are built of the names, with factors within their limits
pub record IsBuiltLine (sig : Signature) (ts : List Term) (l : EqLine) : Type 0 where
  pub left : IsBuilt sig ts (states l).left
  pub right : IsBuilt sig ts (states l).right
  pub factors : HasFactorsWithin l

abbrev pub AreBuilt : Signature → List Term → List EqLine → Type 0
AreBuilt sig ts ls = AllByRecursion (IsBuiltLine sig ts) ls

-- ---- given
-- the names of a form are numbers of the sort
abbrev pub AreNumbersOf : Signature → List Term → Bool → Lin → Type 0
AreNumbersOf sig ts real l = AllByRecursion (λ p. IsNumberName sig ts real p.key) l.parts

-- allowed lines between terms that are built of the names, of which the last says a multiple of the form, of which each name is a number of the sort
pub record IsGiven (sig : Signature) (ts : List Term) (real : Bool) (u : Unrounded) (g : Given) : Type 0 where
  pub allowed : AllAllowed sig (fact_ok sig) g.deriv.hyps [] g.deriv.lines
  pub front : List EqLine
  pub last : EqLine
  pub lines : g.deriv.lines ≡ front ++ last ∷ []
  pub relation : (states last).relation ≡ relation_of u.strict
  pub says : Says (named ts) g.multiple (meaning u.lin) (states last)
  pub sorted : HaveSort sig (sort_for real) (states last)
  pub numbers : AreNumbersOf sig ts real u.lin
  pub integers : HasNumbers sig ts real
  pub fits : FitsLimits g.multiple
  pub built : AreBuilt sig ts g.deriv.lines

-- so it is for each assumed row of which the row of number `place` is made, as it was before it was rounded, under its tag
abbrev pub AreGiven : Signature → List Term → Bool → List Row → ℕ → List Given → Type 0
AreGiven sig ts real rows place given = (k tag : ℕ) (r : Row) → IsAncestor rows place k → slice_get rows k ≡ Some r → r.from ≡ Assumed tag
    → (g : Given) × (slice_get given tag ≡ Some g) × IsGiven sig ts real (was r) g

-- those of these rows that were rounded are over integers, and each name of one is an opaque term, different names being different terms
abbrev pub AreOpaqueRounded : List Term → Bool → List Row → ℕ → Type 0
AreOpaqueRounded ts real rows place = (k : ℕ) (r : Row) (u : Unrounded) → IsAncestor rows place k → slice_get rows k ≡ Some r → r.unrounded ≡ Some u → (real ≡ false) × AreOpaque (named ts) u.lin
