-- After the rows were solved.
use Rattle.std.specs.Prelude.{ℕ, ◌≡◌, Bool, List, length, Some, Ok, Result}
use Rattle.std.specs.List.{Contains}
use Rattle.std.proofs.Common.{arith, sym, ap, ◌∙◌, subst}
use Rattle.ae_base.proofs.AllOf.{all_push}
use Rattle.ae_agreed_rows.specs.Kept.{AreRowsOf, HasAllThatMay}
use Rattle.ae_agreed_rows.proofs.Assumed.{combined_rows_are_of, those_rows_are_assumed}
use Rattle.ae_agreed_rows.proofs.Points.{points_satisfy_literals}
use Rattle.ae_bound_blocks.specs.Ancestors.{hyps_of}
use Rattle.ae_bound_blocks.specs.declared.given.Given.{Given}
use Rattle.ae_bound_points.specs.Points.{ArePositiveAt}
use Rattle.ae_bound_rest.specs.Laws.{AreAgreed, AreThoseAssumed}
use Rattle.ae_bound_solve.specs.Widths.{AreNotedOrNone}
use Rattle.ae_bounds.specs.Combinations.{IsExtended}
use Rattle.ae_bounds.specs.Combinations.IsExtended.{as_it_was, one_more, zero_more}
use Rattle.ae_bounds.specs.declared.rows.Row.{Row}
use Rattle.ae_core.specs.declared.formulas.Lit.{Lit}
use Rattle.ae_core.specs.declared.terms.Term.{Term}
use Rattle.ae_explain.specs.declared.trail.Assigned.{Assigned}
use Rattle.ae_inequalities.specs.Held.{Held, AreOfTags, Fits, tags_at}
use Rattle.ae_journal.specs.Standing.{Setting, value_now}
use Rattle.ae_journal.specs.States.{at_point, inequality, HoldsAt}
use Rattle.ae_journal.specs.Values.{minus_val, sum_in}
use Rattle.ae_journal.specs.declared.lines.Line.{Line}
use Rattle.ae_journal.specs.declared.systems.PointAt.{PointAt}
use Rattle.ae_kept_rows.specs.declared.solving.Solved.{Solved}
use Rattle.ae_kept_rows.specs.Kept.{AreInStepWith, AreRowsFor}
use Rattle.ae_kept_rows.proofs.Adding.{AreAll, AreNormal, all_of}
use Rattle.ae_literal_rows.specs.Trails.{literals_from}
use Rattle.ae_num.specs.Forms.{IsNormal}
use Rattle.ae_sat.specs.Marked.{atoms}
use Rattle.ae_store.specs.Stores.{Stored}
use Rattle.ae_theory.specs.Noting.{IsBlockOf}
use Rattle.ae_theory.specs.Tagged.{Tagged}
use Rattle.ae_theory.specs.declared.theory.Fail.{Fail}

-- tags and what gives the rows stay
tags_still : (ts : List Tagged) (old new : Held) → new.given ≡ old.given → new.tags ≡ old.tags → AreOfTags ts old → AreOfTags ts new
tags_still ts old new g t h = subst (λ (z : List Given × List (List ℕ)). (k : ℕ) → IsBlockOf ts (hyps_of z.0 k) (tags_at z.1 k)) (λ i. (sym g i, sym t i)) h

pub rows_for : (s : Stored) (t : List Assigned) (ts : List Tagged) (old new : Held) (lines : ℕ) → ts ≡ atoms t → new.given ≡ old.given → new.tags ≡ old.tags → Fits s new → AreOfTags ts old → length old.tags ≡ length old.given
    → AreRowsFor s t (record { bounds = new; literals = length t; lines = lines })
rows_for s t ts old new lines told g k fits tags even = record {
  fits = fits;
  literals = omega arith;
  tags = subst (λ (us : List Tagged). AreOfTags us new) told (tags_still ts old new g k tags);
  even = ap length k ∙ even ∙ sym (ap length g);
}

pub solved_is : (a b : Solved) → ◌≡◌ {A = Result Solved Fail} (Ok a) (Ok b) → a ≡ b
solved_is a b e = let d : a ≡ b = cc e in d

abbrev pub IsComing : List Row → List Line → List Row → List Line → Type 0
IsComing rows js rs ks = (middle : List Line) × IsExtended rows js rs middle × AreNotedOrNone rs middle ks

normal_on : (rows : List Row) (js : List Line) (rs : List Row) (ks : List Line) → IsExtended rows js rs ks → AreNormal rows → AreNormal rs
normal_on rows js _ _ as_it_was h = h
normal_on rows js _ _ (one_more rs ks r e c none) h = all_push (λ (q : Row). IsNormal q.lin) rs r (normal_on rows js rs ks e h) (c.of).normal
normal_on rows js _ _ (zero_more rs ks r e c zero) h = all_push (λ (q : Row). IsNormal q.lin) rs r (normal_on rows js rs ks e h) (c.of).normal

module _ (x : Setting) (js ks : List Line) (t : List Assigned) (rows rs : List Row) (all : AreAll x js t rows) (come : IsComing rows js rs ks) where
  now_of : AreRowsOf x ks (literals_from t 0) rs
  now_of = combined_rows_are_of x js come.0 ks (literals_from t 0) rows rs all.0 come.1 come.2

  pub in_step_after : (new : Held) (lines : ℕ) → new.rows ≡ rs → AreAgreed x ks rs → AreInStepWith x ks t (record { bounds = new; literals = length t; lines = lines })
  in_step_after new lines is agreed = record {
    rows = subst (λ (z : List Lit × List Row). AreRowsOf x ks z.0 z.1) (λ i. (sym (all_of t) i, sym is i)) now_of;
    agreed = subst (AreAgreed x ks) (sym is) agreed;
    normal = subst AreNormal (sym is) (normal_on rows js rs come.0 come.1 all.2);
  }

  pub assumed_after : HasAllThatMay x ks (literals_from t 0) → AreThoseAssumed x ks rs
  assumed_after sure = those_rows_are_assumed x ks (literals_from t 0) rs now_of sure

  pub point_after : (made : List PointAt) → ArePositiveAt (at_point made) rs → (l : Lit) (u w : Term) (strict : Bool) → Contains (literals_from t 0) l → inequality l ≡ Some (u, w, strict)
      → HoldsAt made strict (sum_in (minus_val (value_now x ks u) (value_now x ks w)))
  point_after made positive l u w strict c e = points_satisfy_literals x ks (literals_from t 0) rs made now_of positive l u w strict c e
