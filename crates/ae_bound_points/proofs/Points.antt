-- The stages of kept rows have the same forms with names as the rows.
use Rattle.std.specs.Prelude.{ℕ, ◌≡◌, Option, Some, None, List}
use Rattle.std.specs.List.{AllByRecursion, Contains}
use Rattle.std.proofs.Common.{arith, refl, sym, subst, inl, inr}
use Rattle.ae_math.specs.Forms.{Form}
use Rattle.ae_num.specs.declared.forms.Part.{Part}
use Rattle.ae_num.specs.Forms.{meaning, IsNormal}
use Rattle.ae_journal.proofs.Splits.{all_contained}
use Rattle.ae_ineq.specs.declared.elimination.Stage.{Stage}
use Rattle.ae_ineq.specs.Inner.Sets.{last_part, HasStage}
use Rattle.ae_ineq.proofs.LastLaws.{over_none}
use Rattle.ae_ineq.proofs.Stages.{IsTop, lower_top, upper_top}
use Rattle.ae_bounds.specs.declared.rows.Row.{Row}
use Rattle.ae_bound_points.specs.Points.{IsNonzeroRow}
use Rattle.ae_bound_points.specs.Inner.Stages.{AreStaged}
use Rattle.ae_bound_points.proofs.Same.{IsSomeOf}

pub some_top : (n : ℕ) (f : Form ℕ) → IsSomeOf n f → IsTop n f
some_top n f (inl low) = lower_top n f low
some_top n f (inr up) = upper_top n f up

module _ (rows : List Row) (normal : AllByRecursion (λ (r : Row). IsNormal r.lin) rows) (made : List Stage) (staged : AreStaged rows 0 made) where
  pub to_rows : (n : ℕ) (f : Form ℕ) → IsSomeOf n f → HasStage made f → IsNonzeroRow rows f
  to_rows n f s h = staged.own f h

  -- a form with a name has a last part
  by_last : (n : ℕ) (r : Row) → Contains rows r → IsSomeOf n (meaning r.lin) → (o : Option Part) → last_part r.lin.parts ≡ o → HasStage made (meaning r.lin)
  by_last n r c s None e = absurd ((some_top n (meaning r.lin) s).there ((over_none r.lin 0 (all_contained (λ (t : Row). IsNormal t.lin) rows r normal c) e).absent n (omega arith)))
  by_last n r c s (Some p) e = staged.all r p c e (omega arith)

  pub to_stages : (n : ℕ) (f : Form ℕ) → IsSomeOf n f → IsNonzeroRow rows f → HasStage made f
  to_stages n f s h = subst (HasStage made) h.is (by_last n h.row h.among (subst (IsSomeOf n) (sym h.is) s) (last_part h.row.lin.parts) refl)
