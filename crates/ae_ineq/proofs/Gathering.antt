-- The rows of inequalities.
use Rattle.std.specs.Prelude.{ℕ, zero, suc, pos, ◌≡◌, ◌⊎◌, ◌<◌, ◌<ℤ◌, true, false, List, [], ◌∷◌, ◌++◌, length, take, Option, Some, None, Contains}
use Rattle.std.proofs.Common.{arith, refl, sym, ap, ◌∙◌, subst, get_or, inl, inr}
use Rattle.std.specs.List.{AllByRecursion}
use native.Mathlib.Decide.{ℕ_discrete}
use Rattle.ae_base.proofs.AllOf.{all_push, all_weaker}
use Rattle.ae_math.specs.Fractions.{ratio}
use Rattle.ae_math.proofs.FormLaws.{same_refl}
use Rattle.ae_num.specs.declared.forms.Part.{Part}
use Rattle.ae_num.specs.declared.forms.Lin.{Lin}
use Rattle.ae_num.specs.Forms.{meaning, IsNormal}
use Rattle.ae_rows.proofs.Elimination.{positive_nonzero}
use Rattle.ae_ineq.specs.declared.solving.Inequality.{Inequality}
use Rattle.ae_ineq.specs.declared.rows.Row.{Row}
use Rattle.ae_ineq.specs.Sums.{IsZero, HasRefutedSum}
use Rattle.ae_ineq.specs.Inner.Sets.{last_part, IsRow, IsGoodRow}
use Rattle.ae_ineq.specs.Inner.Derived.{IsNonzeroSum, IsDerived, IsTaken, AreRowsOf}
use Rattle.ae_ineq.proofs.LastLaws.{ratio_positive, last_below, no_last_parts}
use Rattle.ae_ineq.proofs.RowSets.{all_at, has_left, has_right}
use Rattle.ae_ineq.proofs.Verdicts.{zero_means, refuted_means}
use Rattle.ae_ineq.proofs.Deriving.{sum_one, nonzero_one, refuted_sum}

pub derived_at : (given : List Inequality) (rows : List Row) (i : ℕ) (row : Row) → AllByRecursion (IsDerived given) rows → i < length rows → row ≡ get_or rows i row → IsDerived given row
derived_at given rows i row a l e = subst (IsDerived given) (sym e) (all_at (IsDerived given) rows i row a l)

-- one element more
all_more : {X : Type 0} (P : X → Type 0) (xs : List X) (i : ℕ) (x : X) → i < length xs → x ≡ get_or xs i x → AllByRecursion P (take i xs) → P x → AllByRecursion P (take (suc i) xs)
all_more P [] i x l e a p = absurd (omega (arith, l))
all_more P (y ∷ ys) zero x l e a p = (subst P e p, tt)
all_more P (y ∷ ys) (suc i) x l e a p = (a.0, all_more P ys i x (omega (arith, l)) e a.1 p)

taken_more : (rows : List Row) (row : Row) (i : Inequality) → IsTaken rows i → IsTaken (rows ++ row ∷ []) i
taken_more rows row i (inl h) = inl (has_left rows (row ∷ []) (meaning i.lin) h)
taken_more rows row i (inr h) = inr h

-- a form that has names, or is a positive number, isn't zero
not_zero : (l : Lin) → IsNormal l → (l.parts ≡ [] → pos 0 <ℤ l.constant) → ¬ IsZero (meaning l)
not_zero l n f z = positive_nonzero (ratio l.constant l.den) (ratio_positive l.constant l.den (f (bare (last_part l.parts) refl)) n.positive) z.constant
  where
    bare : (o : Option Part) → last_part l.parts ≡ o → l.parts ≡ []
    bare (Some p) e = let h : p.key < 0 = last_below l 0 p n z.over e in absurd (omega (arith, h))
    bare None e = no_last_parts l.parts e

module _ (given : List Inequality) where
  pub rows_none : AreRowsOf given [] []
  rows_none = record { good = tt; derived = tt; each = tt }

  -- the inequality at place k
  module _ (k : ℕ) (it : Inequality) (within : k < length given) (is : it ≡ get_or given k it) (normal : IsNormal it.lin) where
    here : Contains given it
    here = (k, within, sym is)

    pub rows_open : (rows rows' : List Row) (row : Row) → AreRowsOf given (take k given) rows → (it.lin.parts ≡ [] → pos 0 <ℤ it.lin.constant) → row.lin ≡ it.lin → row.strict ≡ it.strict → IsRow row → rows' ≡ rows ++ row ∷ []
        → AreRowsOf given (take (suc k) given) rows'
    rows_open rows rows' row a fine e s r added =
        let sum : IsNonzeroSum given (meaning it.lin) it.strict = nonzero_one given it here (not_zero it.lin normal fine) in
        let derived : IsDerived given row = subst (λ (l : Lin). IsNonzeroSum given (meaning l) row.strict) (sym e) (subst (IsNonzeroSum given (meaning it.lin)) (sym s) sum) in
        let good : IsGoodRow row = record { row = r; number = λ h. subst (λ (t : Lin). pos 0 <ℤ t.constant) (sym e) (fine (ap (λ (t : Lin). t.parts) (sym e) ∙ h)) } in
        subst (AreRowsOf given (take (suc k) given)) (sym added) (
        record {
          good = all_push IsGoodRow rows row a.good good;
          derived = all_push (IsDerived given) rows row a.derived derived;
          each = all_more (IsTaken (rows ++ row ∷ [])) given k it within is (all_weaker (IsTaken rows) (IsTaken (rows ++ row ∷ [])) (taken_more rows row) (take k given) a.each)
              (inl (has_right rows (row ∷ []) (meaning it.lin) (inl (ap meaning e))));
        })

    pub rows_zero : (rows : List Row) → AreRowsOf given (take k given) rows → it.lin.parts ≡ [] → it.lin.constant ≡ pos 0 → it.strict ≡ false → AreRowsOf given (take (suc k) given) rows
    rows_zero rows a p z s =
        record {
          good = a.good;
          derived = a.derived;
          each = all_more (IsTaken rows) given k it within is a.each (inr (zero_means it.lin (meaning it.lin) (same_refl ℕ_discrete (meaning it.lin)) p z, p, s));
        }

    pub rows_refuted : it.lin.parts ≡ [] → (it.lin.constant <ℤ pos 0) ⊎ ((it.lin.constant ≡ pos 0) × (it.strict ≡ true)) → HasRefutedSum given
    rows_refuted p h = refuted_sum given (meaning it.lin) it.strict (sum_one given it here) (refuted_means it.lin (meaning it.lin) it.strict normal (same_refl ℕ_discrete (meaning it.lin)) p h)
