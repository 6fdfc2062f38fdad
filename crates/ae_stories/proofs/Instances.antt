-- In a legal journal of a goal of the reach each formula is plain, those of instance lines included, by induction over its length.
use Rattle.std.specs.Prelude.{ℕ, zero, suc, ◌≤◌, List, [], ◌∷◌, ◌++◌, ◌≡◌, length}
use Rattle.std.specs.List.{Contains}
use Rattle.std.proofs.Common.{refl, sym, ap, ◌∙◌, subst, arith, append-nil, append_assoc, length-append}
use Rattle.ae_core.specs.declared.formulas.Formula.{Formula}
use Rattle.ae_core.specs.declared.problems.Problem.{Problem}
use Rattle.ae_core.specs.declared.terms.Term.{Term}
use Rattle.ae_journal.specs.Legal.{AreLegal, IsLegalLine, HaveOwnConstants}
use Rattle.ae_journal.specs.Standing.{Setting, IsFormula}
use Rattle.ae_journal.specs.declared.lines.Line.{Line}
use Rattle.ae_journal.specs.declared.lines.Line.TheVariants as line
use Rattle.ae_journal.proofs.LegalRows.{literals_are_formulas}
use Rattle.ae_journal.proofs.Splits.{cut}
use Rattle.std.proofs.lemmas.Option.{same_Some}
use Rattle.ae_reach.specs.Reach.{IsInReach}
use Rattle.ae_stories.proofs.Plain.{IsPlain, formula_plain, plain_sorts}

-- a line in the middle of legal ones is legal after those before it, which are legal too
line_legal : (x : Setting) (bound : ℕ) (before a b : List Line) (j : Line) → AreLegal x bound before (a ++ j ∷ b) → AreLegal x bound before a × IsLegalLine x bound (before ++ a) j
line_legal x bound before [] b j h = (tt, subst (λ (w : List Line). IsLegalLine x bound w j) (sym (append-nil before)) h.0)
line_legal x bound before (i ∷ a) b j h =
    let r = line_legal x bound (before ++ i ∷ []) a b j h.1 in
    ((h.0, r.0), subst (λ (w : List Line). IsLegalLine x bound w j) (append_assoc before (i ∷ []) a) r.1)

module _ (p : Problem) (g : ℕ) (reach : IsInReach p g) (x : Setting) (is_p : x.problem ≡ p) (is_g : x.goal ≡ g) (bound : ℕ) where
  instances_plain : (n : ℕ) (js : List Line) → length js ≤ n → AreLegal x bound [] js → (f : Formula) (ts : List Term) → Contains js (line.TermInstance f ts) → IsPlain p g f
  instances_plain zero js few legal f ts h = absurd (let k = h.1 in omega (arith, k, few))
  instances_plain (suc n) js few legal f ts h =
      let c = cut js (line.TermInstance f ts) h in
      let r = line_legal x bound [] c.0 c.1 (line.TermInstance f ts) (subst (AreLegal x bound []) c.2 legal) in
      let less : length c.0 ≤ n = omega (arith, few, ap length c.2, length-append c.0 (line.TermInstance f ts ∷ c.1)) in
      let a = r.1.acts f ts refl in
      formula_plain p g reach x is_p is_g c.0 (instances_plain n c.0 less r.0) f (literals_are_formulas x bound c.0 (record { positive = a.0; formula = f }) r.0 a.1)

  all_plain : (js : List Line) → AreLegal x bound [] js → (f : Formula) → IsFormula x js f → IsPlain p g f
  all_plain js legal f h = formula_plain p g reach x is_p is_g js (instances_plain (length js) js (omega arith) legal) f h

  pub own_constants : (js : List Line) → AreLegal x bound [] js → HaveOwnConstants x js
  own_constants js legal f h i j a b l m e = same_Some f h (sym (plain_sorts p g f (all_plain js legal f a) i l) ∙ plain_sorts p g h (all_plain js legal h b) j m)
