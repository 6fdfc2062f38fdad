-- Formulas of the fragment: parts of formulas, and the first formulas of a goal.
use Rattle.std.specs.Prelude.{ℕ, true, List, [], ◌∷◌, ◌++◌, ◌≡◌, Some}
use Rattle.std.specs.List.{AllByRecursion, Contains, list_all}
use Rattle.std.proofs.Common.{sym, ap, ◌∙◌, subst, inl, inr}
use Rattle.std.proofs.lemmas.Option.{same_Some}
use Rattle.ae_base.proofs.AllOf.{all_front, all_back}
use Rattle.ae_base.proofs.Options.{never_some}
use Rattle.ae_core.specs.Inner.Induction.{by_formulas}
use Rattle.ae_core.specs.Sorts.{formula_ok, is_closed_sort}
use Rattle.ae_core.specs.declared.terms.Term.{Term}
use Rattle.ae_core.specs.declared.formulas.Formula.{Formula, True, False, Eq, Lt, Le, Pred, And, Or, Xor, Iff, All, Ex}
use Rattle.ae_core.specs.declared.formulas.Formula.TheVariants.{outs-True, outs-False, outs-Eq, outs-Lt, outs-Le, outs-Pred, outs-Not, outs-And, outs-Or, outs-Xor, outs-Iff, outs-All, outs-Ex}
use Rattle.ae_core.specs.declared.formulas.Quant.{Quant}
use Rattle.ae_core.specs.declared.problems.Signature.{Signature}
use Rattle.ae_core.specs.declared.problems.Problem.{Problem}
use Rattle.ae_core.proofs.SortFacts.{block_parts}
use Rattle.ae_core.proofs.SortLaws.{formula_in_all}
use Rattle.ae_rules.specs.Clauses.{Clause, row}
use Rattle.ae_rules.specs.Derivations.{goal_body}
use Rattle.ae_rules.proofs.ClauseLaws.{row_all}
use Rattle.ae_journal.specs.Ground.{atom_terms, IsFragmentTerm, IsGroundFormula, IsGroundGoal, IsGround, MayStand}
use Rattle.ae_journal.specs.Standing.{parts_by, parts_of}
use Rattle.ae_journal.proofs.Splits.{contains_cases, contains_one}
use Rattle.ae_reach.specs.Budget.{IsFirst, a_hypothesis, the_goal, the_block}
use Rattle.ae_reach.specs.Reach.{IsInReach}
use Rattle.ae_reach.proofs.Simple.{no_part, simple_part}
use Rattle.ae_ground_laws.proofs.Plain.{ground_block, atoms_not, atoms_and, atoms_or, atoms_xor, atoms_iff}
use Rattle.ae_ground_laws.proofs.PutFragment.{formula_put}

-- ---- parts
module _ (P : Term → Type 0) where
  abbrev All_of : Formula → Type 0
  All_of f = AllByRecursion P (atom_terms f)

  two_parts : (f a b h : Formula) → parts_of f ≡ a ∷ b ∷ [] → atom_terms f ≡ atom_terms a ++ atom_terms b → Contains (parts_of f) h → All_of f → All_of h
  two_parts f a b h e d i k =
      let q = subst (AllByRecursion P) d k in
      elim (contains_cases a (b ∷ []) h (subst (λ (w : List Formula). Contains w h) e i)) as (λ _. AllByRecursion P (atom_terms h)) [
        | inl x ↦ subst All_of x (all_front P (atom_terms a) (atom_terms b) q)
        | inr r ↦ subst All_of (contains_one b h r) (all_back P (atom_terms a) (atom_terms b) q)
      ]

  part_atoms : (f h : Formula) → Contains (parts_of f) h → All_of f → All_of h
  part_atoms =
      by_formulas (λ f. (h : Formula) → Contains (parts_of f) h → All_of f → All_of h) (λ q. Unit {0})
      (λ h i. no_part True h (ap parts_by outs-True) i)
      (λ h i. no_part False h (ap parts_by outs-False) i)
      (λ a b h i. no_part (Eq a b) h (ap parts_by (outs-Eq a b)) i)
      (λ a b h i. no_part (Lt a b) h (ap parts_by (outs-Lt a b)) i)
      (λ a b h i. no_part (Le a b) h (ap parts_by (outs-Le a b)) i)
      (λ n ss us h i. no_part (Pred n ss us) h (ap parts_by (outs-Pred n ss us)) i)
      (λ a k h i m. subst All_of (contains_one a h (subst (λ (w : List Formula). Contains w h) (ap parts_by (outs-Not a)) i)) (subst (AllByRecursion P) (atoms_not a) m))
      (λ a b k l h i m. two_parts (And a b) a b h (ap parts_by (outs-And a b)) (atoms_and a b) i m)
      (λ a b k l h i m. two_parts (Or a b) a b h (ap parts_by (outs-Or a b)) (atoms_or a b) i m)
      (λ a b k l h i m. two_parts (Xor a b) a b h (ap parts_by (outs-Xor a b)) (atoms_xor a b) i m)
      (λ a b k l h i m. two_parts (Iff a b) a b h (ap parts_by (outs-Iff a b)) (atoms_iff a b) i m)
      (λ q k h i. no_part (All q) h (ap parts_by (outs-All q)) i)
      (λ q k h i. no_part (Ex q) h (ap parts_by (outs-Ex q)) i)
      (λ q k. tt)

ground_part : (sig : Signature) (f h : Formula) → Contains (parts_of f) h → IsGroundFormula sig [] f → IsGroundFormula sig [] h
ground_part sig f h c i = record { simple = simple_part f h i.simple c; terms = part_atoms (IsFragmentTerm sig []) f h c i.terms }

-- ---- the formulas of a proof
module _ (p : Problem) (g : ℕ) (ground : IsGround p g) where
  -- the sorts of a block's variables are closed
  block_closed : IsInReach p g → (q : Quant) → goal_body p g ≡ Some (All q) → list_all (is_closed_sort p.signature) q.sorts ≡ true
  block_closed reach q e =
      let ok = subst (λ (h : Formula). formula_ok p.signature h ≡ true) (same_Some reach.goal (All q) (sym reach.is ∙ e)) reach.goal_closed.0 in
      (block_parts p.signature q (sym (formula_in_all p.signature (is_closed_sort p.signature) [] q) ∙ ok)).0

  pub first_stands : IsInReach p g → (f : Formula) → IsFirst p g f → MayStand p g f
  first_stands reach _ (a_hypothesis k f e) = inl (ground.hypotheses k f e)
  first_stands reach _ (the_goal f e) = inr e
  first_stands reach _ (the_block q e) = inl (formula_put p.signature q.sorts (block_closed reach q e) q.body (ground_block p g ground q e).body)

  pub goal_is : (f : Formula) → goal_body p g ≡ Some f → f ≡ ground.goal
  goal_is f e = same_Some f ground.goal (sym e ∙ ground.is)

  goal_part : (f h : Formula) → f ≡ ground.goal → Contains (parts_of f) h → IsGroundGoal p.signature ground.goal → MayStand p g h
  goal_part f h e c (inl i) = inl (ground_part p.signature f h c (subst (IsGroundFormula p.signature []) (sym e) i))
  goal_part f h e c (inr b) = no_part f h (ap parts_of (e ∙ b.1) ∙ ap parts_by (outs-All b.0)) c

  pub part_stands : (f h : Formula) → MayStand p g f → Contains (parts_of f) h → MayStand p g h
  part_stands f h (inl i) c = inl (ground_part p.signature f h c i)
  part_stands f h (inr e) c = goal_part f h (goal_is f e) c ground.ground

  -- what has a row is no block
  goal_with_row : (r : ℕ) (f : Formula) (c : Clause) → f ≡ ground.goal → row r f ≡ Some c → IsGroundGoal p.signature ground.goal → IsGroundFormula p.signature [] f
  goal_with_row r f c e d (inl i) = subst (IsGroundFormula p.signature []) (sym e) i
  goal_with_row r f c e d (inr b) = never_some c (sym (ap (row r) (e ∙ b.1) ∙ row_all r b.0) ∙ d)

  pub row_ground : (r : ℕ) (f : Formula) (c : Clause) → MayStand p g f → row r f ≡ Some c → IsGroundFormula p.signature [] f
  row_ground r f c (inl i) d = i
  row_ground r f c (inr e) d = goal_with_row r f c (goal_is f e) d ground.ground
