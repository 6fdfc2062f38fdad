-- The names that the first clauses bring occur in the goal.
use Rattle.std.specs.Prelude.{ℕ, true, false, List, [], ◌∷◌, ◌≡◌}
use Rattle.std.specs.List.{Contains}
use Rattle.std.proofs.Common.{refl, sym, ◌∙◌, subst, inl, inr}
use Rattle.ae_core.specs.Putting.{put_formula}
use Rattle.ae_core.specs.declared.terms.Term.{Term, Apply}
use Rattle.ae_core.specs.declared.formulas.Formula.{Formula, All}
use Rattle.ae_core.specs.declared.formulas.Lit.{Lit}
use Rattle.ae_core.specs.declared.problems.Problem.{Problem}
use Rattle.ae_core.specs.declared.proofs.ClauseLine.{ClauseLine}
use Rattle.ae_rules.specs.Clauses.{Clause, yes_of, no_of, is_true}
use Rattle.ae_rules.specs.Instances.{count_from}
use Rattle.ae_explain.specs.Trail.{clause}
use Rattle.ae_journal.specs.States.{outside}
use Rattle.ae_journal.proofs.Splits.{contains_cases, contains_one}
use Rattle.ae_store.specs.Stores.{Stored}
use Rattle.ae_theory.specs.Names.{terms_in}
use Rattle.ae_reach.specs.Budget.{IsFirst, a_hypothesis, the_goal, the_block, Occurs, itself, argument, field}
use Rattle.ae_goal_names.specs.Named.{StandsIn, itself as stands_itself, argument as stands_argument, field as stands_field, HasNamed, clause_terms, all_terms}
use Rattle.ae_goal_names.proofs.Outer.{outside_not}
use Rattle.ae_first_clauses.specs.First.{IsFirstLine, a_hypothesis as hypothesis_line, the_goal as goal_line, the_block as block_line, AreFirst}
use Rattle.ae_first_clauses.proofs.States.{line_of}
use Rattle.ae_first_names.proofs.FirstNames.{stands}
use Rattle.ae_first_names.proofs.Lists.{out_of, contained_one}
use Rattle.ae_first_names.proofs.Stripped.{of_literal}

module _ (p : Problem) (g : ℕ) where
  -- the terms of a literal of a first line stand in a first formula
  record OfFirst (m : Lit) : Type 0 where
    pub formula : Formula
    pub first : IsFirst p g formula
    pub same : outside m.formula ≡ outside formula

  literal_first : (l : ClauseLine) (c : Clause) → IsFirstLine p g l c → (m : Lit) → Contains c m → OfFirst m
  literal_first _ _ (hypothesis_line k f e) m h =
      subst OfFirst (contains_one (yes_of f) m h) (record { formula = f; first = a_hypothesis k f e; same = of_literal outside outside_not f true })
  literal_first _ _ (goal_line f e) m h = subst OfFirst (contains_one (no_of f) m h) (record { formula = f; first = the_goal f e; same = of_literal outside outside_not f false })
  literal_first _ _ (block_line q e) m h =
      elim (contains_cases (is_true (All q)) (no_of (put_formula (count_from 0 q.sorts) q.body) ∷ []) m h) as (λ _. OfFirst m) [
        | inl i ↦ subst OfFirst i (record { formula = All q; first = the_goal (All q) e; same = refl })
        | inr i ↦
            subst OfFirst (contains_one (no_of (put_formula (count_from 0 q.sorts) q.body)) m i)
            (record { formula = put_formula (count_from 0 q.sorts) q.body; first = the_block q e; same = of_literal outside outside_not (put_formula (count_from 0 q.sorts) q.body) false })
      ]

  module _ (lines : List ClauseLine) (clauses : List Clause) (begun : AreFirst p g lines clauses) where
    first_occurs : (u : Term) → Contains (all_terms clauses) u → Occurs p g u
    first_occurs u h =
        let a = out_of clause_terms clauses u h in
        let b = out_of (λ (l : Lit). outside l.formula) a.0 u a.2 in
        let o = contained_one clauses a.0 a.1 in
        let l = line_of p g lines clauses begun.states o.0 o.1 in
        let f = literal_first l.0 (clause clauses o.0) l.1.0 b.0 (subst (λ (w : Clause). Contains w b.0) (sym o.2) b.1) in
        itself f.formula f.first (subst (λ (zs : List Term). Contains zs u) f.same b.2)

    standing_occurs : (t : Term) → StandsIn p.signature (all_terms clauses) t → Occurs p g t
    standing_occurs t (stands_itself h) = first_occurs t h
    standing_occurs t (stands_argument h ss us s i) = argument h ss us (standing_occurs (Apply h ss us) s) i
    standing_occurs t (stands_field s ss u w so e c) = field s ss u (standing_occurs u w) so e c

    module _ (old new : Stored) (same : old.signature ≡ p.signature) (empty : terms_in old ≡ []) (n : HasNamed old new (all_terms clauses)) where
      pub name_occurs : (t : Term) → Contains (terms_in new) t → Occurs p g t
      name_occurs t h = standing_occurs t (stands p g lines clauses begun old new same empty n t h)

      -- the store has the problem's signature
      pub first_signature : new.signature ≡ p.signature
      first_signature = n.signature ∙ same
