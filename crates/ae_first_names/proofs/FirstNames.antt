-- The names of what a search begins with.
use Rattle.std.specs.Prelude.{ℕ, List, [], ◌≡◌}
use Rattle.std.specs.List.{Contains}
use Rattle.std.proofs.Common.{sym, ◌∙◌, subst, inl, inr, append-nil}
use Rattle.ae_core.specs.declared.terms.Term.{Term}
use Rattle.ae_core.specs.declared.formulas.Lit.{Lit}
use Rattle.ae_core.specs.declared.problems.Signature.{Signature}
use Rattle.ae_core.specs.declared.problems.Problem.{Problem}
use Rattle.ae_core.specs.declared.proofs.ClauseLine.{ClauseLine}
use Rattle.ae_rules.specs.Clauses.{Clause}
use Rattle.ae_journal.specs.Standing.{IsEntered}
use Rattle.ae_journal.specs.Standing.IsEntered.{of_formula, of_term, of_field}
use Rattle.ae_journal.specs.States.{outside}
use Rattle.ae_store.specs.Stores.{Stored}
use Rattle.ae_theory.specs.Names.{terms_in, IsNamedBy}
use Rattle.ae_sat.specs.Search.{AllNamed}
use Rattle.ae_goal_names.specs.Named.{StandsIn, itself, argument, field, HasNamed, clause_terms, all_terms}
use Rattle.ae_first_clauses.specs.First.{AreFirst, search_setting}
use Rattle.ae_first_clauses.proofs.States.{lawful_state}
use Rattle.ae_first_names.proofs.Lists.{not_in_none, into, out_of, one_contained, contained_one}

module _ (p : Problem) (g : ℕ) (lines : List ClauseLine) (clauses : List Clause) (begun : AreFirst p g lines clauses) where
  pub all_named : (old new : Stored) → HasNamed old new (all_terms clauses) → AllNamed new clauses
  all_named old new n c l o h t k = n.named t (into clause_terms clauses c t (one_contained clauses c o) (into (λ (l : Lit). outside l.formula) c l t h k))

  -- whatever the names of the search are
  pub entered_of : (names : List Term) (t : Term) → StandsIn p.signature (all_terms clauses) t → IsEntered (search_setting p g names) [] t
  entered_of names t (itself h) =
      let a = out_of clause_terms clauses t h in
      let b = out_of (λ (l : Lit). outside l.formula) a.0 t a.2 in
      of_formula [] b.0.formula t ((lawful_state p g names lines clauses begun).formulas a.0 b.0 (contained_one clauses a.0 a.1) b.1) b.2
  entered_of names t (argument h ss us s i) = of_term [] h ss us t (entered_of names _ s) i
  entered_of names t (field s ss u w so e c) = of_field [] s ss u t (entered_of names u w) so e c

  module _ (old new : Stored) (same : old.signature ≡ p.signature) (empty : terms_in old ≡ []) (n : HasNamed old new (all_terms clauses)) where
    pub stands : (t : Term) → Contains (terms_in new) t → StandsIn p.signature (all_terms clauses) t
    stands t h = elim (n.only t h) as (λ _. StandsIn p.signature (all_terms clauses) t) [
      | inl o ↦ not_in_none t (subst (λ (zs : List Term). Contains zs t) empty o)
      | inr w ↦ subst (λ (sig : Signature). StandsIn sig (all_terms clauses) t) same w
    ]

    pub named_by : IsNamedBy (search_setting p g (terms_in new)) new []
    named_by = record {
      signature = sym (n.signature ∙ same);
      more = [];
      names = sym (append-nil (terms_in new));
      entered = λ t h. entered_of (terms_in new) t (stands t h);
    }
