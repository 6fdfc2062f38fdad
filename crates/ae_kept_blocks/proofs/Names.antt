-- Names for the terms of clauses.
use Rattle.std.specs.Prelude.{ℕ, ◌≡◌, ◌⊎◌, List, length}
use Rattle.std.specs.List.{AllByRecursion, Contains}
use Rattle.std.proofs.Common.{ap, ◌∙◌, inl, inr}
use Rattle.ae_core.specs.Sorts.{sort_of}
use Rattle.ae_core.specs.declared.formulas.Lit.{Lit}
use Rattle.ae_core.specs.declared.problems.Signature.{Signature}
use Rattle.ae_core.specs.declared.terms.Term.{Term, Apply}
use Rattle.ae_goal_names.specs.Named.{StandsIn, itself, argument, field, HasNamed, clause_terms, all_terms}
use Rattle.ae_journal.proofs.Splits.{all_contained}
use Rattle.ae_journal.specs.Standing.{Setting, IsEntered, IsFormula}
use Rattle.ae_journal.specs.Standing.IsEntered.{of_formula, of_term, of_field}
use Rattle.ae_journal.specs.States.{outside}
use Rattle.ae_journal.specs.Systems.{field_terms, record_fields}
use Rattle.ae_journal.specs.declared.lines.Line.{Line}
use Rattle.ae_kept_blocks.specs.Kept.{AreClausesBelow}
use Rattle.ae_kept_blocks.proofs.Members.{one_of, from_flat}
use Rattle.ae_new_constants.proofs.Formulas.{outside_below}
use Rattle.ae_new_constants.proofs.Terms.{arguments, fields}
use Rattle.ae_new_constants.specs.Below.{IsTermBelow}
use Rattle.ae_open_states.proofs.Trails.{all_of_each}
use Rattle.ae_rules.specs.Clauses.{Clause}
use Rattle.ae_store.specs.Stores.{Stored}
use Rattle.ae_theory.specs.Names.{terms_in}

-- a term of clauses stands in a formula of theirs
of_literal : (clauses : List Clause) (t : Term) → Contains (all_terms clauses) t → (c : Clause) × (l : Lit) × Contains clauses c × Contains c l × Contains (outside l.formula) t
of_literal clauses t h =
    let c = from_flat clause_terms clauses t h in
    let l = from_flat (λ (m : Lit). outside m.formula) c.0 t c.2 in
    (c.0, l.0, c.1, l.1, l.2)

-- ---- constants
module _ (n : ℕ) (sig : Signature) (clauses : List Clause) (below : AreClausesBelow n clauses) where
  standing_below : (t : Term) → StandsIn sig (all_terms clauses) t → IsTermBelow n t
  standing_below t (itself c) =
      let w = of_literal clauses t c in
      all_contained (IsTermBelow n) (outside (w.1).formula) t (outside_below n (w.1).formula (below w.0 w.1 (one_of clauses w.0 w.2) w.3)) w.4
  standing_below t (argument h ss us a i) = all_contained (IsTermBelow n) us t (arguments n h ss us (standing_below (Apply h ss us) a)) i
  standing_below t (field s ss u a e f i) = all_contained (IsTermBelow n) (field_terms s u (length ss)) t (fields n s u (length ss) (standing_below u a)) i

pub names_below : (n : ℕ) (old new : Stored) (clauses : List Clause) → HasNamed old new (all_terms clauses) → AreClausesBelow n clauses → AllByRecursion (IsTermBelow n) (terms_in old) → AllByRecursion (IsTermBelow n) (terms_in new)
names_below n old new clauses named below all =
    all_of_each (IsTermBelow n) (terms_in new)
    (λ t h. elim (named.only t h) as (λ _. IsTermBelow n t) [ inl k ↦ all_contained (IsTermBelow n) (terms_in old) t all k | inr k ↦ standing_below n old.signature clauses below t k ])

-- ---- names of a journal
module _ (x : Setting) (js : List Line) (sig : Signature) (same : x.problem.signature ≡ sig) (clauses : List Clause) (formulas : (c : Clause) (l : Lit) → Contains clauses c → Contains c l → IsFormula x js l.formula) where
  standing_entered : (t : Term) → StandsIn sig (all_terms clauses) t → IsEntered x js t
  standing_entered t (itself c) = let w = of_literal clauses t c in of_formula js (w.1).formula t (formulas w.0 w.1 w.2 w.3) w.4
  standing_entered t (argument h ss us a i) = of_term js h ss us t (standing_entered (Apply h ss us) a) i
  standing_entered t (field s ss u a e f i) = of_field js s ss u t (standing_entered u a) (ap (λ (z : Signature). sort_of z u) same ∙ e) (ap (λ (z : Signature). record_fields z s) same ∙ f) i

pub new_names : (x : Setting) (js : List Line) (old new : Stored) (clauses : List Clause) → x.problem.signature ≡ old.signature → HasNamed old new (all_terms clauses)
    → ((c : Clause) (l : Lit) → Contains clauses c → Contains c l → IsFormula x js l.formula) → (t : Term) → Contains (terms_in new) t → Contains (terms_in old) t ⊎ IsEntered x js t
new_names x js old new clauses same named formulas t h =
    elim (named.only t h) as (λ _. Contains (terms_in old) t ⊎ IsEntered x js t) [ inl k ↦ inl k | inr k ↦ inr (standing_entered x js old.signature same clauses formulas t k) ]
