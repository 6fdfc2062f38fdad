-- What is named with a clause is a name of the journal.
use Rattle.std.specs.Prelude.{List, [], ◌∷◌, ◌≡◌, ◌⊎◌, ℕ, zero, suc, Some}
use Rattle.std.specs.List.{Contains}
use Rattle.std.proofs.Common.{sym, ap, ◌∙◌, subst, arith, inl, inr}
use Rattle.std.proofs.lemmas.List.Elements.{Contains-append_cases, Contains-append_left, Contains-append_right}
use Rattle.ae_block_constants.specs.declared.opened.Opened.{Opened}
use Rattle.ae_core.specs.Sorts.{sort_of}
use Rattle.ae_core.specs.declared.formulas.Lit.{Lit}
use Rattle.ae_core.specs.declared.problems.Problem.{Problem}
use Rattle.ae_core.specs.declared.problems.Signature.{Signature}
use Rattle.ae_core.specs.declared.terms.Term.{Term}
use Rattle.ae_goal_names.specs.Named.{HasNamed, StandsIn, itself, argument, field, clause_terms}
use Rattle.ae_journal.specs.Standing.{Setting, IsEntered, IsFormula}
use Rattle.ae_journal.specs.Standing.IsEntered.{of_formula, of_term, of_field}
use Rattle.ae_journal.specs.States.{outside}
use Rattle.ae_journal.specs.Systems.{record_fields}
use Rattle.ae_journal.specs.declared.lines.Line.{Line}
use Rattle.ae_journal.proofs.Splits.{contains_here, contains_later}
use Rattle.ae_rules.specs.Clauses.{Clause}
use Rattle.ae_searching.specs.Steps.{Grows}
use Rattle.ae_searching.specs.Told.{IsToldIn}
use Rattle.ae_store.specs.Stores.{Stored}
use Rattle.ae_theory.specs.Names.{AreNamed, terms_in}

-- ---- the terms of a clause
of_clause_terms : (c : Clause) (t : Term) → Contains (clause_terms c) t → (m : Lit) × Contains c m × Contains (outside m.formula) t
of_clause_terms [] t h = absurd (omega (arith, h.1))
of_clause_terms (m ∷ c) t h = elim (Contains-append_cases (outside m.formula) (clause_terms c) t h) as (λ _. (n : Lit) × Contains (m ∷ c) n × Contains (outside n.formula) t) [
  | inl a ↦ (m, contains_here m c, a)
  | inr b ↦ let r = of_clause_terms c t b in (r.0, contains_later m c r.0 r.1, r.2)
]

in_clause_terms : (c : Clause) (m : Lit) (t : Term) → Contains c m → Contains (outside m.formula) t → Contains (clause_terms c) t
in_clause_terms [] m t h o = absurd (omega (arith, h.1))
in_clause_terms (n ∷ c) m t (zero, l, e) o = Contains-append_left (outside n.formula) (clause_terms c) t (subst (λ (w : Lit). Contains (outside w.formula) t) (sym e) o)
in_clause_terms (n ∷ c) m t (suc k, l, e) o = Contains-append_right (outside n.formula) (clause_terms c) t (in_clause_terms c m t (k, omega (arith, l), e) o)

-- what stands in them is a name, where the clause is over formulas of the journal
module _ (x : Setting) (sig : Signature) (same : x.problem.signature ≡ sig) (js : List Line) (c : Clause) (formulas : (m : Lit) → Contains c m → IsFormula x js m.formula) where
  stands_entered : (t : Term) → StandsIn sig (clause_terms c) t → IsEntered x js t
  stands_entered t (itself h) = let r = of_clause_terms c t h in of_formula js r.0.formula t (formulas r.0 r.1) r.2
  stands_entered t (argument h ss us w i) = of_term js h ss us t (stands_entered _ w) i
  stands_entered t (field s ss u w e r i) =
      of_field js s ss u t (stands_entered u w) (subst (λ (q : Signature). sort_of q u ≡ Some s) (sym same) e) (subst (λ (q : Signature). record_fields q s ≡ Some ss) (sym same) r) i

pub terms_grow : (p : Problem) (g : ℕ) (old new : Stored) (opened opened2 : List Opened) (js : List Line) (c : Clause) → p.signature ≡ old.signature → HasNamed old new (clause_terms c)
    → ((o : Opened) → Contains opened o → Contains opened2 o) → ((x : Setting) → IsToldIn p g new opened2 x → (m : Lit) → Contains c m → IsFormula x js m.formula) → Grows p g old new opened opened2 js
terms_grow p g old new opened opened2 js c same h within formulas = record {
  extends = record { signature = h.signature; keeps = h.keeps };
  opened_still = within;
  entered = λ x told t i. elim (h.only t i) as (λ _. Contains (terms_in old) t ⊎ IsEntered x js t) [
    | inl o ↦ inl o
    | inr w ↦ inr (stands_entered x old.signature (ap (λ (q : Problem). q.signature) told.problem ∙ same) js c (formulas x told) t w)
  ];
}

pub terms_named : (old new : Stored) (c : Clause) → HasNamed old new (clause_terms c) → (m : Lit) → Contains c m → AreNamed new m.formula
terms_named old new c h m i t o = h.named t (in_clause_terms c m t i o)
