-- A literal has the terms of its formula; and which terms a formula has.
use Rattle.std.specs.Prelude.{ℕ, Bool, not, List, [], ◌∷◌, ◌++◌, ◌≡◌}
use Rattle.std.proofs.Common.{sym, ap, ◌∙◌}
use Rattle.ae_core.specs.Inner.Induction.{by_formulas}
use Rattle.ae_core.specs.declared.terms.Sort.{Sort}
use Rattle.ae_core.specs.declared.terms.Term.{Term}
use Rattle.ae_core.specs.declared.formulas.Formula.{Formula, Eq, Lt, Le, Pred, Not, And, Or, Xor, Iff}
use Rattle.ae_core.specs.declared.formulas.Lit.{Lit}
use Rattle.ae_core.proofs.Recursion.{fold_eq, fold_lt, fold_le, fold_pred, fold_not, fold_and, fold_or, fold_xor, fold_iff}
use Rattle.ae_journal.specs.Ground.{atom_terms, atom_terms_step}
use Rattle.ae_rules.specs.Clauses.{literal}
use Rattle.ae_rules.proofs.ClauseLaws.{literal_true, literal_false, literal_eq, literal_lt, literal_le, literal_pred, literal_not, literal_and, literal_or, literal_xor, literal_iff, literal_all, literal_ex}

pub of_literal : (G : Formula → List Term) → ((a : Formula) → G (Not a) ≡ G a) → (f : Formula) (s : Bool) → G (literal s f).formula ≡ G f
of_literal G n =
    by_formulas (λ f. (s : Bool) → G (literal s f).formula ≡ G f) (λ q. Unit {0})
    (λ s. ap (λ (l : Lit). G l.formula) (literal_true s))
    (λ s. ap (λ (l : Lit). G l.formula) (literal_false s))
    (λ a b s. ap (λ (l : Lit). G l.formula) (literal_eq s a b))
    (λ a b s. ap (λ (l : Lit). G l.formula) (literal_lt s a b))
    (λ a b s. ap (λ (l : Lit). G l.formula) (literal_le s a b))
    (λ m ss us s. ap (λ (l : Lit). G l.formula) (literal_pred s m ss us))
    (λ a h s. ap (λ (l : Lit). G l.formula) (literal_not s a) ∙ h (not s) ∙ sym (n a))
    (λ a b h k s. ap (λ (l : Lit). G l.formula) (literal_and s a b))
    (λ a b h k s. ap (λ (l : Lit). G l.formula) (literal_or s a b))
    (λ a b h k s. ap (λ (l : Lit). G l.formula) (literal_xor s a b))
    (λ a b h k s. ap (λ (l : Lit). G l.formula) (literal_iff s a b))
    (λ q h s. ap (λ (l : Lit). G l.formula) (literal_all s q))
    (λ q h s. ap (λ (l : Lit). G l.formula) (literal_ex s q))
    (λ q h. tt)

pub atoms_eq : (a b : Term) → atom_terms (Eq a b) ≡ a ∷ b ∷ []
unfolding atom_terms
atoms_eq a b = fold_eq (List Term) (Unit {0}) atom_terms_step (λ q. tt) a b

pub atoms_lt : (a b : Term) → atom_terms (Lt a b) ≡ a ∷ b ∷ []
unfolding atom_terms
atoms_lt a b = fold_lt (List Term) (Unit {0}) atom_terms_step (λ q. tt) a b

pub atoms_le : (a b : Term) → atom_terms (Le a b) ≡ a ∷ b ∷ []
unfolding atom_terms
atoms_le a b = fold_le (List Term) (Unit {0}) atom_terms_step (λ q. tt) a b

pub atoms_pred : (n : ℕ) (ss : List Sort) (us : List Term) → atom_terms (Pred n ss us) ≡ us
unfolding atom_terms
atoms_pred n ss us = fold_pred (List Term) (Unit {0}) atom_terms_step (λ q. tt) n ss us

pub atoms_not : (a : Formula) → atom_terms (Not a) ≡ atom_terms a
unfolding atom_terms
atoms_not a = fold_not (List Term) (Unit {0}) atom_terms_step (λ q. tt) a

pub atoms_and : (a b : Formula) → atom_terms (And a b) ≡ atom_terms a ++ atom_terms b
unfolding atom_terms
atoms_and a b = fold_and (List Term) (Unit {0}) atom_terms_step (λ q. tt) a b

pub atoms_or : (a b : Formula) → atom_terms (Or a b) ≡ atom_terms a ++ atom_terms b
unfolding atom_terms
atoms_or a b = fold_or (List Term) (Unit {0}) atom_terms_step (λ q. tt) a b

pub atoms_xor : (a b : Formula) → atom_terms (Xor a b) ≡ atom_terms a ++ atom_terms b
unfolding atom_terms
atoms_xor a b = fold_xor (List Term) (Unit {0}) atom_terms_step (λ q. tt) a b

pub atoms_iff : (a b : Formula) → atom_terms (Iff a b) ≡ atom_terms a ++ atom_terms b
unfolding atom_terms
atoms_iff a b = fold_iff (List Term) (Unit {0}) atom_terms_step (λ q. tt) a b
