-- Generations of a journal: what has one has each greater one, and keeps it after more lines.
use Rattle.std.specs.Prelude.{ℕ, zero, suc, ◌≤◌, List, [], ◌++◌, ◌≡◌, ◌⊎◌}
use Rattle.std.proofs.Common.{sym, ap, ◌∙◌, subst, arith, inl, inr, append_assoc}
use Rattle.std.proofs.lemmas.Bool.{cases_lt}
use Rattle.std.proofs.lemmas.List.{append-nil}
use Rattle.ae_core.specs.declared.formulas.Formula.{Formula}
use Rattle.ae_core.specs.declared.terms.Sort.{Sort}
use Rattle.ae_core.specs.declared.terms.Term.{Term}
use Rattle.ae_rules.specs.Clauses.{Clause}
use Rattle.ae_journal.specs.InstanceLines.{FormulaFrom, TermFrom, AreEqualNow, IsMatchAt, IsInstanceBelow, HasGeneration}
use Rattle.ae_journal.specs.InstanceLines.FormulaFrom.{of_clause, of_fresh, of_part}
use Rattle.ae_journal.specs.InstanceLines.TermFrom.{stands, part, field}
use Rattle.ae_journal.specs.Standing.{Setting, IsBrought}
use Rattle.ae_journal.specs.States.{Owner}
use Rattle.ae_journal.specs.declared.lines.Line.{Line}
use Rattle.ae_journal.proofs.Growing.{further}
use Rattle.ae_journal.proofs.Matching.{match_more}

module _ (x : Setting) where
  pub formula_wider : (few many : Clause → Type 0) → ((c : Clause) → few c → many c) → (f : Formula) → FormulaFrom x few f → FormulaFrom x many f
  formula_wider few many w _ (of_clause c l a i) = of_clause c l (w c a) i
  formula_wider few many w _ (of_fresh f c l a e i) = of_fresh f c l (formula_wider few many w f a) e i
  formula_wider few many w _ (of_part f h a i) = of_part f h (formula_wider few many w f a) i

  module _ (few many : Formula → Type 0) (wider : (f : Formula) → few f → many f) where
    pub term_wider : (t : Term) → TermFrom x few t → TermFrom x many t
    term_wider _ (stands f t a i) = stands f t (wider f a) i
    term_wider _ (part h ss us t a i) = part h ss us t (term_wider _ a) i
    term_wider _ (field s ss u t a e r i) = field s ss u t (term_wider u a) e r i

    pub match_wider : (js : List Line) (o : Owner) (us : List Sort) (ts : List Term) → IsMatchAt x js few o us ts → IsMatchAt x js many o us ts
    match_wider js o us ts m = record {
      pattern = m.pattern;
      of_owner = m.of_owner;
      trigger = m.trigger;
      chosen = m.chosen;
      matches = match_more x.problem.signature (TermFrom x few) (TermFrom x many) term_wider (AreEqualNow x js) us ts m.pattern.type_vars m.pattern.vars m.trigger m.matches;
    }

    -- the clause of an instance line keeps its number after more lines
    pub below_longer : (js ls : List Line) (c : Clause) → IsInstanceBelow x few js c → IsInstanceBelow x many (js ++ ls) c
    below_longer js ls c b = record {
      before = b.before;
      since = b.since;
      later = b.later ++ ls;
      is = further js (b.before ++ b.since) b.later ls b.is;
      instance_line = b.instance_line;
      rest = b.rest ++ ls;
      begins = sym (append_assoc b.since b.later ls) ∙ ap (λ (w : List Line). w ++ ls) b.begins;
      owner = b.owner;
      sorts = b.sorts;
      terms = b.terms;
      brings = b.brings;
      matched = match_wider (b.before ++ b.since) b.owner b.sorts b.terms b.matched;
    }

    pub below_wider : (js : List Line) (c : Clause) → IsInstanceBelow x few js c → IsInstanceBelow x many js c
    below_wider js c b = subst (λ (w : List Line). IsInstanceBelow x many w c) (append-nil js) (below_longer js [] c b)

  module _ (js : List Line) where
    widen : (n : ℕ) → ((f : Formula) → HasGeneration x js n f → HasGeneration x js (suc n) f) → (c : Clause)
        → IsBrought x [] c ⊎ IsInstanceBelow x (HasGeneration x js n) js c → IsBrought x [] c ⊎ IsInstanceBelow x (HasGeneration x js (suc n)) js c
    widen n w c (inl b) = inl b
    widen n w c (inr b) = inr (below_wider (HasGeneration x js n) (HasGeneration x js (suc n)) w js c b)

    rise : (n : ℕ) (f : Formula) → HasGeneration x js n f → HasGeneration x js (suc n) f
    rise zero = formula_wider (IsBrought x []) (λ c. IsBrought x [] c ⊎ IsInstanceBelow x (HasGeneration x js zero) js c) (λ c b. inl b)
    rise (suc n) =
        formula_wider (λ c. IsBrought x [] c ⊎ IsInstanceBelow x (HasGeneration x js n) js c) (λ c. IsBrought x [] c ⊎ IsInstanceBelow x (HasGeneration x js (suc n)) js c) (widen n (rise n))

    pub rise_to : (m n : ℕ) (f : Formula) → m ≤ n → HasGeneration x js m f → HasGeneration x js n f
    rise_to m zero f h a = subst (λ (k : ℕ). HasGeneration x js k f) (let e : m ≡ zero = omega (arith, h) in e) a
    rise_to m (suc n) f h a =
        elim (cases_lt n m) as (λ _. HasGeneration x js (suc n) f) [
          | inl lt ↦ subst (λ (k : ℕ). HasGeneration x js k f) (let e : m ≡ suc n = omega (arith, h, lt) in e) a
          | inr le ↦ rise n f (rise_to m n f le a)
        ]
