-- Generations of a journal only fall as it grows.
use Rattle.std.proofs.Common.{ℕ, zero, suc, List, [], ◌++◌, ap, ◌∙◌, sym, append_assoc, inl, inr, ◌⊎◌}
use Rattle.ae_rules.specs.Clauses.{Clause}
use Rattle.ae_core.specs.declared.terms.Sort.{Sort}
use Rattle.ae_core.specs.declared.terms.Term.{Term}
use Rattle.ae_core.specs.declared.formulas.Formula.{Formula}
use Rattle.ae_journal.specs.declared.lines.Line.{Line}
use Rattle.ae_journal.specs.States.{Owner}
use Rattle.ae_journal.specs.Standing.{Setting, IsBrought}
use Rattle.ae_journal.specs.InstanceLines.{FormulaFrom, TermFrom, AreEqualNow, IsMatchAt, IsInstanceBelow, HasGeneration}
use Rattle.ae_journal.specs.InstanceLines.FormulaFrom.{of_clause, of_fresh, of_part}
use Rattle.ae_journal.specs.InstanceLines.TermFrom.{stands, part, field}
use Rattle.ae_journal.specs.Laws.{GenerationsFall}
use Rattle.ae_journal.proofs.Matching.{match_more}
use Rattle.ae_journal.proofs.Growing.{further}

module _ (x : Setting) where
  formulas_more : (few many : Clause → Type 0) → ((c : Clause) → few c → many c) → (f : Formula) → FormulaFrom x few f → FormulaFrom x many f
  formulas_more few many w _ (of_clause c l a i) = of_clause c l (w c a) i
  formulas_more few many w _ (of_fresh f c l a e i) = of_fresh f c l (formulas_more few many w f a) e i
  formulas_more few many w _ (of_part f h a i) = of_part f h (formulas_more few many w f a) i

  module _ (few many : Formula → Type 0) (wider : (f : Formula) → few f → many f) where
    terms_more : (t : Term) → TermFrom x few t → TermFrom x many t
    terms_more _ (stands f t a i) = stands f t (wider f a) i
    terms_more _ (part h ss us t a i) = part h ss us t (terms_more _ a) i
    terms_more _ (field s ss u t a e r i) = field s ss u t (terms_more u a) e r i

    match_at_more : (js : List Line) (o : Owner) (ss : List Sort) (ts : List Term) → IsMatchAt x js few o ss ts → IsMatchAt x js many o ss ts
    match_at_more js o ss ts m = record {
      pattern = m.pattern;
      of_owner = m.of_owner;
      trigger = m.trigger;
      chosen = m.chosen;
      matches = match_more x.problem.signature (TermFrom x few) (TermFrom x many) terms_more (AreEqualNow x js) ss ts m.pattern.type_vars m.pattern.vars m.trigger m.matches;
    }

    below_more : (js ls : List Line) (c : Clause) → IsInstanceBelow x few js c → IsInstanceBelow x many (js ++ ls) c
    below_more js ls c b = record {
      before = b.before;
      since = b.since;
      later = b.later ++ ls;
      is = further js (b.before ++ b.since) b.later ls b.is;
      instance_line = b.instance_line;
      rest = b.rest ++ ls;
      begins = sym (append_assoc b.since b.later ls) ∙ ap (λ (w : List Line). w ++ ls) b.begins;
      owner = b.owner;
      sorts = b.sorts;
      terms = b.terms;
      brings = b.brings;
      matched = match_at_more (b.before ++ b.since) b.owner b.sorts b.terms b.matched;
    }

  fall : (js ls : List Line) (n : ℕ) (f : Formula) → HasGeneration x js n f → HasGeneration x (js ++ ls) n f
  fall js ls zero = λ f h. h
  fall js ls (suc n) =
      formulas_more (λ c. IsBrought x [] c ⊎ IsInstanceBelow x (HasGeneration x js n) js c) (λ c. IsBrought x [] c ⊎ IsInstanceBelow x (HasGeneration x (js ++ ls) n) (js ++ ls) c)
      (brings js ls n (fall js ls n))
    where
      brings : (js ls : List Line) (n : ℕ) → ((f : Formula) → HasGeneration x js n f → HasGeneration x (js ++ ls) n f) → (c : Clause)
          → IsBrought x [] c ⊎ IsInstanceBelow x (HasGeneration x js n) js c → IsBrought x [] c ⊎ IsInstanceBelow x (HasGeneration x (js ++ ls) n) (js ++ ls) c
      brings js ls n w c (inl b) = inl b
      brings js ls n w c (inr b) = inr (below_more (HasGeneration x js n) (HasGeneration x (js ++ ls) n) w js ls c b)

pub generations_fall : GenerationsFall
generations_fall x js ls n f h = fall x js ls n f h
