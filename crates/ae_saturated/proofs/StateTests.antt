-- The test of a state says `true` exactly where the state is saturated, if its system is completed and nothing is open.
use Rattle.std.specs.Prelude.{ℕ, true, false, ◌&&◌, ◌≡◌, [], length}
use Rattle.std.specs.List.{Contains, list_all}
use Rattle.std.proofs.lemmas.Bool.{and_parts, and_from}
use Rattle.ae_base.proofs.Tests.{false_true}
use mathlib.Core.Path.{sym, ◌∙◌}
use Rattle.ae_base.proofs.AllOf.{test_of_all, all_from_places}
use Rattle.ae_base.proofs.ListFacts.{list_all_at}
use Rattle.ae_core.specs.declared.formulas.Formula.{Eq, Pred}
use Rattle.ae_core.specs.declared.formulas.Lit.{Lit}
use Rattle.ae_core.specs.declared.problems.Problem.{Problem}
use Rattle.ae_core.specs.declared.problems.Signature.{Signature}
use Rattle.ae_core.specs.declared.terms.Term.{Term, Apply}
use Rattle.ae_core.specs.declared.terms.Head.{Head}
use Rattle.ae_rules.specs.Clauses.{is_true, is_false}
use Rattle.ae_rules.specs.Derivations.{IsConstructor}
use Rattle.ae_journal.specs.Values.{Val}
use Rattle.ae_journal.specs.Systems.{IsCompleted, IsName, ValueOf}
use Rattle.ae_journal.specs.States.{IsSaturated}
use Rattle.ae_journal.specs.declared.systems.Saturated.{Saturated}
use Rattle.ae_journal.specs.declared.systems.System.{System}
use Rattle.ae_decide.specs.Clauses.{HasTerms, HasLeaves}
use Rattle.ae_system_checks.specs.Tests.{IsQuantifierFree}
use Rattle.ae_system_checks.proofs.SaturatedTests.{Flat, saturated, flat}
use Rattle.ae_saturated.specs.Firsts.{firsts_stand, none_generic}
use Rattle.ae_saturated.specs.Literals.{is_closed, is_consistent, are_named, rows_stand, equation_holds, predicate_holds, literal_fits, literals_fit}
use Rattle.ae_saturated.specs.Names.{are_apart, is_exhausted, has_whole, name_fits, names_fit}
use Rattle.ae_saturated.specs.Open.{IsOpen}
use Rattle.ae_saturated.specs.Order.{inequality_holds, inequalities_hold}
use Rattle.ae_saturated.specs.State.{state_fits}
use Rattle.ae_saturated.proofs.Elements.{all_tells, by_all}
use Rattle.ae_saturated.proofs.FirstTests.{firsts_tell, by_firsts, not_quantified, generic_denied, not_open}
use Rattle.ae_saturated.proofs.LiteralTests.{consistent_tells, by_consistent, named_tells, by_names, taken_tells, by_taken, equal_tells, unequal_tells, by_equations, predicates_tell, by_predicates}
use Rattle.ae_saturated.proofs.NameTests.{constructors_tell, by_constructors, exhausted_tells, by_exhausted, whole_tells, by_whole}
use Rattle.ae_saturated.proofs.OrderTests.{inequality_tells, by_inequality}

pub terms_of : (sig : Signature) (y : System) → IsCompleted sig y → HasTerms sig y
terms_of sig y c = record { values = c.values; sorted = c.sorted; apart = c.apart; subterms = c.subterms; field_names = c.field_names }

pub leaves_of : (sig : Signature) (y : System) → IsCompleted sig y → HasLeaves sig y
leaves_of sig y c = record { normal = c.normal; over = c.over; predicate_value = c.predicate_value }

-- what is tested of a literal
record LiteralFits (p : Problem) (st : Saturated) (l : Lit) : Type 0 where
  consistent : is_consistent st.literals l ≡ true
  named : are_named st.system.names l.formula ≡ true
  rows : rows_stand st.literals l.formula 17 ≡ true
  equation : equation_holds st.system l ≡ true
  predicate : predicate_holds p.signature st.system st.literals l ≡ true

-- what is tested of a name
record NameFits (p : Problem) (st : Saturated) (t : Term) : Type 0 where
  apart : list_all (are_apart p.signature st.system t) st.system.names ≡ true
  exhausted : is_exhausted p.signature st.system t ≡ true
  whole : has_whole p.signature st.system t ≡ true

module _ (p : Problem) (g : ℕ) (st : Saturated) where
  name_parts : (t : Term) → name_fits p.signature st.system t ≡ true → NameFits p st t
  name_parts t e =
      let a = and_parts (list_all (are_apart p.signature st.system t) st.system.names && is_exhausted p.signature st.system t) (has_whole p.signature st.system t) e in
      let b = and_parts (list_all (are_apart p.signature st.system t) st.system.names) (is_exhausted p.signature st.system t) a.0 in
      record { apart = b.0; exhausted = b.1; whole = a.1 }

  name_from : (t : Term) → NameFits p st t → name_fits p.signature st.system t ≡ true
  name_from t f =
      and_from (list_all (are_apart p.signature st.system t) st.system.names && is_exhausted p.signature st.system t) (has_whole p.signature st.system t)
      (and_from (list_all (are_apart p.signature st.system t) st.system.names) (is_exhausted p.signature st.system t) f.apart f.exhausted) f.whole

  literal_parts : (l : Lit) → literal_fits p.signature st.system st.literals l ≡ true → LiteralFits p st l
  literal_parts l e =
      let a = and_parts (is_consistent st.literals l && are_named st.system.names l.formula && rows_stand st.literals l.formula 17 && equation_holds st.system l)
      (predicate_holds p.signature st.system st.literals l) e in
      let b = and_parts (is_consistent st.literals l && are_named st.system.names l.formula && rows_stand st.literals l.formula 17) (equation_holds st.system l) a.0 in
      let c = and_parts (is_consistent st.literals l && are_named st.system.names l.formula) (rows_stand st.literals l.formula 17) b.0 in
      let d = and_parts (is_consistent st.literals l) (are_named st.system.names l.formula) c.0 in
      record { consistent = d.0; named = d.1; rows = c.1; equation = b.1; predicate = a.1 }

  literal_from : (l : Lit) → LiteralFits p st l → literal_fits p.signature st.system st.literals l ≡ true
  literal_from l f =
      and_from (is_consistent st.literals l && are_named st.system.names l.formula && rows_stand st.literals l.formula 17 && equation_holds st.system l)
      (predicate_holds p.signature st.system st.literals l)
      (and_from (is_consistent st.literals l && are_named st.system.names l.formula && rows_stand st.literals l.formula 17) (equation_holds st.system l)
      (and_from (is_consistent st.literals l && are_named st.system.names l.formula) (rows_stand st.literals l.formula 17)
      (and_from (is_consistent st.literals l) (are_named st.system.names l.formula) f.consistent f.named) f.rows) f.equation) f.predicate

  module _ (completed : IsCompleted p.signature st.system) (closed : list_all is_closed st.literals ≡ true)
      (plain : none_generic p g (length p.items) ≡ true) where
    terms : HasTerms p.signature st.system
    terms = terms_of p.signature st.system completed

    leaves : HasLeaves p.signature st.system
    leaves = leaves_of p.signature st.system completed

    free : IsQuantifierFree p g st
    free = record { literals = λ l q i e. not_quantified st.literals closed l q i e; axioms = λ k q e. generic_denied p g plain k q e }

    module _ (e : state_fits p g st ≡ true) where
      passing : (firsts_stand p g st.literals && literals_fit p.signature st.system st.literals && names_fit p.signature st.system ≡ true) × (inequalities_hold st.system st.point st.literals ≡ true)
      passing = and_parts (firsts_stand p g st.literals && literals_fit p.signature st.system st.literals && names_fit p.signature st.system) (inequalities_hold st.system st.point st.literals) e

      fitting : (firsts_stand p g st.literals && literals_fit p.signature st.system st.literals ≡ true) × (names_fit p.signature st.system ≡ true)
      fitting = and_parts (firsts_stand p g st.literals && literals_fit p.signature st.system st.literals) (names_fit p.signature st.system) passing.0

      starting : (firsts_stand p g st.literals ≡ true) × (literals_fit p.signature st.system st.literals ≡ true)
      starting = and_parts (firsts_stand p g st.literals) (literals_fit p.signature st.system st.literals) fitting.0

      lit : (l : Lit) → Contains st.literals l → LiteralFits p st l
      lit l i = literal_parts l (all_tells (literal_fits p.signature st.system st.literals) st.literals starting.1 l i)

      name : (n : ℕ) (t : Term) → IsName st.system n t → NameFits p st t
      name n t i = name_parts t (list_all_at (name_fits p.signature st.system) st.system.names n t fitting.1 i)

      distinct : (h i : Head) (v : Val) → IsConstructor p.signature h → IsConstructor p.signature i → ValueOf st.system (Apply h [] []) v
          → ValueOf st.system (Apply i [] []) v → h ≡ i
      distinct h i v c d (m, j, a) (n, k, b) =
          constructors_tell p.signature st.system terms leaves h i v
          (list_all_at (are_apart p.signature st.system (Apply h [] [])) st.system.names n (Apply i [] []) (name m (Apply h [] []) j).apart k)
          c d (m, j, a) (n, k, b)

      flat_of : Flat p g st
      flat_of = record {
        consistent = λ l i. consistent_tells st.literals l (lit l i).consistent;
        completed = completed;
        named = λ l i. named_tells st.system l.formula (lit l i).named;
        firsts = firsts_tell p g st starting.0;
        taken_apart = λ l i. taken_tells st.literals l.formula (lit l i).rows;
        equal = λ s t i. equal_tells p.signature st.system terms leaves st.literals s t (lit (is_true (Eq s t)) i).equation;
        unequal = λ s t v i. unequal_tells p.signature st.system terms leaves st.literals s t v (lit (is_false (Eq s t)) i).equation;
        constructors = distinct;
        predicates = λ q ss ts us i. predicates_tell p.signature st.system terms leaves st.literals q ss ts us (lit (is_true (Pred q ss ts)) i).predicate;
        exhausted = λ s v n hs x. exhausted_tells p.signature st.system terms leaves s v n hs x (name n x.term x.is).exhausted;
        whole = λ n t i. whole_tells p.signature st.system terms leaves n t i (name n t i).whole;
        inequalities = λ l i. inequality_tells st.system terms.apart st.point l (all_tells (inequality_holds st.system st.point) st.literals passing.1 l i);
      }

    literals_from : Flat p g st → (l : Lit) → Contains st.literals l → literal_fits p.signature st.system st.literals l ≡ true
    literals_from f l i = literal_from l (record {
      consistent = by_consistent st.literals l (f.consistent l i);
      named = by_names st.system l.formula (f.named l i);
      rows = by_taken st.literals l.formula (f.taken_apart l i);
      equation = by_equations p.signature st.system terms leaves st.literals f.equal f.unequal l i;
      predicate = by_predicates p.signature st.system terms leaves st.literals f.predicates l i;
    })

    names_from : Flat p g st → (n : ℕ) (t : Term) → IsName st.system n t → name_fits p.signature st.system t ≡ true
    names_from f n t i = name_from t (record {
      apart = by_all (are_apart p.signature st.system t) st.system.names (λ u j. by_constructors p.signature st.system terms leaves f.constructors t u);
      exhausted = by_exhausted p.signature st.system terms leaves f.exhausted n t i;
      whole = by_whole p.signature st.system terms leaves f.whole n t i;
    })

    fits_of : Flat p g st → state_fits p g st ≡ true
    fits_of f =
        and_from (firsts_stand p g st.literals && literals_fit p.signature st.system st.literals && names_fit p.signature st.system) (inequalities_hold st.system st.point st.literals)
        (and_from (firsts_stand p g st.literals && literals_fit p.signature st.system st.literals) (names_fit p.signature st.system)
        (and_from (firsts_stand p g st.literals) (literals_fit p.signature st.system st.literals) (by_firsts p g st f.firsts)
        (by_all (literal_fits p.signature st.system st.literals) st.literals (literals_from f)))
        (test_of_all (λ t. name_fits p.signature st.system t ≡ true) (name_fits p.signature st.system) (λ t q. q) st.system.names
        (all_from_places (λ t. name_fits p.signature st.system t ≡ true) st.system.names (names_from f))))
        (by_all (inequality_holds st.system st.point) st.literals (λ l i. by_inequality st.system terms.apart st.point l (f.inequalities l i)))

    pub told_yes : state_fits p g st ≡ true → (¬ IsOpen p g st) × ((bound : ℕ) → IsSaturated p g st bound)
    told_yes e = (not_open p g st closed plain, λ bound. saturated p g st free bound (flat_of e))

    pub told_no : state_fits p g st ≡ false → (¬ IsOpen p g st) × ((bound : ℕ) → ¬ IsSaturated p g st bound)
    told_no e = (not_open p g st closed plain, λ bound s. false_true (sym e ∙ fits_of (flat p g st free bound s)))

  pub not_completed : list_all is_closed st.literals ≡ true → none_generic p g (length p.items) ≡ true → ¬ IsCompleted p.signature st.system
      → (¬ IsOpen p g st) × ((bound : ℕ) → ¬ IsSaturated p g st bound)
  not_completed closed plain n = (not_open p g st closed plain, λ bound (takes, s). n s.completed)
