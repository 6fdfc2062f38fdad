-- Where no instance is owed, each match of a state below the bound is the same as one that is taken.
use Rattle.std.specs.Prelude.{ℕ, zero, suc, ◌<◌, ◌≤◌, Bool, true, List, [], ◌∷◌, ◌≡◌}
use Rattle.std.specs.List.{AllByRecursion, Contains}
use Rattle.std.proofs.Common.{sym, ap, ◌∙◌, subst, arith}
use Rattle.ae_base.specs.Relations.{Pairwise}
use Rattle.ae_core.specs.Sorts.{sort_of}
use Rattle.ae_core.specs.declared.formulas.Formula.{Formula}
use Rattle.ae_core.specs.declared.formulas.Lit.{Lit}
use Rattle.ae_core.specs.declared.problems.Problem.{Problem}
use Rattle.ae_core.specs.declared.problems.Signature.{Signature}
use Rattle.ae_core.specs.declared.terms.Sort.{Sort}
use Rattle.ae_core.specs.declared.terms.Term.{Term}
use Rattle.ae_journal.proofs.RowParts.{row_part}
use Rattle.ae_journal.specs.Systems.{record_fields}
use Rattle.ae_journal.specs.States.{Owner, of_literal, of_axiom, Selection, Stands, IsFirst, Comes, TermComes, OwnerComes, Matches, Begins, HasGeneration, AreSame, AllSame, instance_literals}
use Rattle.ae_journal.specs.States.IsFirst.{of_hypothesis as first_hypothesis, of_goal as first_goal}
use Rattle.ae_journal.specs.States.Comes.{first, by_row, by_block}
use Rattle.ae_journal.specs.States.TermComes.{stands, part, field}
use Rattle.ae_journal.specs.States.Begins.{first_of_all, of_match}
use Rattle.ae_journal.specs.declared.systems.Saturated.{Saturated}
use Rattle.ae_store.specs.Stores.{Stored}
use Rattle.ae_owed.specs.Instances.{Instance, IsAged}
use Rattle.ae_owed.specs.Instances.IsAged.{of_hypothesis, of_goal, of_instance, of_opened, of_part}
use Rattle.ae_owed.specs.Known.{IsYoung, AreAlike, IsFoundAt}
use Rattle.ae_owed.specs.Laws.{NoneIsOwed}
use Rattle.ae_owed.specs.Owed.{OwnerIsThere, HasSame, IsInstantiated, IsTaken}
use Rattle.ae_owed.proofs.Moving.{match_moved}
use Rattle.ae_owed.proofs.Young.{argument_young, field_young}

module _ (p : Problem) (g bound : ℕ) (st : Saturated) (s : Stored) (alike : ℕ → ℕ → Bool) (opened : List (Formula × ℕ)) (instances : List Instance) (takes : Selection)
    (done : IsInstantiated p g bound st.literals st.system s alike opened instances) (taken : IsTaken st.literals opened instances takes) where
  abbrev Is : Lit → Type 0
  Is l = Stands p g st l

  abbrev Aged : ℕ → Formula → Type 0
  Aged n f = IsAged p g opened instances n f

  comes_there : (from : Lit → Type 0) (l : Lit) → Comes p g st takes from l → Is l
  comes_there from _ (first a b) = b
  comes_there from _ (by_row r c a b d e h i) = i
  comes_there from _ (by_block q a b c d) = d

  owner_there : (from : Lit → Type 0) (o : Owner) → OwnerComes p g st takes from o → OwnerIsThere st.literals o
  owner_there from (of_literal l) a = comes_there from l a
  owner_there from (of_axiom k) a = tt

  -- ---- formulas of literals
  closed : (from : Lit → Type 0) (n : ℕ) → ((l : Lit) → from l → Aged n l.formula) → (l : Lit) → Comes p g st takes from l → Aged n l.formula
  closed from n begin _ (first a b) = begin _ a
  closed from n begin _ (by_row r c a e o i d b) = row_part (Aged n) (λ h k w j. of_part h k w j) _ (closed from n begin _ a) r c e _ i
  closed from n begin _ (by_block q a e u b) =
      let w = taken.bodies _ q (comes_there from _ a) u e in
      of_opened _ w.first w.clause (takes.body _) (closed from n begin _ a) w.among w.states w.has

  firsts : (n : ℕ) (l : Lit) → IsFirst p g st l → Aged n l.formula
  firsts n _ (first_hypothesis k f e) = of_hypothesis k f e
  firsts n _ (first_goal f e) = of_goal f e

  -- ---- terms, and matches
  module _ (from : Lit → Type 0) (n : ℕ) (lt : n < bound) (begin : (l : Lit) → from l → Aged n l.formula) where
    young : (t : Term) → TermComes p g st takes from t → IsYoung s n t
    young t (stands l a i) = done.covered n l.formula t lt (closed from n begin l a) i
    young t (part h ss us a i) = argument_young s done.store n h ss us t (young _ a) i
    young t (field {u = u} o ss a e r i) =
        field_young s done.store n o ss u t (young u a) (ap (λ (z : Signature). sort_of z u) done.signature ∙ e) (ap (λ (z : Signature). record_fields z o) done.signature ∙ r) i

  module _ (from : Lit → Type 0) (n : ℕ) (lt : n < bound) (begin : (l : Lit) → from l → Aged n l.formula) where
    same_alike : (t u : Term) → TermComes p g st takes from t → TermComes p g st takes from u → AreSame p.signature st.system t u → AreAlike s alike t u
    same_alike t u a b e =
        let x = young from n lt begin t a in
        let y = young from n lt begin u b in
        record {
          left = x.name;
          right = y.name;
          left_at = x.at;
          right_at = y.at;
          alike_ones = done.names.alike_ones x.name y.name t u x.at y.at (subst (λ (z : Signature). AreSame z st.system t u) (sym done.signature) e);
        }

    found : (o : Owner) (us : List Sort) (ts : List Term) → Matches p g st takes from o us ts → IsFoundAt p g s alike n o us ts
    found o us ts m = record {
      pattern = m.pattern;
      of_owner = m.of_owner;
      trigger = m.trigger;
      chosen = m.chosen;
      matches = match_moved p.signature (TermComes p g st takes from) (IsYoung s n) (young from n lt begin) (AreSame p.signature st.system) (AreAlike s alike) same_alike us ts
          m.pattern.type_vars m.pattern.vars m.trigger m.matches;
    }

  -- ---- literals by their generations
  module _ (n : ℕ) (lt : n < bound) (aged : (l : Lit) → HasGeneration p g st takes n l → Aged n l.formula) where
    begun : (l : Lit) → Begins p g st takes (HasGeneration p g st takes n) l → Aged (suc n) l.formula
    begun l (first_of_all i) = firsts (suc n) l i
    begun l (of_match o us ts m e c) =
        let i = taken.only o us ts e in
        let f = found (HasGeneration p g st takes n) n lt aged o us ts m in
        let there = owner_there (HasGeneration p g st takes n) o m.owner_comes in
        let k : (i.0).number ≤ n =
        done.none_owed.least n i.0 lt i.1 (subst (OwnerIsThere st.literals) (sym i.2) there)
        (subst (λ (z : Owner × List Sort × List Term). IsFoundAt p g s alike n z.0 z.1 z.2) (λ j. (sym i.2 j, sym i.3 j, sym i.4 j)) f) in
        of_instance i.0 l i.1 (omega (arith, k)) (subst (λ (z : Owner × List Sort × List Term). Contains (instance_literals p g z.0 z.1 z.2) l) (λ j. (sym i.2 j, sym i.3 j, sym i.4 j)) c)

  aged_at : (n : ℕ) → n < bound → (l : Lit) → HasGeneration p g st takes n l → Aged n l.formula
  aged_at zero lt = closed (IsFirst p g st) zero (firsts zero)
  aged_at (suc n) lt = closed (Begins p g st takes (HasGeneration p g st takes n)) (suc n) (begun n (omega (arith, lt)) (aged_at n (omega (arith, lt))))

  -- ---- the same instance
  all_same : (ts ws : List Term) → Pairwise (AreAlike s alike) ts ws → AllSame p.signature st.system ts ws
  all_same [] [] a = tt
  all_same (t ∷ ts) (w ∷ ws) a = (subst (λ (z : Signature). AreSame z st.system t w) done.signature (done.names.same t w a.0), all_same ts ws a.1)
  all_same [] (w ∷ ws) a = absurd a
  all_same (t ∷ ts) [] a = absurd a

  one_taken : (o : Owner) (us : List Sort) (ts : List Term) → OwnerIsThere st.literals o → HasSame s alike instances o us ts
      → (ws : List Term) × AllSame p.signature st.system ts ws × (takes.instances o us ws ≡ true) × AllByRecursion Is (instance_literals p g o us ws)
  one_taken o us ts there h =
      let i = h.instance in (
        i.terms,
        all_same ts i.terms h.terms,
        subst (λ (z : Owner × List Sort). takes.instances z.0 z.1 i.terms ≡ true) (λ j. (h.owner j, h.sorts j)) (taken.all i h.among),
        subst (λ (z : Owner × List Sort). AllByRecursion Is (instance_literals p g z.0 z.1 i.terms)) (λ j. (h.owner j, h.sorts j))
            (done.stand i h.among (subst (OwnerIsThere st.literals) (sym h.owner) there)),
      )

pub none_is_owed : NoneIsOwed
none_is_owed p g bound st s alike opened instances takes done taken n o us ts lt m small =
    let there = owner_there p g bound st s alike opened instances takes done taken (HasGeneration p g st takes n) o m.owner_comes in
    let f =
    found p g bound st s alike opened instances takes done taken (HasGeneration p g st takes n) n lt (aged_at p g bound st s alike opened instances takes done taken n lt) o us ts m in
    one_taken p g bound st s alike opened instances takes done taken o us ts there (done.none_owed.noted n o us ts lt there f small)
