-- What is found of an owner between two rounds, and that it is owed.
use Rattle.std.specs.Prelude.{ℕ, ◌<◌, MatchBool, Bool, true, false, cond, not, List, [], ◌∷◌, ◌++◌, ◌≡◌, length, slice_get, take, Some}
use Rattle.std.specs.List.{AllByRecursion, Contains, filter, list_any}
use Rattle.std.proofs.Common.{sym, ap, ◌∙◌, subst, arith, inl, inr}
use Rattle.std.proofs.lemmas.List.{take_all}
use Rattle.std.proofs.lemmas.Option.{same_Some}
use Rattle.ae_base.proofs.AllOf.{all_at, all_back, all_front, all_push}
use Rattle.ae_base.proofs.ListFacts.{empty_parts}
use Rattle.ae_base.proofs.Tests.{by_bool, not_not}
use Rattle.ae_between_rounds.specs.Between.{IsBetweenRounds}
use Rattle.ae_between_rounds.specs.Owed.{IsOwedAt}
use Rattle.ae_between_rounds.specs.declared.search.Owed.{Owed}
use Rattle.ae_between_rounds.specs.declared.search.Search.{Search}
use Rattle.ae_core.specs.Signatures.{IsLawfulProblem}
use Rattle.ae_core.specs.declared.formulas.Formula.{Formula}
use Rattle.ae_core.specs.declared.formulas.Lit.{Lit}
use Rattle.ae_core.specs.declared.problems.Problem.{Problem}
use Rattle.ae_explain.specs.Trail as trail
use Rattle.ae_explain.specs.declared.trail.Assigned.{Assigned}
use Rattle.ae_inst.specs.Matches.{is_match}
use Rattle.ae_journal.proofs.Splits.{contains_cases, contains_here, contains_later}
use Rattle.ae_known.specs.Index.{HasHeads}
use Rattle.ae_known.specs.declared.known.Known.{Known}
use Rattle.ae_matches.specs.Answers.{HasClosedConstants}
use Rattle.ae_open_states.proofs.Trails.{all_of_each, place_of, stands_so}
use Rattle.ae_open_states.specs.Shown.{trail_literals}
use Rattle.ae_owed_matches.proofs.Closed.{patterns_are_closed}
use Rattle.ae_owed_matches.proofs.FoundLaws.{found_ones_are_matches}
use Rattle.ae_owed_matches.specs.Found.{AreFound, is_owed}
use Rattle.ae_owners.specs.Owners.{IsOwnerIn}
use Rattle.ae_owners.specs.declared.owners.Owner.{Owner}
use Rattle.ae_store.specs.declared.nodes.Node.{Node}
use Rattle.ae_trigger.specs.declared.patterns.Subst.{Subst}
use Rattle.ae_value_table.specs.Alike.{alike}
use Rattle.ae_owed_instances.specs.Inner.Passing.{HasNone, IsThere, lit_of, owed_of}

-- what is kept by a test was there, and passes it
pub from_filter : {A : Type 0} (test : A → Bool) (xs : List A) (x : A) → Contains (filter test xs) x → Contains xs x × (test x ≡ true)
from_filter test [] x c = absurd (let l = c.1 in omega (arith, l))
from_filter test (y ∷ ys) x c =
    by_bool (test y)
    (λ t.
    elim (contains_cases y (filter test ys) x (subst (λ zs. Contains zs x) (ap (λ b. cond b (y ∷ filter test ys) (filter test ys)) t) c)) as (λ _. Contains (y ∷ ys) x × (test x ≡ true)) [
      | inl e ↦ (subst (Contains (y ∷ ys)) e (contains_here y ys), ap test (sym e) ∙ t)
      | inr r ↦ (let k = from_filter test ys x r in (contains_later y ys x k.0, k.1))
    ])
    (λ f. let k = from_filter test ys x (subst (λ zs. Contains zs x) (ap (λ b. cond b (y ∷ filter test ys) (filter test ys)) f) c) in (contains_later y ys x k.0, k.1))

-- the whole index
pub all_heads : (ns : List Node) (k : Known) (n : ℕ) → n ≡ length ns → HasHeads (take n ns) k → HasHeads ns k
all_heads ns k n e h = subst (λ (w : List Node). HasHeads w k) (take_all n ns (omega (arith, e))) h

module _ (p : Problem) (g bound : ℕ) (o : Search) (b : IsBetweenRounds p g bound o) where
  pub known_heads : HasHeads o.store.nodes o.known
  known_heads = all_heads o.store.nodes o.known o.looked b.looked b.holds.heads

  pub closed_at : IsLawfulProblem p → (k : ℕ) (w : Owner) → slice_get o.owners k ≡ Some w → AllByRecursion HasClosedConstants w.patterns
  closed_at lawful k w at = patterns_are_closed p g w lawful (all_at (IsOwnerIn p g) o.owners k w b.holds.instances.right at)

  module _ (n k : ℕ) (w : Owner) (at : slice_get o.owners k ≡ Some w) (there : IsThere o w) (ms : List Subst) (found : AreFound o.store (alike o.solver.theory.values) n w.patterns ms) where
    one_owed : (m : Subst) → Contains (filter (is_owed (alike o.solver.theory.values) k o.instances.taken.taken) ms) m → IsOwedAt p g o n (owed_of k m)
    one_owed m c =
        let r = from_filter (is_owed (alike o.solver.theory.values) k o.instances.taken.taken) ms m c in
        record {
          owner = w;
          at = at;
          there = there;
          found = found_ones_are_matches p g o.store (alike o.solver.theory.values) n w ms m (sym b.searching.signature) (all_at (IsOwnerIn p g) o.owners k w b.holds.instances.right at) found r.0;
          within = (found.sound m r.0).2.within;
          untaken = sym (not_not (list_any (is_match (alike o.solver.theory.values) k m) o.instances.taken.taken)) ∙ ap not r.1;
        }

    pub all_owed : (os : List Subst) → os ≡ filter (is_owed (alike o.solver.theory.values) k o.instances.taken.taken) ms → AllByRecursion (λ m. IsOwedAt p g o n (owed_of k m)) os
    all_owed os e = all_of_each (λ (m : Subst). IsOwedAt p g o n (owed_of k m)) os (λ m c. one_owed m (subst (λ (w : List Subst). Contains w m) e c))

    pub none_found : (os : List Subst) → os ≡ filter (is_owed (alike o.solver.theory.values) k o.instances.taken.taken) ms → os ≡ [] → HasNone o n k w
    none_found os e z = (ms, found, sym e ∙ z)

-- ---- one match more of those that are owed
pub put_further : (Q : Owed → Type 0) (place : ℕ) (first owed rest : List Subst) (m : Subst) (all0 all new : List Owed) → owed ≡ rest ++ m ∷ [] → new ≡ all ++ owed_of place m ∷ []
    → AllByRecursion (λ k. Q (owed_of place k)) owed × (AllByRecursion Q all0 → AllByRecursion Q all) × (all ≡ [] → (all0 ≡ []) × (owed ≡ first))
    → AllByRecursion (λ k. Q (owed_of place k)) rest × (AllByRecursion Q all0 → AllByRecursion Q new) × (new ≡ [] → (all0 ≡ []) × (rest ≡ first))
put_further Q place first owed rest m all0 all new e f i =
    let a = subst (AllByRecursion (λ (k : Subst). Q (owed_of place k))) e i.0 in (
      all_front (λ (k : Subst). Q (owed_of place k)) rest (m ∷ []) a,
      λ h. subst (AllByRecursion Q) (sym f) (all_push Q all (owed_of place m) (i.1 h) (all_back (λ (k : Subst). Q (owed_of place k)) rest (m ∷ []) a).0),
      λ z. absurd (never_empty (owed_of place m) (empty_parts all (owed_of place m ∷ []) (sym f ∙ z)).1),
    )
  where
    never_empty : (x : Owed) → x ∷ [] ≡ [] → ⊥
    never_empty x z = cc z

-- ---- whether a literal stands, by the one place of its formula
pub standing_by : (t : List Assigned) (sign : Bool) (f : Formula) (place : ℕ) → place < length t → ((k : ℕ) → k < length t → (trail.at t k).lit.formula ≡ f → Some place ≡ Some k) → (r : Bool)
    → MatchBool r ((trail.at t place).lit ≡ lit_of sign f) (¬ ((trail.at t place).lit ≡ lit_of sign f)) → MatchBool r (Contains (trail_literals t) (lit_of sign f)) (¬ Contains (trail_literals t) (lit_of sign f))
standing_by t sign f place within only true h = stands_so t (lit_of sign f) (place, within, h)
standing_by t sign f place within only false h = λ c.
    let k = place_of t (lit_of sign f) c in
    h (ap (λ (n : ℕ). (trail.at t n).lit) (same_Some place k.0 (only k.0 k.1 (ap (λ (z : Lit). z.formula) k.2))) ∙ k.2)
