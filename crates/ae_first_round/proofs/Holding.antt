-- A search with the first clauses has all that it must.
use Rattle.std.specs.Prelude.{ℕ, ◌≡◌, take, map, List, [], slice_get, Some}
use Rattle.std.specs.List.{AllByRecursion}
use Rattle.std.proofs.Common.{sym, ap, ◌∙◌, subst, arith}
use Rattle.ae_base.specs.Relations.{Pairwise}
use Rattle.ae_ages.specs.Laws.{AreJustifiedAges}
use Rattle.ae_between_rounds.specs.Between.{Holds}
use Rattle.ae_between_rounds.specs.Fine.{AreFine, AreOrderless}
use Rattle.ae_between_rounds.specs.Held.{HasFirstOnes, HaveChoices, HaveConstants, HaveInstances, IsNotedAs, taken_of}
use Rattle.ae_between_rounds.specs.declared.search.Instance.{Instance}
use Rattle.ae_between_rounds.specs.declared.search.Search.{Search}
use Rattle.ae_core.specs.Signatures.{IsLawfulProblem}
use Rattle.ae_core.specs.declared.problems.Problem.{Problem}
use Rattle.ae_core.specs.declared.proofs.ClauseLine.{ClauseLine}
use Rattle.ae_explain.specs.declared.trail.Assigned.{Assigned}
use Rattle.ae_first_clauses.proofs.States.{lawful_in}
use Rattle.ae_first_clauses.specs.First.{AreFirst}
use Rattle.ae_first_round.proofs.Begun.{constants, entered, fine, firsts, had, is_first, justified, orderless}
use Rattle.ae_first_round.specs.Inner.First.{AreFirstBlocks, IsNamedFor}
use Rattle.ae_journal.specs.Standing.{Setting}
use Rattle.ae_journal.specs.States.{Pattern, of_axiom, pattern_of}
use Rattle.ae_journal.specs.declared.lines.Line.{Line}
use Rattle.ae_known.specs.Index.{HasHeads}
use Rattle.ae_owed.specs.Generations.{IsJustified}
use Rattle.ae_owed.specs.Recorded.{AreRecorded}
use Rattle.ae_owners.specs.Owners.{HasOwner, IsOwnerIn, owner_of}
use Rattle.ae_owners.specs.declared.owners.Owner.{Owner}
use Rattle.ae_rules.specs.Clauses.{Clause}
use Rattle.ae_searching.specs.Told.{IsToldIn, IsLawfulFor}

-- nothing was noted
none_recorded : (x : Setting) (bound : ℕ) → AreRecorded x [] bound []
none_recorded x bound = record {
  each = λ i h. absurd (let k = h.1 in omega (arith, k));
  within = λ i h. absurd (let k = h.1 in omega (arith, k));
  sorts = λ k ss h. absurd (let i = h.1 in omega (arith, i));
  terms = λ f ts h. absurd (let i = h.1 in omega (arith, i));
}

module _ (p : Problem) (g bound : ℕ) (lawful : IsLawfulProblem p) (ls : List ClauseLine) (cs : List Clause) (first : AreFirst p g ls cs) (o : Search) (named : IsNamedFor p.signature cs o.store o.ages)
    (blocks : AreFirstBlocks p g o.blocks.opened o.blocks.next) (clauses : o.solver.propagation.clauses ≡ cs) (lines : o.lines.items ≡ ls) (none : o.journal.lines ≡ []) where
  module _ (right : AllByRecursion (IsOwnerIn p g) o.owners) (apart : (k m : ℕ) (w e : Owner) → slice_get o.owners k ≡ Some w → slice_get o.owners m ≡ Some e → owner_of w ≡ owner_of e → k ≡ m)
      (axioms : (k : ℕ) (q : Pattern) → pattern_of p g (of_axiom k) ≡ Some q → HasOwner o.owners (of_axiom k)) (made : o.instances.made ≡ []) (taken : o.instances.taken.taken ≡ []) (looked : o.looked ≡ 0)
      (heads : HasHeads [] o.known) where
    instances : HaveInstances p g bound o.store o.blocks.opened o.owners o.instances.made o.instances.taken.taken o.ages o.journal.lines
    instances = record {
      right = right;
      apart = apart;
      axioms = axioms;
      instances = [];
      are = subst (λ (is : List Instance). Pairwise (IsNotedAs o.store o.owners) is []) (sym made) tt;
      taken_ones = taken ∙ ap (map taken_of) (sym made);
      recorded = λ x told. subst (λ (js : List Line). AreRecorded x js bound []) (sym none) (none_recorded x bound);
      typed = λ i k h e. absurd (let n = h.1 in omega (arith, n));
      had = had p g ls cs first lawful o.blocks.opened o.blocks.next blocks o.store o.ages named;
      justified = λ x told.
          subst (λ (js : List Line). IsJustified x bound o.store js × AreJustifiedAges x bound o.ages js) (sym none)
          (justified p g ls cs first lawful o.blocks.opened o.blocks.next blocks o.store o.ages named x told bound);
    }

    pub holds : Holds p g bound o
    holds = record {
      store = named.right;
      firsts = subst (HasFirstOnes p g) (sym clauses) (firsts p g ls cs first);
      constants = subst (λ (w : List ClauseLine × List Clause). HaveConstants p g o.blocks.next o.blocks.opened o.store w.0 w.1) (λ i. (sym lines i, sym clauses i))
          (constants p g ls cs first lawful o.blocks.opened o.blocks.next blocks o.store o.ages named);
      instances = instances;
      choices = subst (λ (n : ℕ). HaveChoices p.signature o.store n o.solver.propagation.clauses) (sym looked)
          (record { within = omega arith; chosen = λ n u c lt at e. absurd (omega (arith, lt)) });
      heads = subst (λ (n : ℕ). HasHeads (take n o.store.nodes) o.known) (sym looked) heads;
      fine = λ low. subst (λ (w : List ClauseLine × List Clause). AreFine o.store w.0 w.1) (λ i. (sym lines i, sym clauses i))
          (fine p g ls cs first lawful o.blocks.opened o.blocks.next blocks o.store o.ages named low);
      orderless = λ goal. subst AreOrderless (sym clauses) (orderless p g ls cs first goal);
    }

  -- for each setting nothing was done against the law
  pub lawful_for : o.solver.propagation.trail ≡ [] → o.solver.expanded ≡ 0 → (x : Setting) → IsToldIn p g o.store o.blocks.opened x
      → IsLawfulFor x bound o.store o.solver.propagation.trail o.solver.propagation.clauses o.solver.expanded o.lines.items o.journal.lines
  lawful_for trail expanded x told =
      let start : IsLawfulFor x bound o.store [] cs 0 ls [] =
      record {
        legal = tt;
        state = lawful_in p g x ls cs (is_first p g ls cs first lawful o.blocks.opened o.blocks.next blocks o.store o.ages named x told) first;
        entered = entered p g ls cs first lawful o.blocks.opened o.blocks.next blocks o.store o.ages named x told;
      } in
      let a = subst (λ (t : List Assigned). IsLawfulFor x bound o.store t cs 0 ls []) (sym trail) start in
      let b = subst (λ (n : ℕ). IsLawfulFor x bound o.store o.solver.propagation.trail cs n ls []) (sym expanded) a in
      subst (λ (w : List Clause × List ClauseLine × List Line). IsLawfulFor x bound o.store o.solver.propagation.trail w.0 o.solver.expanded w.1 w.2) (λ i. (sym clauses i, sym lines i, sym none i)) b
