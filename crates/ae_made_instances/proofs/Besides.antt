-- What a search holds beside the solver and the instances, once a clause is brought and once a line is noted.
use Rattle.std.specs.Prelude.{ℕ, ◌≡◌, List, [], ◌∷◌, ◌++◌, take}
use Rattle.std.specs.List.{AllByRecursion, Contains}
use Rattle.std.proofs.Common.{sym, subst, append-nil}
use Rattle.ae_between_rounds.proofs.Growing.{choices_grow, clause_terms_lowest, constants_more, constants_names, fine_more, fine_names, firsts_grow, orderless_more}
use Rattle.ae_between_rounds.specs.Between.{Holds}
use Rattle.ae_between_rounds.specs.Fine.{AreFine, AreOrderless}
use Rattle.ae_between_rounds.specs.Held.{HasFirstOnes, HaveChoices, HaveConstants, HaveInstances}
use Rattle.ae_between_rounds.specs.declared.search.Search.{Search}
use Rattle.ae_brought_clauses.specs.Brought.{AreBrought}
use Rattle.ae_core.specs.declared.formulas.Lit.{Lit}
use Rattle.ae_core.specs.declared.problems.Problem.{Problem}
use Rattle.ae_core.specs.declared.proofs.ClauseLine.{ClauseLine}
use Rattle.ae_goal_names.specs.Named.{HasNamed, all_terms, clause_terms}
use Rattle.ae_instance_lines.specs.declared.lines.InstanceLine.{InstanceLine}
use Rattle.ae_journal.proofs.Splits.{all_contained, contains_one}
use Rattle.ae_kept_blocks.proofs.Members.{contained}
use Rattle.ae_kept_blocks.proofs.Names.{names_below}
use Rattle.ae_kept_heads.proofs.Heads.{heads_stay}
use Rattle.ae_known.specs.Index.{HasHeads}
use Rattle.ae_known.specs.declared.known.Known.{Known}
use Rattle.ae_made_instances.specs.Inner.Beside.{IsBeside}
use Rattle.ae_made_instances.specs.Inner.Noting.{IsReadyLine}
use Rattle.ae_new_constants.proofs.Lines.{stated_below}
use Rattle.ae_new_constants.specs.Below.{IsClauseBelow, IsFormulaBelow, IsTermBelow}
use Rattle.ae_opening.specs.declared.opening.OpenedBlocks.{OpenedBlocks}
use Rattle.ae_orderless.specs.Orderless.{IsOrderlessGoal}
use Rattle.ae_rules.specs.Clauses.{Clause}
use Rattle.ae_sat.proofs.Learnt.{still_one}
use Rattle.ae_sat.specs.Standing.{IsOneOf}
use Rattle.ae_store.specs.Stores.{IsStore}
use Rattle.ae_theory.specs.Names.{Extends, terms_in}
use Rattle.ae_writable.specs.Numbers.{HasLowestNumerals}

pub beside_of : (p : Problem) (g bound : ℕ) (o : Search) → Holds p g bound o → IsBeside p g o
beside_of p g bound o h = record { store = h.store; firsts = h.firsts; constants = h.constants; choices = h.choices; heads = h.heads; fine = h.fine; orderless = h.orderless }

pub holds_of : (p : Problem) (g bound : ℕ) (o : Search) → IsBeside p g o → HaveInstances p g bound o.store o.blocks.opened o.owners o.instances.made o.instances.taken.taken o.ages o.journal.lines → Holds p g bound o
holds_of p g bound o h i =
    record { store = h.store; firsts = h.firsts; constants = h.constants; instances = i; choices = h.choices; heads = h.heads; fine = h.fine; orderless = h.orderless }

module _ (p : Problem) (g : ℕ) (o o2 : Search) (h : IsBeside p g o) where
  beside_with : (lines : List ClauseLine) (cs : List Clause) → ((d : Clause) → IsOneOf o.solver.propagation.clauses d → IsOneOf cs d) → o2.lines.items ≡ lines → o2.solver.propagation.clauses ≡ cs → o2.blocks ≡ o.blocks
      → o2.known ≡ o.known → o2.looked ≡ o.looked → IsStore o2.store.signature o2.store.nodes → Extends o.store o2.store → HaveConstants p g o.blocks.next o.blocks.opened o2.store lines cs
      → (HasLowestNumerals p → AreFine o2.store lines cs) → (IsOrderlessGoal p g → AreOrderless cs) → IsBeside p g o2
  beside_with lines cs kept el ec eb ek en store extends constants fine orderless = record {
    store = store;
    firsts = subst (HasFirstOnes p g) (sym ec) (firsts_grow p g o.solver.propagation.clauses cs kept h.firsts);
    constants = subst (λ (z : OpenedBlocks). HaveConstants p g z.next z.opened o2.store o2.lines.items o2.solver.propagation.clauses) (sym eb)
        (subst (λ (z : List ClauseLine). HaveConstants p g o.blocks.next o.blocks.opened o2.store z o2.solver.propagation.clauses) (sym el)
        (subst (HaveConstants p g o.blocks.next o.blocks.opened o2.store lines) (sym ec) constants));
    choices = subst (λ (z : ℕ). HaveChoices p.signature o2.store z o2.solver.propagation.clauses) (sym en)
        (subst (HaveChoices p.signature o2.store o.looked) (sym ec) (choices_grow p.signature o.store o2.store o.looked o.solver.propagation.clauses cs extends kept h.choices));
    heads = subst (λ (z : ℕ). HasHeads (take z o2.store.nodes) o2.known) (sym en)
        (subst (λ (z : Known). HasHeads (take o.looked o2.store.nodes) z) (sym ek)
        (heads_stay o.looked o.store o2.store o.known h.store store extends.signature extends.keeps h.choices.within h.heads));
    fine = λ low. subst (λ (z : List ClauseLine). AreFine o2.store z o2.solver.propagation.clauses) (sym el) (subst (AreFine o2.store lines) (sym ec) (fine low));
    orderless = λ none. subst AreOrderless (sym ec) (orderless none);
  }

  module _ (n bound : ℕ) (l : InstanceLine) (r : IsReadyLine p g bound o l) (b : AreBrought o.blocks.opened n o.store o.ages o2.store o2.ages l.clause) where
    pub extends : Extends o.store o2.store
    extends = record { signature = b.named.signature; keeps = b.named.keeps }

    below : IsClauseBelow o.blocks.next l.clause
    below = stated_below o.blocks.next p g l.statement l.clause r.below r.concludes

    one_below : (d : Clause) (m : Lit) → IsOneOf (l.clause ∷ []) d → Contains d m → IsFormulaBelow o.blocks.next m.formula
    one_below d m i k =
        all_contained (λ (z : Lit). IsFormulaBelow o.blocks.next z.formula) l.clause m below
        (subst (λ (z : Clause). Contains z m) (sym (contains_one l.clause d (contained (l.clause ∷ []) d i))) k)

    named : HasNamed o.store o2.store (all_terms (l.clause ∷ []))
    named = subst (HasNamed o.store o2.store) (sym (append-nil (clause_terms l.clause))) b.named

    names : AllByRecursion (IsTermBelow o.blocks.next) (terms_in o2.store)
    names = names_below o.blocks.next o.store o2.store (l.clause ∷ []) named one_below h.constants.names

    constants : HaveConstants p g o.blocks.next o.blocks.opened o2.store o.lines.items o.solver.propagation.clauses
    constants = constants_names p g o.blocks.next o.blocks.opened o.store o.lines.items o.solver.propagation.clauses h.constants o2.store names

    fine_still : HasLowestNumerals p → AreFine o2.store o.lines.items o.solver.propagation.clauses
    fine_still low =
        fine_names o.store o2.store (clause_terms l.clause) o.lines.items o.solver.propagation.clauses b.named (clause_terms_lowest l.clause (λ m i. ((r.fine low).1 m i).0)) (h.fine low)

    pub beside_said : IsStore o2.store.signature o2.store.nodes → o2.lines.items ≡ o.lines.items → o2.solver.propagation.clauses ≡ o.solver.propagation.clauses → o2.blocks ≡ o.blocks → o2.known ≡ o.known
        → o2.looked ≡ o.looked → IsBeside p g o2
    beside_said store el ec eb ek en = beside_with o.lines.items o.solver.propagation.clauses (λ d i. i) el ec eb ek en store extends constants fine_still h.orderless

    pub beside_come : IsStore o2.store.signature o2.store.nodes → o2.lines.items ≡ o.lines.items ++ l.statement ∷ [] → o2.solver.propagation.clauses ≡ o.solver.propagation.clauses ++ l.clause ∷ [] → o2.blocks ≡ o.blocks
        → o2.known ≡ o.known → o2.looked ≡ o.looked → IsBeside p g o2
    beside_come store el ec eb ek en =
        beside_with (o.lines.items ++ l.statement ∷ []) (o.solver.propagation.clauses ++ l.clause ∷ []) (λ d i. still_one o.solver.propagation.clauses l.clause d i) el ec eb ek en store extends
        (constants_more p g o.blocks.next o.blocks.opened o2.store o.lines.items o.solver.propagation.clauses constants l.statement l.clause r.below below)
        (λ low. fine_more o2.store o.lines.items o.solver.propagation.clauses l.statement l.clause (r.fine low).0 (r.fine low).1 (fine_still low))
        (λ none. orderless_more o.solver.propagation.clauses l.clause (r.orderless none) (h.orderless none))
