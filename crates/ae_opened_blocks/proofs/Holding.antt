-- What a search holds beside the solver, once the clause of a block came in.
use Rattle.std.specs.Prelude.{ℕ, ◌≡◌, true, List, [], ◌∷◌, ◌++◌, take}
use Rattle.std.specs.List.{Contains}
use Rattle.std.proofs.Common.{sym, subst, append-nil}
use Rattle.ae_between_rounds.proofs.Growing.{choices_grow, clause_terms_lowest, fine_more, fine_names, firsts_grow, orderless_more}
use Rattle.ae_between_rounds.specs.Between.{Holds, IsBetweenRounds}
use Rattle.ae_between_rounds.specs.Fine.{AreFine, AreOrderless, IsFineFormula}
use Rattle.ae_between_rounds.specs.Held.{HasFirstOnes, HaveChoices, HaveConstants, HaveInstances}
use Rattle.ae_between_rounds.specs.declared.search.Instantiated.{Instantiated}
use Rattle.ae_between_rounds.specs.declared.search.Search.{Search}
use Rattle.ae_core.specs.declared.formulas.Formula.{Formula}
use Rattle.ae_core.specs.declared.formulas.Lit.{Lit}
use Rattle.ae_core.specs.declared.problems.Problem.{Problem}
use Rattle.ae_core.specs.declared.proofs.ClauseLine.{ClauseLine}
use Rattle.ae_goal_names.specs.Named.{all_terms, clause_terms, HasNamed}
use Rattle.ae_journal.specs.Noted.{Noted}
use Rattle.ae_kept_heads.proofs.Heads.{heads_stay}
use Rattle.ae_known.specs.Index.{HasHeads}
use Rattle.ae_known.specs.declared.known.Known.{Known}
use Rattle.ae_opened_blocks.proofs.Ages.{instances_opened}
use Rattle.ae_opened_blocks.proofs.Constants.{constants_opened}
use Rattle.ae_opened_blocks.proofs.Fresh.{fresh_fine, fresh_line_fine}
use Rattle.ae_brought_blocks.specs.Coming.{ComesIn}
use Rattle.ae_opening.specs.Asking.{IsOpened}
use Rattle.ae_opening_steps.specs.Ready.{IsReady}
use Rattle.ae_orderless.proofs.Clauses.{fresh_orderless}
use Rattle.ae_orderless.specs.Orderless.{is_orderless}
use Rattle.ae_owners.specs.declared.owners.Owner.{Owner}
use Rattle.ae_rules.specs.Clauses.{Clause}
use Rattle.ae_sat.proofs.Learnt.{still_one}
use Rattle.ae_sat.specs.Standing.{IsOneOf}
use Rattle.ae_theory.specs.Names.{Extends}

-- what the clause of a block leaves as it is
pub record IsAside (o o2 : Search) : Type 0 where
  pub journal : o2.journal ≡ o.journal
  pub known_names : o2.known ≡ o.known
  pub looked : o2.looked ≡ o.looked
  pub owners : o2.owners ≡ o.owners
  pub instances : o2.instances ≡ o.instances

module _ (p : Problem) (g bound : ℕ) (o o2 : Search) (b : IsBetweenRounds p g bound o) (f : Formula) (w : ComesIn bound f o.blocks o2.blocks o.store o2.store o.ages o2.ages o.lines.items o2.lines.items o.solver.propagation.clauses o2.solver.propagation.clauses)
    (rest : IsAside o o2) (unopened : ¬ IsOpened o.blocks.opened f)
    (ready : IsReady p o.blocks.next o.solver.propagation.clauses f) (d : Clause) (k : Lit) (of : IsOneOf o.solver.propagation.clauses d) (has : Contains d k) (is : k.formula ≡ f) where
  abbrev cs : List Clause
  cs = o.solver.propagation.clauses

  abbrev more : List Clause
  more = cs ++ w.clause ∷ []

  abbrev longer : List ClauseLine
  longer = o.lines.items ++ w.line ∷ []

  named : HasNamed o.store o2.store (all_terms (w.clause ∷ []))
  named = subst (HasNamed o.store o2.store) (sym (append-nil (clause_terms w.clause))) w.brought.named

  extends : Extends o.store o2.store
  extends = record { signature = w.brought.named.signature; keeps = w.brought.named.keeps }

  constants_so : HaveConstants p g o2.blocks.next o2.blocks.opened o2.store o2.lines.items o2.solver.propagation.clauses
  constants_so =
      subst (λ (x : List ClauseLine). HaveConstants p g o2.blocks.next o2.blocks.opened o2.store x o2.solver.propagation.clauses) (sym w.lines)
      (subst (HaveConstants p g o2.blocks.next o2.blocks.opened o2.store longer) (sym w.clauses)
      (constants_opened o.blocks.next o2.blocks.next f o.blocks.opened o2.blocks.opened w.line w.clause w.opens p g o.store o2.store o.lines.items cs b.holds.constants unopened ready.below ready.sorted named))

  instances_so : HaveInstances p g bound o2.store o2.blocks.opened o2.owners o2.instances.made o2.instances.taken.taken o2.ages o2.journal.lines
  instances_so =
      subst (λ (x : List Owner). HaveInstances p g bound o2.store o2.blocks.opened x o2.instances.made o2.instances.taken.taken o2.ages o2.journal.lines) (sym rest.owners)
      (subst (λ (x : Instantiated). HaveInstances p g bound o2.store o2.blocks.opened o.owners x.made x.taken.taken o2.ages o2.journal.lines) (sym rest.instances)
      (subst (λ (x : Noted). HaveInstances p g bound o2.store o2.blocks.opened o.owners o.instances.made o.instances.taken.taken o2.ages x.lines) (sym rest.journal)
      (instances_opened o.blocks.next o2.blocks.next w.generation bound f o.blocks.opened o2.blocks.opened w.line w.clause w.opens o.store o2.store o.ages o2.ages w.brought w.least w.known p g
      o.owners o.instances.made o.instances.taken.taken o.journal.lines (sym b.searching.signature) b.holds.instances)))

  choices_so : HaveChoices p.signature o2.store o2.looked o2.solver.propagation.clauses
  choices_so =
      subst (λ x. HaveChoices p.signature o2.store x o2.solver.propagation.clauses) (sym rest.looked)
      (subst (HaveChoices p.signature o2.store o.looked) (sym w.clauses)
      (choices_grow p.signature o.store o2.store o.looked cs more extends (λ e i. still_one cs w.clause e i) b.holds.choices))

  heads_so : HasHeads (take o2.looked o2.store.nodes) o2.known
  heads_so =
      subst (λ x. HasHeads (take x o2.store.nodes) o2.known) (sym rest.looked)
      (subst (λ (x : Known). HasHeads (take o.looked o2.store.nodes) x) (sym rest.known_names)
      (heads_stay o.looked o.store o2.store o.known b.holds.store w.store extends.signature extends.keeps b.holds.choices.within b.holds.heads))

  fine_so : AreFine o.store o.lines.items cs → AreFine o2.store o2.lines.items o2.solver.propagation.clauses
  fine_so h =
      let own : IsFineFormula f = subst IsFineFormula is (h.formulas d k of has) in
      let each = fresh_fine f o.blocks.next w.clause own w.opens.clause in
      subst (λ (x : List ClauseLine). AreFine o2.store x o2.solver.propagation.clauses) (sym w.lines)
      (subst (AreFine o2.store longer) (sym w.clauses)
      (fine_more o2.store o.lines.items cs w.line w.clause (fresh_line_fine f o.blocks.next w.line own w.opens.line) each
      (fine_names o.store o2.store (clause_terms w.clause) o.lines.items cs w.brought.named (clause_terms_lowest w.clause (λ m i. (each m i).0)) h)))

  orderless_so : AreOrderless cs → AreOrderless o2.solver.propagation.clauses
  orderless_so h =
      subst AreOrderless (sym w.clauses)
      (orderless_more cs w.clause (fresh_orderless f o.blocks.next w.clause (subst (λ (x : Formula). is_orderless x ≡ true) is (h d k of has)) w.opens.clause) h)

  pub holds_still : Holds p g bound o2
  holds_still = record {
    store = w.store;
    firsts = subst (HasFirstOnes p g) (sym w.clauses) (firsts_grow p g cs more (λ e i. still_one cs w.clause e i) b.holds.firsts);
    constants = constants_so;
    instances = instances_so;
    choices = choices_so;
    heads = heads_so;
    fine = λ low. fine_so (b.holds.fine low);
    orderless = λ none. orderless_so (b.holds.orderless none);
  }
