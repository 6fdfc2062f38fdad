-- A search goes on with the clause of the order of two numbers.
use Rattle.std.specs.Prelude.{ℕ, ◌≤◌, ◌≡◌, true, take, List, [], ◌∷◌, ◌++◌, length, slice_get, Some, None}
use Rattle.std.specs.List.{AllByRecursion, Contains}
use Rattle.std.proofs.Common.{sym, subst, arith, append-nil}
use Rattle.ae_added_orders.proofs.Concluding.{fine_line, fine_order, order_concludes}
use Rattle.ae_added_orders.proofs.Over.{new_numbers}
use Rattle.ae_added_orders.specs.Inner.Added.{latest}
use Rattle.ae_added_orders.specs.Ordering.{MayBeOrdered}
use Rattle.ae_ages.specs.declared.entries.Aged.{Aged}
use Rattle.ae_between_rounds.proofs.Growing.{choices_grow, clause_terms_lowest, constants_more, constants_names, fine_more, fine_names, instances_names}
use Rattle.ae_between_rounds.specs.Between.{Holds}
use Rattle.ae_between_rounds.specs.Fine.{AreFine, AreOrderless}
use Rattle.ae_between_rounds.specs.Held.{HaveChoices, HaveConstants, HaveInstances}
use Rattle.ae_between_rounds.specs.declared.search.Search.{Search}
use Rattle.ae_block_constants.specs.declared.opened.Opened.{Opened}
use Rattle.ae_brought_clauses.specs.Brought.{AreBrought}
use Rattle.ae_core.specs.declared.formulas.Lit.{Lit}
use Rattle.ae_core.specs.declared.problems.Problem.{Problem}
use Rattle.ae_core.specs.declared.proofs.ClauseLine.{ClauseLine}
use Rattle.ae_core.specs.declared.proofs.ClauseLine.TheVariants.{Tri}
use Rattle.ae_core.specs.declared.terms.Sort.{out-Sort}
use Rattle.ae_core.specs.declared.terms.Term.{Term}
use Rattle.ae_goal_names.specs.Named.{HasNamed, clause_terms}
use Rattle.ae_journal.proofs.Splits.{all_contained, contains_one}
use Rattle.ae_journal.specs.Standing.{Setting, IsEntered}
use Rattle.ae_journal.specs.Standing.IsFormula.{of_order}
use Rattle.ae_kept_blocks.proofs.Members.{contained}
use Rattle.ae_kept_blocks.proofs.Names.{names_below}
use Rattle.ae_kept_blocks.specs.Kept.{AreClausesBelow}
use Rattle.ae_kept_heads.proofs.Heads.{heads_stay}
use Rattle.ae_known.specs.Index.{HasHeads}
use Rattle.ae_new_constants.proofs.Clauses.{order_below}
use Rattle.ae_new_constants.proofs.Lines.{order_line}
use Rattle.ae_new_constants.specs.Below.{IsClauseBelow, IsFormulaBelow, IsTermBelow}
use Rattle.ae_next_clauses.proofs.Coming.{order_comes}
use Rattle.ae_next_clauses.proofs.Naming.{terms_grow, terms_named}
use Rattle.ae_numerals_kept.proofs.Lowest.{order_lowest}
use Rattle.ae_orderless.specs.Orderless.{IsOrderlessGoal}
use Rattle.ae_rules.proofs.SortedLines.{stated_sorted}
use Rattle.ae_rules.specs.Clauses.{Clause}
use Rattle.ae_rules.specs.Derivations.{clause_ok, conclusion}
use Rattle.ae_rules.specs.Instances.{choices_of, trichotomy}
use Rattle.ae_sat.proofs.Learnt.{still_one}
use Rattle.ae_searching.proofs.Settings.{for_setting, told_before}
use Rattle.ae_searching.specs.Steps.{Grows, MayCome}
use Rattle.ae_searching.specs.Told.{IsToldIn}
use Rattle.ae_store.specs.Stores.{Stored, IsStore}
use Rattle.ae_store.specs.declared.nodes.Node.{Node}
use Rattle.ae_theory.specs.Names.{Extends, terms_in}
use Rattle.ae_writable.specs.Numbers.{HasLowestNumerals}

module _ (p : Problem) (g bound : ℕ) (o : Search) (u w : Term) (c : Clause) (holds : Holds p g bound o) (same : p.signature ≡ o.store.signature) (may : MayBeOrdered p g o u w) (e : trichotomy p.signature u w ≡ Some c) where
  abbrev clauses : List Clause
  clauses = o.solver.propagation.clauses

  abbrev opened : List Opened
  opened = o.blocks.opened

  abbrev next : ℕ
  next = o.blocks.next

  concludes : conclusion p g (Tri u w) ≡ Some c
  concludes = order_concludes p g u w c e

  pub clause_sorted : clause_ok p.signature c ≡ true
  clause_sorted = stated_sorted p g (Tri u w) c concludes

  clause_below : IsClauseBelow next c
  clause_below = order_below next p.signature u w c may.below.0 may.below.1 e

  own_below : AreClausesBelow next (c ∷ [])
  own_below d l i k = all_contained (λ (x : Lit). IsFormulaBelow next x.formula) c l clause_below (subst (λ (x : Clause). Contains x l) (sym (contains_one c d (contained (c ∷ []) d i))) k)

  module _ (t : Stored) (es : List Aged) (b : AreBrought [] latest o.store [] t es c) where
    pub extends : Extends o.store t
    extends = record { signature = b.named.signature; keeps = b.named.keeps }

    entered : (x : Setting) → IsToldIn p g t opened x → IsEntered x o.journal.lines u × IsEntered x o.journal.lines w
    entered x told = may.entered x (told_before p g o.store t opened opened x extends (λ v i. i) told)

    -- ---- the solver
    pub grows : Grows p g o.store t opened opened o.journal.lines
    grows =
        terms_grow p g o.store t opened opened o.journal.lines c same b.named (λ v i. i)
        (λ x told m i. of_order o.journal.lines u w c m (entered x told).0 (entered x told).1 (for_setting (λ q k. trichotomy q.signature u w ≡ Some c) p g t opened x told e) i)

    pub comes : MayCome p g t opened o.lines.items o.journal.lines (Tri u w) c
    comes = order_comes p g t opened o.lines.items o.journal.lines c (terms_named o.store t c b.named) u w entered concludes

    -- ---- what stands beside it
    names : AllByRecursion (IsTermBelow next) (terms_in t)
    names = names_below next o.store t (c ∷ []) (subst (HasNamed o.store t) (sym (append-nil (clause_terms c))) b.named) own_below holds.constants.names

    pub constants : (ls : List ClauseLine) (cs : List Clause) → ls ≡ o.lines.items ++ Tri u w ∷ [] → cs ≡ clauses ++ c ∷ [] → HaveConstants p g next opened t ls cs
    constants ls cs a d =
        subst (λ (z : List ClauseLine × List Clause). HaveConstants p g next opened t z.0 z.1) (λ i. (sym a i, sym d i))
        (constants_more p g next opened t o.lines.items clauses (constants_names p g next opened o.store o.lines.items clauses holds.constants t names) (Tri u w) c (order_line next p g u w may.below.0 may.below.1) clause_below)

    pub instances : bound ≤ latest → HaveInstances p g bound t opened o.owners o.instances.made o.instances.taken.taken o.ages o.journal.lines
    instances within =
        instances_names p g bound o.store opened o.owners o.instances.made o.instances.taken.taken o.ages o.journal.lines holds.instances t extends b.known
        (λ n v lt y. b.late n v (omega (arith, lt, within)) y)

    pub choices : (cs : List Clause) → cs ≡ clauses ++ c ∷ [] → HaveChoices p.signature t o.looked cs
    choices cs d = subst (HaveChoices p.signature t o.looked) (sym d) (choices_grow p.signature o.store t o.looked clauses (clauses ++ c ∷ []) extends (λ k i. still_one clauses c k i) holds.choices)

    pub heads : IsStore t.signature t.nodes → HasHeads (take o.looked t.nodes) o.known
    heads st = heads_stay o.looked o.store t o.known holds.store st b.named.signature b.named.keeps holds.choices.within holds.heads

    -- the names that are new are of no enumeration
    pub numbers : IsStore t.signature t.nodes → o.looked ≡ length o.store.nodes → (n : ℕ) (x : Node) → o.looked ≤ n → slice_get t.nodes n ≡ Some x → choices_of p.signature (out-Sort x.sort) ≡ None
    numbers st looked n x l at = new_numbers p.signature o.store t c u w e same may.over b.named st n x (subst (λ (k : ℕ). k ≤ n) looked l) at

    module _ (low : HasLowestNumerals p) where
      pub fine : (ls : List ClauseLine) (cs : List Clause) → ls ≡ o.lines.items ++ Tri u w ∷ [] → cs ≡ clauses ++ c ∷ [] → AreFine t ls cs
      fine ls cs a d =
          let n = may.lowest low in
          subst (λ (z : List ClauseLine × List Clause). AreFine t z.0 z.1) (λ i. (sym a i, sym d i))
          (fine_more t o.lines.items clauses (Tri u w) c (fine_line u w n.0 n.1) (fine_order p.signature u w c e n.0 n.1)
          (fine_names o.store t (clause_terms c) o.lines.items clauses b.named (clause_terms_lowest c (λ m i. order_lowest p.signature u w n.0 n.1 c e m i)) (holds.fine low)))

  pub orderless : (cs : List Clause) → IsOrderlessGoal p g → AreOrderless cs
  orderless cs goal = absurd (may.ordered goal)
