-- A search goes on with the clause of a name of an enumeration.
use Rattle.std.specs.Prelude.{ℕ, ◌≤◌, ◌≡◌, true, take, not, List, [], ◌∷◌, ◌++◌, Some}
use Rattle.std.specs.List.{AllByRecursion, Contains}
use Rattle.std.proofs.Common.{refl, sym, ap, ◌∙◌, subst, arith, append-nil}
use Rattle.ae_ages.specs.declared.entries.Aged.{Aged}
use Rattle.ae_between_rounds.proofs.Growing.{choices_grow, clause_terms_lowest, constants_more, constants_names, fine_more, fine_names, instances_names, orderless_more}
use Rattle.ae_between_rounds.specs.Between.{Holds, IsSearchingBelow}
use Rattle.ae_between_rounds.specs.Fine.{AreFine, AreOrderless, IsFineFormula}
use Rattle.ae_between_rounds.specs.Held.{HaveChoices, HaveConstants, HaveInstances}
use Rattle.ae_between_rounds.specs.declared.search.Search.{Search}
use Rattle.ae_block_constants.specs.declared.opened.Opened.{Opened}
use Rattle.ae_block_counts.specs.Counts.{blocks_of, quantifiers_left}
use Rattle.ae_brought_clauses.specs.Brought.{AreBrought}
use Rattle.ae_core.specs.Signatures.{IsLawful}
use Rattle.ae_core.specs.declared.formulas.Formula.{out-Formula}
use Rattle.ae_core.specs.declared.formulas.Formula.TheVariants.{outs-Eq}
use Rattle.ae_core.specs.declared.formulas.Lit.{Lit}
use Rattle.ae_core.specs.declared.problems.Problem.{Problem}
use Rattle.ae_core.specs.declared.proofs.ClauseLine.{ClauseLine}
use Rattle.ae_core.specs.declared.proofs.ClauseLine.TheVariants.{Exh}
use Rattle.ae_core.specs.declared.terms.Term.{Term, Apply}
use Rattle.ae_data.proofs.ExhaustionLaws.{line_states}
use Rattle.ae_entered_names.proofs.Chosen.{its_heads}
use Rattle.ae_entered_names.proofs.Counted.{equation_blocks, same_quantifiers}
use Rattle.ae_entered_names.specs.Inner.Choosing.{latest}
use Rattle.ae_goal_names.specs.Named.{HasNamed, clause_terms}
use Rattle.ae_journal.proofs.Splits.{all_contained, contains_one}
use Rattle.ae_journal.specs.Standing.{Setting, IsEntered}
use Rattle.ae_journal.specs.Standing.IsFormula.{of_choice}
use Rattle.ae_kept_blocks.proofs.Members.{contained}
use Rattle.ae_kept_blocks.proofs.Names.{names_below}
use Rattle.ae_kept_blocks.specs.Kept.{AreClausesBelow}
use Rattle.ae_kept_heads.proofs.Heads.{heads_stay}
use Rattle.ae_known.specs.Index.{HasHeads}
use Rattle.ae_legal_texts.specs.Writable.{is_negation}
use Rattle.ae_new_constants.proofs.Clauses.{choice_below}
use Rattle.ae_new_constants.proofs.Lines.{choice_line}
use Rattle.ae_new_constants.specs.Below.{IsClauseBelow, IsFormulaBelow, IsTermBelow}
use Rattle.ae_next_clauses.proofs.Coming.{choice_comes}
use Rattle.ae_next_clauses.proofs.Naming.{terms_grow, terms_named}
use Rattle.ae_numerals_kept.proofs.Lowest.{choice_lowest}
use Rattle.ae_numerals_kept.specs.Lowest.{IsLowestTerm}
use Rattle.ae_open_states.proofs.Choices.{choice, of_head}
use Rattle.ae_orderless.proofs.Clauses.{choice_orderless}
use Rattle.ae_orderless.specs.Orderless.{IsOrderlessGoal}
use Rattle.ae_rules.proofs.SortedLines.{stated_sorted}
use Rattle.ae_rules.specs.Clauses.{Clause}
use Rattle.ae_rules.specs.Derivations.{clause_ok, conclusion}
use Rattle.ae_rules.specs.Instances.{exhaustion}
use Rattle.ae_sat.proofs.Learnt.{still_one}
use Rattle.ae_searching.proofs.Settings.{for_setting, told_before}
use Rattle.ae_searching.specs.Steps.{Grows, MayCome}
use Rattle.ae_searching.specs.Told.{IsToldIn}
use Rattle.ae_store.specs.Stores.{Stored, IsStore}
use Rattle.ae_theory.specs.Names.{Extends, terms_in}
use Rattle.ae_writable.specs.Numbers.{HasLowestNumerals}

module _ (p : Problem) (g bound : ℕ) (o : Search) (u : Term) (c : Clause) (holds : Holds p g bound o) (same : p.signature ≡ o.store.signature) (there : Contains (terms_in o.store) u)
    (e : exhaustion p.signature u ≡ Some c) where
  abbrev clauses : List Clause
  clauses = o.solver.propagation.clauses

  abbrev opened : List Opened
  opened = o.blocks.opened

  abbrev next : ℕ
  next = o.blocks.next

  concludes : conclusion p g (Exh u) ≡ Some c
  concludes = line_states p.signature (subst IsLawful (sym same) holds.store.lawful) u p g refl ∙ e

  pub clause_sorted : clause_ok p.signature c ≡ true
  clause_sorted = stated_sorted p g (Exh u) c concludes

  no_blocks : (m : Lit) → Contains c m → blocks_of m.formula ≡ []
  no_blocks m i =
      let w = its_heads p.signature u c e in
      let h = of_head (choice u) w.1 m (subst (λ (x : Clause). Contains x m) (sym w.4) i) in
      subst (λ (x : Lit). blocks_of x.formula ≡ []) h.2 (equation_blocks u (Apply h.0 [] []))

  pub quantifiers : (cs : List Clause) → cs ≡ clauses ++ c ∷ [] → (ds : List Opened) → quantifiers_left ds cs ≤ quantifiers_left ds clauses
  quantifiers cs d ds = let s = ap (quantifiers_left ds) d ∙ same_quantifiers clauses c no_blocks ds in omega (arith, s)

  below : IsTermBelow next u
  below = all_contained (IsTermBelow next) (terms_in o.store) u holds.constants.names there

  clause_below : IsClauseBelow next c
  clause_below = choice_below next p.signature u c below e

  own_below : AreClausesBelow next (c ∷ [])
  own_below d l i k = all_contained (λ (x : Lit). IsFormulaBelow next x.formula) c l clause_below (subst (λ (x : Clause). Contains x l) (sym (contains_one c d (contained (c ∷ []) d i))) k)

  module _ (t : Stored) (es : List Aged) (b : AreBrought [] latest o.store [] t es c) where
    pub extends : Extends o.store t
    extends = record { signature = b.named.signature; keeps = b.named.keeps }

    told_in : (x : Setting) → IsToldIn p g t opened x → IsToldIn p g o.store opened x
    told_in x told = told_before p g o.store t opened opened x extends (λ w i. i) told

    -- ---- the solver
    module _ (level : ℕ) (s : IsSearchingBelow p g bound level o) where
      entered : (x : Setting) → IsToldIn p g t opened x → IsEntered x o.journal.lines u
      entered x told = (s.lawful x (told_in x told)).entered u there

      pub grows : Grows p g o.store t opened opened o.journal.lines
      grows =
          terms_grow p g o.store t opened opened o.journal.lines c same b.named (λ w i. i)
          (λ x told m i. of_choice o.journal.lines u c m (entered x told) (for_setting (λ q k. exhaustion q.signature u ≡ Some c) p g t opened x told e) i)

      pub comes : MayCome p g t opened o.lines.items o.journal.lines (Exh u) c
      comes = choice_comes p g t opened o.lines.items o.journal.lines c (terms_named o.store t c b.named) u entered concludes

    -- ---- what stands beside it
    names : AllByRecursion (IsTermBelow next) (terms_in t)
    names = names_below next o.store t (c ∷ []) (subst (HasNamed o.store t) (sym (append-nil (clause_terms c))) b.named) own_below holds.constants.names

    pub constants : (ls : List ClauseLine) (cs : List Clause) → ls ≡ o.lines.items ++ Exh u ∷ [] → cs ≡ clauses ++ c ∷ [] → HaveConstants p g next opened t ls cs
    constants ls cs a d =
        subst (λ (w : List ClauseLine × List Clause). HaveConstants p g next opened t w.0 w.1) (λ i. (sym a i, sym d i))
        (constants_more p g next opened t o.lines.items clauses (constants_names p g next opened o.store o.lines.items clauses holds.constants t names) (Exh u) c (choice_line next p g u below) clause_below)

    pub instances : bound ≤ latest → HaveInstances p g bound t opened o.owners o.instances.made o.instances.taken.taken o.ages o.journal.lines
    instances within =
        instances_names p g bound o.store opened o.owners o.instances.made o.instances.taken.taken o.ages o.journal.lines holds.instances t extends b.known
        (λ n v lt y. b.late n v (omega (arith, lt, within)) y)

    pub choices : (cs : List Clause) → cs ≡ clauses ++ c ∷ [] → HaveChoices p.signature t o.looked cs
    choices cs d = subst (HaveChoices p.signature t o.looked) (sym d) (choices_grow p.signature o.store t o.looked clauses (clauses ++ c ∷ []) extends (λ k i. still_one clauses c k i) holds.choices)

    pub heads : IsStore t.signature t.nodes → HasHeads (take o.looked t.nodes) o.known
    heads st = heads_stay o.looked o.store t o.known holds.store st b.named.signature b.named.keeps holds.choices.within holds.heads

    module _ (low : HasLowestNumerals p) where
      u_lowest : IsLowestTerm u
      u_lowest = (holds.fine low).names u there

      fine_literal : (m : Lit) → Contains c m → IsFineFormula m.formula
      fine_literal m i =
          let w = its_heads p.signature u c e in
          let h = of_head (choice u) w.1 m (subst (λ (x : Clause). Contains x m) (sym w.4) i) in (
            choice_lowest p.signature u u_lowest c e m i,
            subst (λ (x : Lit). not (is_negation (out-Formula x.formula)) ≡ true) h.2 (ap (λ z. not (is_negation z)) (outs-Eq u (Apply h.0 [] []))),
          )

      pub fine : (ls : List ClauseLine) (cs : List Clause) → ls ≡ o.lines.items ++ Exh u ∷ [] → cs ≡ clauses ++ c ∷ [] → AreFine t ls cs
      fine ls cs a d =
          subst (λ (w : List ClauseLine × List Clause). AreFine t w.0 w.1) (λ i. (sym a i, sym d i))
          (fine_more t o.lines.items clauses (Exh u) c (u_lowest, refl) fine_literal
          (fine_names o.store t (clause_terms c) o.lines.items clauses b.named (clause_terms_lowest c (λ m i. choice_lowest p.signature u u_lowest c e m i)) (holds.fine low)))

  pub orderless : (cs : List Clause) → cs ≡ clauses ++ c ∷ [] → IsOrderlessGoal p g → AreOrderless cs
  orderless cs d goal = subst AreOrderless (sym d) (orderless_more clauses c (λ l i. choice_orderless p.signature u c e l i) (holds.orderless goal))
