-- The lines of an instance that is due may be noted.
use Rattle.std.specs.Prelude.{ℕ, true, ◌<◌, ◌≡◌, List, [], ◌∷◌, length, Some}
use Rattle.std.specs.List.{AllByRecursion, Contains}
use Rattle.std.proofs.Common.{refl, sym, ap, ◌∙◌, subst, inl}
use Rattle.std.proofs.lemmas.Option.{same_Some}
use Rattle.ae_base.proofs.AllOf.{all_weaker}
use Rattle.ae_base.proofs.Options.{never_some, only_some}
use Rattle.ae_between_rounds.proofs.Growing.{some_told}
use Rattle.ae_between_rounds.specs.Between.{IsSearchingBelow}
use Rattle.ae_between_rounds.specs.Fine.{IsFineFormula, IsFineLine}
use Rattle.ae_between_rounds.specs.declared.search.Search.{Search}
use Rattle.ae_core.specs.Signatures.{IsLawfulProblem}
use Rattle.ae_core.specs.Sorts.{formula_ok}
use Rattle.ae_core.specs.declared.formulas.Formula.{Formula, Formula-F, All, out-Formula, roll-Formula, roll-out-Formula}
use Rattle.ae_core.specs.declared.formulas.Formula.TheOpen as layer
use Rattle.ae_core.specs.declared.formulas.Formula.TheVariants.{rolls-All}
use Rattle.ae_core.specs.declared.formulas.Lit.{Lit}
use Rattle.ae_core.specs.declared.formulas.Quant.{Quant}
use Rattle.ae_core.specs.declared.problems.Problem.{Problem}
use Rattle.ae_core.specs.declared.proofs.ClauseLine.TheVariants.{Hyp, Inst}
use Rattle.ae_core.specs.declared.terms.Sort.{Sort}
use Rattle.ae_core.specs.declared.terms.Term.{Term}
use Rattle.ae_explain.specs.Trail.{at, clause}
use Rattle.ae_explain.specs.declared.trail.Assigned.{Assigned}
use Rattle.ae_instance_lines.specs.Stated.{IsLineOfSorts, IsLineOfTerms}
use Rattle.ae_instance_lines.specs.declared.lines.InstanceLine.{InstanceLine}
use Rattle.ae_journal.proofs.Splits.{all_contained, contains_here, contains_one}
use Rattle.ae_journal.specs.InstanceLines.{ActsAsUniversal, IsInstance}
use Rattle.ae_journal.specs.InstanceLines.IsInstance.{of_axiom_terms, of_terms, of_type}
use Rattle.ae_journal.specs.Standing.{Setting, MayStand}
use Rattle.ae_journal.specs.Standing.IsBrought.{by_type_instance}
use Rattle.ae_journal.specs.Standing.IsPossible.{given}
use Rattle.ae_journal.specs.Standing.MayStand.{reached}
use Rattle.ae_journal.specs.States.{of_axiom, of_literal, is_universal, is_universal_by, quant_of}
use Rattle.ae_journal.specs.declared.lines.Line.{Line}
use Rattle.ae_journal.specs.declared.lines.Line.TheVariants as line
use Rattle.ae_kept_blocks.proofs.Members.{contained}
use Rattle.ae_made_instances.proofs.Axioms.{IsAxiom, IsUniversal, axiom_facts, literal_facts, literal_no_sorts}
use Rattle.ae_made_instances.proofs.Statements.{all_states, ex_states, hypothesis_fine, hypothesis_line_fine, instance_fine, instance_line_fine}
use Rattle.ae_made_instances.specs.Inner.Beside.{IsBeside}
use Rattle.ae_made_instances.specs.Inner.Making.{IsDue}
use Rattle.ae_made_instances.specs.Inner.Noting.{IsReadyLine}
use Rattle.ae_new_constants.proofs.Clauses.{hypothesis_below}
use Rattle.ae_new_constants.proofs.Lines.{hypothesis_line, instance_line}
use Rattle.ae_new_constants.specs.Below.{IsClauseBelow, IsFormulaBelow, IsLineBelow, IsTermBelow}
use Rattle.ae_numerals_kept.proofs.Lowest.{hypothesis_lowest}
use Rattle.ae_numerals_kept.specs.Lowest.{IsLowestTerm}
use Rattle.ae_open_states.proofs.Trails.{place_of}
use Rattle.ae_open_states.specs.Shown.{trail_literals}
use Rattle.ae_orderless.proofs.Clauses.{instance_orderless, literal_orderless}
use Rattle.ae_orderless.proofs.Hypotheses.{hypothesis_orderless}
use Rattle.ae_orderless.specs.Orderless.{is_orderless}
use Rattle.ae_owed.proofs.Recording.{matches_may_be_noted}
use Rattle.ae_rules.proofs.ClauseLaws.{literal_all}
use Rattle.ae_rules.specs.Clauses.{Clause, literal, yes_of}
use Rattle.ae_rules.specs.Derivations.{clause_of, conclusion, HasConclusion, line_ok}
use Rattle.ae_rules.specs.Instances.{have_sorts, instance_clause}
use Rattle.ae_sat.proofs.Deriving.{clause_sorted, in_clause, sorted_one}
use Rattle.ae_sat.proofs.Learning.{trail_may_stand}
use Rattle.ae_sat.specs.Standing.{IsOneOf}
use Rattle.ae_searching.proofs.Settings.{for_setting}
use Rattle.ae_searching.specs.Steps.{IsStatedBy}
use Rattle.ae_searching.specs.Told.{IsToldIn}
use Rattle.ae_sorted_instances.proofs.Axioms.{hypothesis_sorted, hypothesis_stated}
use Rattle.ae_theory.specs.Names.{terms_in}

not_terms : (k : ℕ) (ss : List Sort) (f : Formula) (ts : List Term) → line.TypeInstance k ss ≡ line.TermInstance f ts → ⊥
not_terms k ss f ts e = cc e

same_formula : (f h : Formula) (ts us : List Term) → line.TermInstance f ts ≡ line.TermInstance h us → f ≡ h
same_formula f h ts us e = cc e

module _ (p : Problem) (g bound level : ℕ) (o : Search) (s : IsSearchingBelow p g bound level o) (h : IsBeside p g o) where
  abbrev t : List Assigned
  t = o.solver.propagation.trail

  abbrev cs : List Clause
  cs = o.solver.propagation.clauses

  -- ---- a literal of the trail
  module _ (l : Lit) (i : Contains (trail_literals t) l) where
    place : (j : ℕ) × (j < length t) × ((at t j).lit ≡ l)
    place = place_of t l i

    number : (k : ℕ) × (k < length cs) × Contains (clause cs k) (at t place.0).lit
    number = in_clause t cs s.alive.running.lawful s.alive.running.stands place.0 place.1

    has : Contains (clause cs number.0) l
    has = subst (Contains (clause cs number.0)) place.2 number.2

    one : IsOneOf cs (clause cs number.0)
    one = (number.0, number.1, refl)

    literal_sorted : formula_ok p.signature l.formula ≡ true
    literal_sorted = sorted_one (λ (m : Lit). formula_ok p.signature m.formula) (clause cs number.0) l (clause_sorted p g o.lines.items cs o.solver.places s.stated number.0 number.1) has

    literal_below : IsFormulaBelow o.blocks.next l.formula
    literal_below =
        all_contained (λ (m : Lit). IsFormulaBelow o.blocks.next m.formula) (clause cs number.0) l
        (all_contained (IsClauseBelow o.blocks.next) cs (clause cs number.0) h.constants.clauses (contained cs (clause cs number.0) one)) has

    stands : (x : Setting) → IsToldIn p g o.store o.blocks.opened x → MayStand x o.journal.lines l
    stands x told =
        subst (MayStand x o.journal.lines) place.2
        (trail_may_stand x t cs o.journal.lines s.alive.running.lawful s.alive.running.decided (s.lawful x told).possible place.0 place.1)

  -- ---- terms that have names
  module _ (ts : List Term) (names : AllByRecursion (Contains (terms_in o.store)) ts) where
    terms_below : AllByRecursion (IsTermBelow o.blocks.next) ts
    terms_below = all_weaker (Contains (terms_in o.store)) (IsTermBelow o.blocks.next) (λ u i. all_contained (IsTermBelow o.blocks.next) (terms_in o.store) u h.constants.names i) ts names

    terms_lowest : ((u : Term) → Contains (terms_in o.store) u → IsLowestTerm u) → AllByRecursion IsLowestTerm ts
    terms_lowest low = all_weaker (Contains (terms_in o.store)) IsLowestTerm low ts names

  -- the clause of a line of a block
  states_clause : (f : Formula) (ts : List Term) (c : Clause) → conclusion p g (Inst f ts) ≡ Some c → instance_clause p.signature f ts (out-Formula f) ≡ Some c
  states_clause f ts c e = (only_some (line_ok p g (Inst f ts)) (clause_of p g (Inst f ts)) c e).1

  -- ---- of a universal literal
  pub literal_bare : (n : ℕ) (l : Lit) (ss : List Sort) (ts : List Term) → IsDue p g o n (of_literal l) ss ts → ss ≡ []
  literal_bare n l ss ts d =
      let x = some_told p g o.blocks.next o.store o.blocks.opened h.constants.apart in
      let m = d.matched x.0 x.1 in
      literal_no_sorts x.0.problem x.0.goal l ss m.pattern m.of_owner m.matches.one_each

  module _ (n : ℕ) (lt : n < bound) (l : Lit) (ts : List Term) (d : IsDue p g o n (of_literal l) [] ts) where
    pub universal : IsUniversal p l ts
    universal =
        let x = some_told p g o.blocks.next o.store o.blocks.opened h.constants.apart in
        let m = d.matched x.0 x.1 in
        subst (λ (z : Problem). IsUniversal z l ts) x.1.problem (literal_facts x.0.problem x.0.goal _ _ l ts m.pattern m.trigger m.of_owner m.matches)

    pub literal_states : HasConclusion p g (Inst l.formula ts)
    literal_states = by_layer (out-Formula l.formula) refl universal.is
      where
        by_layer : (y : Formula-F Formula Quant) → out-Formula l.formula ≡ y → quant_of y ≡ Some universal.quant → HasConclusion p g (Inst l.formula ts)
        by_layer (layer.All q) e w = all_states p g l.formula q ts e (literal_sorted l d.there) (subst (λ (z : Quant). have_sorts p.signature ts z.sorts ≡ true) (sym (same_Some q universal.quant w)) universal.have)
        by_layer (layer.Ex q) e w = ex_states p g l.formula q ts e (literal_sorted l d.there) (subst (λ (z : Quant). have_sorts p.signature ts z.sorts ≡ true) (sym (same_Some q universal.quant w)) universal.have)
        by_layer layer.True e w = never_some universal.quant w
        by_layer layer.False e w = never_some universal.quant w
        by_layer (layer.Eq a b) e w = never_some universal.quant w
        by_layer (layer.Lt a b) e w = never_some universal.quant w
        by_layer (layer.Le a b) e w = never_some universal.quant w
        by_layer (layer.Pred a ss us) e w = never_some universal.quant w
        by_layer (layer.Not a) e w = never_some universal.quant w
        by_layer (layer.And a b) e w = never_some universal.quant w
        by_layer (layer.Or a b) e w = never_some universal.quant w
        by_layer (layer.Xor a b) e w = never_some universal.quant w
        by_layer (layer.Iff a b) e w = never_some universal.quant w

    pub literal_ready : (a : InstanceLine) → IsLineOfTerms p g l.formula ts a → IsReadyLine p g bound o a
    literal_ready a w = record {
      stated_by = subst (λ (z : Line). IsStatedBy z a.statement) (sym w.own) w.statement;
      concludes = ap (conclusion p g) w.statement ∙ w.concludes;
      legal = λ x told new.
          matches_may_be_noted x bound o.journal.lines n a.own a.clause (of_literal l) [] ts lt (d.matched x told)
          (subst (λ (z : Line). IsInstance x z a.clause (of_literal l) [] ts) (sym w.own)
          (of_terms l.formula ts a.clause l.positive (for_setting (λ q k. conclusion q k (Inst l.formula ts) ≡ Some a.clause) p g o.store o.blocks.opened x told w.concludes)))
          (λ f us e. subst (ActsAsUniversal x o.journal.lines) (same_formula l.formula f ts us (sym w.own ∙ e)) (l.positive, stands l d.there x told, universal.universal)) new;
      below = subst (IsLineBelow p g o.blocks.next) (sym w.statement) (instance_line o.blocks.next p g l.formula ts (literal_below l d.there) (terms_below ts d.names));
      fine = λ low.
          let own = ((h.fine low).formulas (clause cs (number l d.there).0) l (one l d.there) (has l d.there)).0 in
          let lows = terms_lowest ts d.names (h.fine low).names in
          (subst IsFineLine (sym w.statement) (instance_line_fine l.formula ts own lows), instance_fine p.signature l.formula ts a.clause own lows (states_clause l.formula ts a.clause w.concludes));
      orderless = λ none m i.
          instance_orderless p.signature l.formula ts a.clause (h.orderless none (clause cs (number l d.there).0) l (one l d.there) (has l d.there)) (states_clause l.formula ts a.clause w.concludes) m i;
    }

  -- ---- of an axiom
  module _ (lawful : IsLawfulProblem p) (n : ℕ) (lt : n < bound) (k : ℕ) (ss : List Sort) (ts : List Term) (d : IsDue p g o n (of_axiom k) ss ts) where
    pub own_axiom : IsAxiom p g k ss ts
    own_axiom =
        let x = some_told p g o.blocks.next o.store o.blocks.opened h.constants.apart in
        let m = d.matched x.0 x.1 in
        for_setting_back (λ q j. IsAxiom q j k ss ts) x.0 x.1 (axiom_facts x.0.problem x.0.goal k _ _ ss ts m.pattern m.trigger m.matches m.of_owner)
      where
        for_setting_back : (P : Problem → ℕ → Type 0) (x : Setting) → IsToldIn p g o.store o.blocks.opened x → P x.problem x.goal → P p g
        for_setting_back P x told a = subst (λ (q : Problem). P q g) told.problem (subst (P x.problem) told.goal a)

    pub axiom_states : conclusion p g (Hyp k ss) ≡ Some (yes_of own_axiom.formula ∷ [])
    axiom_states = hypothesis_stated p lawful ss own_axiom.closed g k own_axiom.formula own_axiom.is

    pub axiom_ready : (a : InstanceLine) → IsLineOfSorts p g k ss a → IsReadyLine p g bound o a
    axiom_ready a w =
        let own : yes_of own_axiom.formula ∷ [] ≡ a.clause = same_Some (yes_of own_axiom.formula ∷ []) a.clause (sym axiom_states ∙ w.concludes) in
        record {
          stated_by = subst (λ (z : Line). IsStatedBy z a.statement) (sym w.own) w.statement;
          concludes = ap (conclusion p g) w.statement ∙ w.concludes;
          legal = λ x told new.
              matches_may_be_noted x bound o.journal.lines n a.own a.clause (of_axiom k) ss ts lt (d.matched x told)
              (subst (λ (z : Line). IsInstance x z a.clause (of_axiom k) ss ts) (sym w.own)
              (of_type k ss ts a.clause (for_setting (λ q j. conclusion q j (Hyp k ss) ≡ Some a.clause) p g o.store o.blocks.opened x told w.concludes)))
              (λ f us e. absurd (not_terms k ss f us (sym w.own ∙ e))) new;
          below = subst (IsLineBelow p g o.blocks.next) (sym w.statement) (hypothesis_line o.blocks.next p g k ss lawful);
          fine = λ low. (
            subst IsFineLine (sym w.statement) (hypothesis_line_fine k ss),
            subst (λ (z : Clause). (m : Lit) → Contains z m → IsFineFormula m.formula) own (hypothesis_fine own_axiom.formula (hypothesis_lowest p g k ss own_axiom.formula low own_axiom.is)),
          );
          orderless = λ none m i.
              let e : yes_of own_axiom.formula ≡ m = contains_one (yes_of own_axiom.formula) m (subst (λ (z : Clause). Contains z m) (sym own) i) in
              subst (λ (z : Lit). is_orderless z.formula ≡ true) e (literal_orderless own_axiom.formula true (hypothesis_orderless p g k ss own_axiom.formula none own_axiom.is));
        }

    module _ (q : Quant) (all : out-Formula own_axiom.formula ≡ layer.All q) where
      pub body_states : HasConclusion p g (Inst own_axiom.formula ts)
      body_states = all_states p g own_axiom.formula q ts all (hypothesis_sorted p lawful ss own_axiom.closed g k own_axiom.formula own_axiom.is) (own_axiom.have q all)

      as_literal : yes_of own_axiom.formula ≡ record { positive = true; formula = own_axiom.formula }
      as_literal =
          let e : own_axiom.formula ≡ All q = sym (roll-out-Formula own_axiom.formula) ∙ ap roll-Formula all ∙ rolls-All q in
          subst (λ (z : Formula). literal true z ≡ record { positive = true; formula = z }) (sym e) (literal_all true q)

      -- the axiom's formula may stand, once its line was noted
      body_stands : Contains o.journal.lines (line.TypeInstance k ss) → (x : Setting) → IsToldIn p g o.store o.blocks.opened x → MayStand x o.journal.lines (record { positive = true; formula = own_axiom.formula })
      body_stands typed x told =
          subst (MayStand x o.journal.lines) as_literal
          (reached o.journal.lines (yes_of own_axiom.formula ∷ []) (yes_of own_axiom.formula)
          (given o.journal.lines (yes_of own_axiom.formula ∷ [])
          (inl (by_type_instance k ss (yes_of own_axiom.formula ∷ []) typed (for_setting (λ z j. conclusion z j (Hyp k ss) ≡ Some (yes_of own_axiom.formula ∷ [])) p g o.store o.blocks.opened x told axiom_states))))
          (contains_here (yes_of own_axiom.formula) []) (λ m i e. absurd (e (sym (contains_one (yes_of own_axiom.formula) m i)))))

      pub body_ready : Contains o.journal.lines (line.TypeInstance k ss) → (a : InstanceLine) → IsLineOfTerms p g own_axiom.formula ts a → IsReadyLine p g bound o a
      body_ready typed a w = record {
        stated_by = subst (λ (z : Line). IsStatedBy z a.statement) (sym w.own) w.statement;
        concludes = ap (conclusion p g) w.statement ∙ w.concludes;
        legal = λ x told new.
            matches_may_be_noted x bound o.journal.lines n a.own a.clause (of_axiom k) ss ts lt (d.matched x told)
            (subst (λ (z : Line). IsInstance x z a.clause (of_axiom k) ss ts) (sym w.own)
            (of_axiom_terms k ss own_axiom.formula ts a.clause (for_setting (λ z j. conclusion z j (Hyp k ss) ≡ Some (yes_of own_axiom.formula ∷ [])) p g o.store o.blocks.opened x told axiom_states)
            (for_setting (λ z j. conclusion z j (Inst own_axiom.formula ts) ≡ Some a.clause) p g o.store o.blocks.opened x told w.concludes)))
            (λ f us e. subst (ActsAsUniversal x o.journal.lines) (same_formula own_axiom.formula f ts us (sym w.own ∙ e)) (true, body_stands typed x told, acts)) new;
        below = subst (IsLineBelow p g o.blocks.next) (sym w.statement) (instance_line o.blocks.next p g own_axiom.formula ts (hypothesis_below o.blocks.next p g lawful k ss own_axiom.formula own_axiom.is) (terms_below ts d.names));
        fine = λ low.
            let own = hypothesis_lowest p g k ss own_axiom.formula low own_axiom.is in
            let lows = terms_lowest ts d.names (h.fine low).names in
            (subst IsFineLine (sym w.statement) (instance_line_fine own_axiom.formula ts own lows), instance_fine p.signature own_axiom.formula ts a.clause own lows (states_clause own_axiom.formula ts a.clause w.concludes));
        orderless = λ none m i. instance_orderless p.signature own_axiom.formula ts a.clause (hypothesis_orderless p g k ss own_axiom.formula none own_axiom.is) (states_clause own_axiom.formula ts a.clause w.concludes) m i;
      }
        where
          acts : is_universal (record { positive = true; formula = own_axiom.formula }) ≡ true
          acts = ap (λ (y : Formula-F Formula Quant). is_universal_by true y) all
