-- What the first clauses bring: their constants, generations, numerals, and that they are no inequalities.
use Rattle.std.specs.Prelude.{ℕ, ◌+◌, ◌≡◌, Bool, true, false, not, List, [], ◌∷◌, length, Some}
use Rattle.std.specs.List.{AllByRecursion, Contains}
use Rattle.std.proofs.Common.{refl, sym, ap, ◌∙◌, subst, arith, inl, inr}
use Rattle.std.proofs.lemmas.Bool.{and_parts}
use Rattle.std.proofs.lemmas.Option.{same_Some}
use Rattle.ae_ages.specs.Laws.{AreAllHad, AreJustifiedAges}
use Rattle.ae_ages.specs.declared.entries.Aged.{Aged}
use Rattle.ae_base.proofs.AllOf.{all_append}
use Rattle.ae_base.proofs.Options.{only_some}
use Rattle.ae_base.specs.Relations.{Pairwise}
use Rattle.ae_between_rounds.proofs.Growing.{clause_terms_lowest, fine_names}
use Rattle.ae_between_rounds.specs.Fine.{AreFine, AreOrderless, IsFineFormula, IsFineLine}
use Rattle.ae_between_rounds.specs.Held.{HasFirstOnes, HaveConstants}
use Rattle.ae_block_constants.specs.Blocks.{opened_pairs, variables}
use Rattle.ae_block_constants.specs.declared.opened.Opened.{Opened}
use Rattle.ae_brought_clauses.proofs.Again.{pair_of}
use Rattle.ae_brought_clauses.proofs.Joined.{had_later}
use Rattle.ae_core.specs.Putting.{put_formula}
use Rattle.ae_core.specs.Signatures.{IsLawfulProblem}
use Rattle.ae_core.specs.Sorts.{formula_ok}
use Rattle.ae_core.specs.declared.formulas.Formula.{Formula, All, out-Formula}
use Rattle.ae_core.specs.declared.formulas.Formula.TheVariants.{outs-All}
use Rattle.ae_core.specs.declared.formulas.Lit.{Lit}
use Rattle.ae_core.specs.declared.formulas.Quant.{Quant}
use Rattle.ae_core.specs.declared.problems.Problem.{Problem}
use Rattle.ae_core.specs.declared.proofs.ClauseLine.{ClauseLine}
use Rattle.ae_core.specs.declared.proofs.ClauseLine.TheVariants.{Fresh}
use Rattle.ae_core.specs.declared.terms.Term.{Term}
use Rattle.ae_first_clauses.proofs.States.{line_of, lawful_in}
use Rattle.ae_first_clauses.specs.First.{AreFirst, IsFirstLine, IsFirstSetting, States, a_hypothesis, the_goal, the_block}
use Rattle.ae_first_round.specs.Inner.First.{AreFirstBlocks, IsNamedFor}
use Rattle.ae_first_round.proofs.Brought.{no_terms}
use Rattle.ae_first_round.proofs.Opened.{apart, own_block}
use Rattle.ae_goal_names.specs.Named.{all_terms, clause_terms}
use Rattle.ae_journal.proofs.Splits.{all_contained, contains_at, contains_cases, contains_here, contains_one}
use Rattle.ae_journal.specs.InstanceLines.{HasGeneration}
use Rattle.ae_journal.specs.InstanceLines.FormulaFrom.{of_clause, of_fresh}
use Rattle.ae_journal.specs.Standing.{Setting, IsEntered, by_hypothesis, by_goal}
use Rattle.ae_kept_blocks.proofs.Members.{contained, from_flat, one_of}
use Rattle.ae_kept_blocks.proofs.Names.{names_below, new_names}
use Rattle.ae_kept_blocks.specs.Kept.{AreClausesBelow}
use Rattle.ae_legal_texts.proofs.Signs.{said_direct}
use Rattle.ae_legal_texts.specs.Numbers.{count, formula_numbers}
use Rattle.ae_legal_texts.specs.Writable.{is_negation, no_negations}
use Rattle.ae_new_constants.proofs.Clauses.{goal_below}
use Rattle.ae_new_constants.proofs.Lines.{fresh_line, goal_line, hypothesis_line, stated_below}
use Rattle.ae_new_constants.specs.Below.{IsClauseBelow, IsFormulaBelow, IsLineBelow, IsTermBelow}
use Rattle.ae_numerals_kept.proofs.Lowest.{body_lowest, constants_lowest, goal_lowest, hypothesis_lowest, literal_lowest, put_lowest}
use Rattle.ae_numerals_kept.specs.Lowest.{IsLowest}
use Rattle.ae_open_states.proofs.Trails.{all_of_each}
use Rattle.ae_orderless.proofs.Clauses.{fresh_orderless, literal_orderless}
use Rattle.ae_orderless.proofs.Hypotheses.{hypothesis_orderless}
use Rattle.ae_orderless.specs.Orderless.{is_orderless, IsOrderlessGoal}
use Rattle.ae_owed.specs.Generations.{IsJustified}
use Rattle.ae_reach.proofs.Blocks.{one_block}
use Rattle.ae_rules.proofs.ClauseLaws.{literal_all}
use Rattle.ae_rules.specs.Clauses.{Clause, literal, yes_of, no_of, is_true}
use Rattle.ae_rules.proofs.SortedLines.{stated_sorted}
use Rattle.ae_rules.specs.Derivations.{clause_of, clause_ok, conclusion, goal_body, line_ok}
use Rattle.ae_rules.specs.Instances.{count_from, fresh_clause, hypothesis}
use Rattle.ae_sat.specs.Search.{AllNamed}
use Rattle.ae_sat.specs.Standing.{IsOneOf}
use Rattle.ae_searching.proofs.Settings.{for_setting}
use Rattle.ae_searching.specs.Told.{IsToldIn}
use Rattle.ae_sorted_items.proofs.Items.{goal_ok}
use Rattle.ae_store.specs.Stores.{Stored}
use Rattle.ae_theory.specs.Names.{terms_in}
use Rattle.ae_writable.specs.Numbers.{HasLowestNumerals, IsValueWithin}

-- the literals of what is said of a formula are no negations
literal_plain : (sign : Bool) (f : Formula) → not (is_negation (out-Formula (literal sign f).formula)) ≡ true
literal_plain true f = (and_parts (not (is_negation (out-Formula (yes_of f).formula))) (no_negations (no_of f ∷ [])) (said_direct f)).0
literal_plain false f =
    (and_parts (not (is_negation (out-Formula (no_of f).formula))) true
    (and_parts (not (is_negation (out-Formula (yes_of f).formula))) (no_negations (no_of f ∷ [])) (said_direct f)).1).0

module _ (p : Problem) (g : ℕ) (ls : List ClauseLine) (cs : List Clause) (first : AreFirst p g ls cs) where
  -- the line of a clause
  line_for : (c : Clause) → IsOneOf cs c → (l : ClauseLine) × IsFirstLine p g l c × (conclusion p g l ≡ Some c)
  line_for c o =
      let w = line_of p g ls cs first.states o.0 o.1 in
      (w.0, subst (IsFirstLine p g w.0) o.2 w.1.0, w.1.1 ∙ ap (λ (d : Clause). Some d) o.2)

  pub firsts : HasFirstOnes p g cs
  firsts = record { hypotheses = first.firsts.hypotheses; goal = first.firsts.goal }

  -- what holds of each first line holds of all lines and clauses
  all_lines : (P : ClauseLine → Type 0) → ((l : ClauseLine) (c : Clause) → IsFirstLine p g l c → conclusion p g l ≡ Some c → P l) → (ms : List ClauseLine) (ds : List Clause) → Pairwise (States p g) ms ds → AllByRecursion P ms
  all_lines P f [] [] h = tt
  all_lines P f [] (d ∷ ds) h = tt
  all_lines P f (m ∷ ms) [] h = absurd h
  all_lines P f (m ∷ ms) (d ∷ ds) h = (f m d h.0.0 h.0.1, all_lines P f ms ds h.1)

  -- the clause of the goal's block
  block_in : (q : Quant) → goal_body p g ≡ Some (All q) → (c : Clause) × (fresh_clause (All q) 0 (out-Formula (All q)) ≡ Some c) × IsOneOf cs c
  block_in q e =
      let w = first.firsts.block q e in
      let c : Clause = is_true (All q) ∷ no_of (put_formula (count_from w.0 q.sorts) q.body) ∷ [] in
      let l = line_for c w.1 in
      from l.0 c l.1 l.2 w.1 refl
    where
      from : (l : ClauseLine) (c : Clause) → IsFirstLine p g l c → conclusion p g l ≡ Some c → IsOneOf cs c → length c ≡ 2 → (d : Clause) × (fresh_clause (All q) 0 (out-Formula (All q)) ≡ Some d) × IsOneOf cs d
      from _ _ (a_hypothesis k f h) s o two = absurd (omega (arith, two))
      from _ _ (the_goal f h) s o two = absurd (omega (arith, two))
      from _ _ (the_block r h) s o two =
          subst (λ (z : Quant). (d : Clause) × (fresh_clause (All z) 0 (out-Formula (All z)) ≡ Some d) × IsOneOf cs d) (one_block r q (same_Some (All r) (All q) (sym h ∙ e)))
          (_, (only_some (line_ok p g (Fresh (All r) 0)) (clause_of p g (Fresh (All r) 0)) _ s).1, o)

  module _ (lawful : IsLawfulProblem p) (opened : List Opened) (next : ℕ) (blocks : AreFirstBlocks p g opened next) where
    -- ---- constants
    line_below : (l : ClauseLine) (c : Clause) → IsFirstLine p g l c → IsLineBelow p g next l
    line_below _ _ (a_hypothesis k f e) = hypothesis_line next p g k [] lawful
    line_below _ _ (the_goal f e) = goal_line next p g lawful
    line_below _ _ (the_block q e) =
        let n = (blocks.block q e).1 in
        let same : 0 + variables (All q) ≡ next = omega (arith, n) in
        subst (λ (m : ℕ). IsLineBelow p g m (Fresh (All q) 0)) same (fresh_line p g 0 (All q) (goal_below 0 p g lawful (All q) e))

    clauses_below : AllByRecursion (IsClauseBelow next) cs
    clauses_below = all_of_each (IsClauseBelow next) cs (λ c h. let l = line_for c (one_of cs c h) in stated_below next p g l.0 c (line_below l.0 c l.1) l.2)

    literals_below : AreClausesBelow next cs
    literals_below c l o i = let a = line_for c o in all_contained (λ (x : Lit). IsFormulaBelow next x.formula) c l (stated_below next p g a.0 c (line_below a.0 c a.1) a.2) i

    added : (o : Opened) → Contains opened o → (c : Clause) × (fresh_clause o.formula o.first (out-Formula o.formula) ≡ Some c) × IsOneOf cs c
    added o h =
        let w = own_block p g opened next blocks o h in
        subst (λ (z : Opened). (c : Clause) × (fresh_clause z.formula z.first (out-Formula z.formula) ≡ Some c) × IsOneOf cs c) (sym w.2) (block_in w.0 w.1)

    module _ (s : Stored) (es : List Aged) (named : IsNamedFor p.signature cs s es) where
      pub constants : HaveConstants p g next opened s ls cs
      constants = record {
        apart = apart p g opened next blocks;
        sorted = λ o h.
            let w = own_block p g opened next blocks o h in
            subst (λ (z : Opened). formula_ok p.signature z.formula ≡ true) (sym w.2) (goal_ok p lawful g (All w.0) w.1);
        added = added;
        lines = all_lines (IsLineBelow p g next) (λ l c i e. line_below l c i) ls cs first.states;
        clauses = clauses_below;
        names = names_below next named.before s cs named.brought.named literals_below (all_of_each (IsTermBelow next) (terms_in named.before) (λ t h. no_terms named.before named.empty t h));
      }

      -- ---- names
      pub all_named : AllNamed s cs
      all_named c l o i t k = let y = (named.brought.had c l (contained cs c o) i).terms t k in contains_at (terms_in s) y.name t y.at

      module _ (x : Setting) (told : IsToldIn p g s opened x) where
        pub is_first : IsFirstSetting p g x
        is_first = record {
          problem = told.problem;
          goal = told.goal;
          fresh = λ q e.
              let own : Opened = record { formula = All q; first = 0 } in
              told.fresh own (subst (λ (os : List Opened). Contains os own) (sym (blocks.block q e).0) (contains_here own []));
        }

        signature_is : named.before.signature ≡ x.problem.signature
        signature_is = named.signature ∙ ap (λ (q : Problem). q.signature) (sym told.problem)

        pub entered : (t : Term) → Contains (terms_in s) t → IsEntered x [] t
        entered t h =
            elim
            (new_names x [] named.before s cs (sym signature_is) named.brought.named (λ c l i k. (lawful_in p g x ls cs is_first first).formulas c l (one_of cs c i) k) t h) as (λ _. IsEntered x [] t) [
              | inl o ↦ no_terms named.before named.empty t o
              | inr e ↦ e
            ]

        -- ---- generations
        has_generation : (c : Clause) (l : Lit) → Contains cs c → Contains c l → HasGeneration x [] 0 l.formula
        has_generation c l h i = let w = line_for c (one_of cs c h) in by w.0 c w.1 w.2 l i
          where
            goal_generation : (f : Formula) → goal_body p g ≡ Some f → HasGeneration x [] 0 (no_of f).formula
            goal_generation f e = of_clause (no_of f ∷ []) (no_of f) (by_goal f (for_setting (λ q k. goal_body q k ≡ Some f) p g s opened x told e)) (contains_here (no_of f) [])

            by : (m : ClauseLine) (c : Clause) → IsFirstLine p g m c → conclusion p g m ≡ Some c → (l : Lit) → Contains c l → HasGeneration x [] 0 l.formula
            by _ _ (a_hypothesis k f e) s1 l i = of_clause _ l (by_hypothesis k f (for_setting (λ q m. hypothesis q m k [] ≡ Some f) p g s opened x told e)) i
            by _ _ (the_goal f e) s1 l i = of_clause _ l (by_goal f (for_setting (λ q k. goal_body q k ≡ Some f) p g s opened x told e)) i
            by _ _ (the_block q e) s1 l i =
                of_fresh (All q) _ l (subst (λ (z : Lit). HasGeneration x [] 0 z.formula) (literal_all _ q) (goal_generation (All q) e))
                (ap (λ (m : ℕ). fresh_clause (All q) m (out-Formula (All q))) (is_first.fresh q e) ∙ (only_some (line_ok p g (Fresh (All q) 0)) (clause_of p g (Fresh (All q) 0)) _ s1).1) i

        pub justified : (bound : ℕ) → IsJustified x bound s [] × AreJustifiedAges x bound es []
        justified bound =
            named.brought.justified x bound signature_is has_generation
            (λ n t lt y. no_terms named.before named.empty t (contains_at (terms_in named.before) y.name t y.at))
            (λ n h lt a. absurd (let i = a.among in let l = i.1 in omega (arith, l)))

      pub had : AreAllHad p g (opened_pairs opened) [] s es
      had = record {
        hypotheses = λ k f e. named.brought.had (yes_of f ∷ []) (yes_of f) (contained cs (yes_of f ∷ []) (first.firsts.hypotheses k f e)) (contains_here (yes_of f) []);
        goal = λ f e. named.brought.had (no_of f ∷ []) (no_of f) (contained cs (no_of f ∷ []) (first.firsts.goal f e)) (contains_here (no_of f) []);
        instance_ones = λ i l a b. absurd (let k = a.1 in omega (arith, k));
        bodies = λ f m n c l among age e i.
            let w = pair_of opened f m among in
            let o = w.1 in
            let d = added o (contains_at opened w.0 o w.2) in
            let same : d.0 ≡ c = same_Some d.0 c (sym d.1 ∙ (λ j. fresh_clause (w.3 j) (w.4 j) (out-Formula (w.3 j))) ∙ e) in
            inr (had_later s es 0 n l.formula (omega arith) (named.brought.had c l (subst (Contains cs) same (contained cs d.0 d.2)) i));
      }

      -- ---- numerals
      module _ (low : HasLowestNumerals p) where
        fine_of : (sign : Bool) (f : Formula) → IsLowest f → IsFineFormula (literal sign f).formula
        fine_of sign f a = (literal_lowest f a sign, literal_plain sign f)

        fine_literal : (m : ClauseLine) (c : Clause) → IsFirstLine p g m c → (l : Lit) → Contains c l → IsFineFormula l.formula
        fine_literal _ _ (a_hypothesis k f e) l i = subst (λ (x : Lit). IsFineFormula x.formula) (contains_one (yes_of f) l i) (fine_of _ f (hypothesis_lowest p g k [] f low e))
        fine_literal _ _ (the_goal f e) l i = subst (λ (x : Lit). IsFineFormula x.formula) (contains_one (no_of f) l i) (fine_of _ f (goal_lowest p g f low e))
        fine_literal _ _ (the_block q e) l i =
            let a = goal_lowest p g (All q) low e in
            let body = put_formula (count_from 0 q.sorts) q.body in
            elim (contains_cases (is_true (All q)) (no_of body ∷ []) l i) as (λ _. IsFineFormula l.formula) [
              | inl k ↦ subst (λ (x : Lit). IsFineFormula x.formula) k (a, ap (λ z. not (is_negation z)) (outs-All q))
              | inr k ↦ subst (λ (x : Lit). IsFineFormula x.formula) (contains_one (no_of body) l k) (fine_of _ body (put_lowest (count_from 0 q.sorts) (constants_lowest 0 q.sorts) q.body (body_lowest q a)))
            ]

        fine_line : (m : ClauseLine) (c : Clause) → IsFirstLine p g m c → IsFineLine m
        fine_line _ _ (a_hypothesis k f e) = ((tt, tt), refl)
        fine_line _ _ (the_goal f e) = (tt, refl)
        fine_line _ _ (the_block q e) = (all_append IsValueWithin (formula_numbers (All q)) (count 0 ∷ []) (goal_lowest p g (All q) low e) (tt, tt), refl)

        literals_fine : (c : Clause) (l : Lit) → IsOneOf cs c → Contains c l → IsFineFormula l.formula
        literals_fine c l o i = let w = line_for c o in fine_literal w.0 c w.1 l i

        pub fine : AreFine s ls cs
        fine =
            fine_names named.before s (all_terms cs) ls cs named.brought.named
            (λ t h. let c = from_flat clause_terms cs t h in clause_terms_lowest c.0 (λ m i. (literals_fine c.0 m (one_of cs c.0 c.1) i).0) t c.2)
            (record {
              names = λ t h. no_terms named.before named.empty t h;
              formulas = literals_fine;
              lines = all_lines IsFineLine (λ l c i e. fine_line l c i) ls cs first.states;
            })

  -- ---- inequalities
  module _ (goal : IsOrderlessGoal p g) where
    orderless_literal : (m : ClauseLine) (c : Clause) → IsFirstLine p g m c → conclusion p g m ≡ Some c → (l : Lit) → Contains c l → is_orderless l.formula ≡ true
    orderless_literal _ _ (a_hypothesis k f e) s l i =
        subst (λ (x : Lit). is_orderless x.formula ≡ true) (contains_one (yes_of f) l i) (literal_orderless f _ (hypothesis_orderless p g k [] f goal e))
    orderless_literal _ _ (the_goal f e) s l i = subst (λ (x : Lit). is_orderless x.formula ≡ true) (contains_one (no_of f) l i) (literal_orderless f _ (goal.goal f e))
    orderless_literal _ _ (the_block q e) s l i =
        fresh_orderless (All q) 0 _ (goal.goal (All q) e) (only_some (line_ok p g (Fresh (All q) 0)) (clause_of p g (Fresh (All q) 0)) _ s).1 l i

    pub orderless : AreOrderless cs
    orderless c l o i = let w = line_for c o in orderless_literal w.0 c w.1 w.2 l i

-- each first clause is well sorted
pub clauses_sorted : (p : Problem) (g : ℕ) (ls : List ClauseLine) (cs : List Clause) → AreFirst p g ls cs → AllByRecursion (λ c. clause_ok p.signature c ≡ true) cs
clauses_sorted p g ls cs first = all_of_each (λ c. clause_ok p.signature c ≡ true) cs (λ c h. let l = line_for p g ls cs first c (one_of cs c h) in stated_sorted p g l.0 c l.2)
