-- A journal with a line of every kind is legal.
use Rattle.std.proofs.Common.{◌≡◌, ◌≢◌, ℕ, ◌<◌, ◌≤◌, List, [], ◌∷◌, ◌++◌, slice_get, true, false, Some, refl, sym, ◌∙◌, ap, subst, arith, inl, inr, ◌⊎◌}
use Rattle.std.specs.List.{AllByRecursion, Contains}
use Rattle.std.proofs.lemmas.List.Elements.{Contains-append_right}
use Rattle.std.proofs.lemmas.Option.{same_Some}
use Rattle.ae_base.specs.Options.{only}
use Rattle.ae_base.proofs.Decided.{decided_of}
use Rattle.ae_core.specs.Decided.{Sort_discrete}
use Rattle.ae_core.specs.Sorts.{sort_of, same_known, is_closed_sort}
use Rattle.ae_core.proofs.SortLaws.{formula_in_true}
use Rattle.ae_core.specs.declared.terms.Sort.{Sort}
use Rattle.ae_core.specs.declared.terms.Term.{Term}
use Rattle.ae_core.specs.declared.formulas.Formula.{Formula, True}
use Rattle.ae_core.specs.declared.formulas.Formula.TheVariants.{outs-All}
use Rattle.ae_core.specs.declared.formulas.Lit.{Lit}
use Rattle.ae_core.specs.declared.proofs.ClauseLine.{ClauseLine}
use Rattle.ae_core.specs.declared.proofs.ClauseLine.TheVariants as clause_line
use Rattle.ae_rules.specs.Clauses.{Clause, opposite, is_true, is_false, yes_of, no_of, row as row_of_formula}
use Rattle.ae_rules.specs.declared.rows.TheConstants.{TRUE_STANDS, OR_TO_EITHER}
use Rattle.ae_rules.proofs.ClauseLaws.{literal_true, row_true}
use Rattle.ae_rules.specs.Derivations.{conclusion}
use Rattle.ae_rules.specs.Lines.{equal, fact_ok}
use Rattle.ae_rules.specs.Lines.Follows.{by_hyp}
use Rattle.ae_multiset.specs.Multisets.{count, IsPart}
use Rattle.ae_num.specs.Forms.{IsNormal}
use Rattle.ae_num.specs.declared.forms.Value.{Leaf}
use Rattle.ae_journal.specs.declared.lines.Line.{Line}
use Rattle.ae_journal.specs.declared.lines.Line.TheVariants as line
use Rattle.ae_journal.specs.declared.lines.Oriented.TheVariants as oriented
use Rattle.ae_journal.specs.Journals.{live, decisions, MayGoBack}
use Rattle.ae_journal.specs.Journals.HasLine.{here, later}
use Rattle.ae_journal.specs.States.{is_universal, is_universal_by, of_axiom}
use Rattle.ae_journal.specs.Values.{Val, leaf, meaning}
use Rattle.ae_journal.specs.TermValues.{solved}
use Rattle.ae_journal.specs.Standing.{IsEntered, IsGiven, MayStand, MayFollow, SurelyStands, Represents, value_now}
use Rattle.ae_journal.specs.Standing.IsBrought.{by_hypothesis, by_goal, by_type_instance, by_term_instance}
use Rattle.ae_journal.specs.Standing.IsPossible.{given, row_of}
use Rattle.ae_journal.specs.Standing.MayStand.{decided, reached}
use Rattle.ae_journal.specs.RuleLines.{IsStanding, IsNowReduced, IsPaired, MayOrientRule, MayPair, MayDrop}
use Rattle.ae_journal.specs.RuleLines.IsSource.{of_name}
use Rattle.ae_journal.specs.RuleLines.Descends.{itself}
use Rattle.ae_journal.specs.SolverLines.{Solves, MayOrientName, MayDecide, MayLearn}
use Rattle.ae_journal.specs.SolverLines.Solves.{a_leaf}
use Rattle.ae_journal.specs.InstanceLines.{MayInstantiate, ActsAsUniversal}
use Rattle.ae_journal.specs.InstanceLines.IsInstance.{of_type, of_axiom_terms}
use Rattle.ae_journal.proofs.Splits.{contains_one, contains_cases, contains_here, all_contained}
use Rattle.ae_journal_checks.specs.Laws.{EveryKindIsLegal}
use Rattle.ae_journal_checks.specs.EveryKind.{T, signature, a, b, one, other, choice, block, fixed, problem, names, symbol, story}
use Rattle.ae_journal_checks.specs.EveryKind.{combination, decision, first_rule, second_rule, pair, solution, dropped, type_instance, term_instance, lesson}
use Rattle.ae_journal_checks.proofs.KindTerms.{ab, ga, aga, a_sort, b_sort, ab_sort, ga_sort, aga_sort, b_value, ga_value, each_name, name_value, names_apart, same_leaf}
use Rattle.ae_journal_checks.proofs.KindFormulas.{S, IsOurs, type_is, term_is, type_clause, instance_literal, term_clause, type_concludes, term_concludes, fixed_true, own_constants}
use Rattle.ae_journal_checks.proofs.KindFormulas.{kind, kind_one, kind_other, kind_choice, kind_below, kind_above, kind_true, kind_fixed, differ, hypotheses, below_true, above_true, choice_true}
use Rattle.ae_journal_checks.proofs.KindFormulas.{Sure, not_true, not_false, sure, either_clause, either_row, each, has_one, goal_is_false, truth_is_formula, choice_is_formula}
use Rattle.ae_journal_checks.proofs.KindFormulas.{a_entered, b_entered, ab_entered, ga_entered, aga_entered, x_entered}
use Rattle.ae_journal_checks.proofs.KindMatch.{matched}
use Rattle.ae_journal_checks.proofs.KindRows.{combines}
use Rattle.ae_journal_checks.proofs.BackJournal.{signs, formula_of}
use Rattle.ae_journal_checks.proofs.NoBlocks.{nothing}
use Rattle.ae_journal_checks.proofs.RuleJournal.{leaf_meaning, leaf_forms, two_rise, one_rises}

-- ---- lines that aren't among some
abbrev Lacks : List Line → Line → Type 0
Lacks js k = AllByRecursion (λ j. j ≢ k) js

lacking : (js : List Line) (k : Line) → Lacks js k → ¬ Contains js k
lacking js k n i = all_contained (λ j. j ≢ k) js k n i refl

in_middle : (js before after : List Line) (k : Line) → js ≡ before ++ k ∷ after → Contains js k
in_middle js before after k e = subst (λ (w : List Line). Contains w k) (sym e) (Contains-append_right before (k ∷ after) k (contains_here k after))

-- ---- the lines before each line
abbrev one_line : List Line
one_line = combination ∷ []

abbrev two_lines : List Line
two_lines = combination ∷ decision ∷ []

abbrev three_lines : List Line
three_lines = combination ∷ decision ∷ first_rule ∷ []

abbrev four_lines : List Line
four_lines = combination ∷ decision ∷ first_rule ∷ second_rule ∷ []

abbrev five_lines : List Line
five_lines = combination ∷ decision ∷ first_rule ∷ second_rule ∷ pair ∷ []

abbrev six_lines : List Line
six_lines = combination ∷ decision ∷ first_rule ∷ second_rule ∷ pair ∷ solution ∷ []

abbrev seven_lines : List Line
seven_lines = combination ∷ decision ∷ first_rule ∷ second_rule ∷ pair ∷ solution ∷ dropped ∷ []

abbrev eight_lines : List Line
eight_lines = combination ∷ decision ∷ first_rule ∷ second_rule ∷ pair ∷ solution ∷ dropped ∷ type_instance ∷ []

abbrev nine_lines : List Line
nine_lines = combination ∷ decision ∷ first_rule ∷ second_rule ∷ pair ∷ solution ∷ dropped ∷ type_instance ∷ term_instance ∷ []

abbrev ten_lines : List Line
ten_lines = combination ∷ decision ∷ first_rule ∷ second_rule ∷ pair ∷ solution ∷ dropped ∷ type_instance ∷ term_instance ∷ lesson ∷ []

ours : AllByRecursion IsOurs nine_lines
ours = (tt, (tt, (tt, (tt, (tt, (tt, (tt, ((refl, refl), ((refl, refl), tt)))))))))

ours_all : AllByRecursion IsOurs story.lines
ours_all = (tt, (tt, (tt, (tt, (tt, (tt, (tt, ((refl, refl), ((refl, refl), (tt, (tt, tt)))))))))))

abbrev learnt : Clause
learnt = is_true True ∷ []

the_row : row_of_formula TRUE_STANDS True ≡ Some learnt
the_row = row_true TRUE_STANDS

row_line : ClauseLine
row_line = clause_line.Def TRUE_STANDS True

row_states : conclusion problem 4 row_line ≡ Some learnt
unfolding row_line
row_states = ap (λ c. only c (row_of_formula TRUE_STANDS True)) (formula_in_true signature (is_closed_sort signature) []) ∙ the_row

-- no rule stands before the first one; after it that one alone
no_rule : (m r : List ℕ) → ¬ Contains two_lines (line.Orient (oriented.Rule symbol m r))
no_rule m r = lacking two_lines (line.Orient (oriented.Rule symbol m r)) (λ e. cc, (λ e. cc, tt))

only_rule : (m r : List ℕ) → Contains three_lines (line.Orient (oriented.Rule symbol m r)) → 0 ∷ 1 ∷ [] ≡ m
only_rule m r i =
    elim (contains_cases combination (decision ∷ first_rule ∷ []) (line.Orient (oriented.Rule symbol m r)) i) [
      | inl e ↦ let z : combination ≡ line.Orient (oriented.Rule symbol m r) = e in cc
      | inr j ↦ elim (contains_cases decision (first_rule ∷ []) (line.Orient (oriented.Rule symbol m r)) j) [
        | inl e ↦ let z : decision ≡ line.Orient (oriented.Rule symbol m r) = e in cc
        | inr k ↦ let z : first_rule ≡ line.Orient (oriented.Rule symbol m r) = contains_one first_rule (line.Orient (oriented.Rule symbol m r)) k in cc
      ]
    ]

reduced_before : (l : List ℕ) → IsNowReduced two_lines symbol l
reduced_before l m r s p = no_rule m r (in_middle two_lines s.before s.after (line.Orient (oriented.Rule symbol m r)) s.is)

reduced_after : (l : List ℕ) → count 1 l ≡ 0 → IsNowReduced three_lines symbol l
reduced_after l z m r s p =
    let e = only_rule m r (in_middle three_lines s.before s.after (line.Orient (oriented.Rule symbol m r)) s.is) in
    let q : IsPart (0 ∷ 1 ∷ []) l = subst (λ (w : List ℕ). IsPart w l) (sym e) p in
    let k : 1 ≤ count 1 l = q.each 1 in
    omega (arith, z, k)

no_pair : (l m : List ℕ) → ¬ IsPaired four_lines symbol l m
no_pair l m p = elim p.is [
  | inl e ↦ lacking four_lines (line.Pair symbol l m) (λ e. cc, (λ e. cc, (λ e. cc, (λ e. cc, tt)))) (in_middle four_lines p.before p.after (line.Pair symbol l m) e)
  | inr e ↦ lacking four_lines (line.Pair symbol m l) (λ e. cc, (λ e. cc, (λ e. cc, (λ e. cc, tt)))) (in_middle four_lines p.before p.after (line.Pair symbol m l) e)
]

-- both rules stand
first_stands : IsStanding four_lines symbol (0 ∷ 1 ∷ []) (2 ∷ [])
first_stands = record {
  before = two_lines;
  after = second_rule ∷ [];
  is = refl;
  kept = λ d. lacking (second_rule ∷ []) (line.Drop (oriented.Rule symbol (0 ∷ 1 ∷ []) d)) (λ e. cc, tt);
}

second_stands : IsStanding four_lines symbol (0 ∷ 3 ∷ []) (4 ∷ [])
second_stands = record { before = three_lines; after = []; is = refl; kept = λ d. nothing (line.Drop (oriented.Rule symbol (0 ∷ 3 ∷ []) d)) }

still_stands : IsStanding six_lines symbol (0 ∷ 3 ∷ []) (4 ∷ [])
still_stands = record {
  before = three_lines;
  after = pair ∷ solution ∷ [];
  is = refl;
  kept = λ d. lacking (pair ∷ solution ∷ []) (line.Drop (oriented.Rule symbol (0 ∷ 3 ∷ []) d)) (λ e. cc, (λ e. cc, tt));
}

may_pair : MayPair four_lines symbol (0 ∷ 1 ∷ []) (0 ∷ 3 ∷ [])
may_pair = record {
  first = (2 ∷ [], first_stands);
  second = (4 ∷ [], second_stands);
  two = λ s. let e : 1 ≡ 0 = s.each 1 in omega (arith, e);
  common = (0, omega arith, omega arith);
  new = no_pair (0 ∷ 1 ∷ []) (0 ∷ 3 ∷ []);
}

module _ (fresh : Formula → ℕ) where
  -- each name of sort t represents itself as long as no name is solved
  own_representative : (js : List Line) → ((w : Val) → solved (live js) w ≡ w) → (n : ℕ) (t : Term) → slice_get names n ≡ Some t → sort_of signature t ≡ Some T
      → Represents (S fresh) js n n
  own_representative js still n t e d = record {
    term = t;
    other = t;
    sort = T;
    is = e;
    stands = e;
    sorted = (d, d);
    same = refl;
    least = λ m v i s h.
        let k : m ≡ n =
        same_leaf m n (sym (name_value (live js) m v i s ∙ still (leaf m)) ∙ h ∙ name_value (live js) n t e d ∙ still (leaf n)) in
        omega (arith, k);
  }

  -- ---- the decision
  no_decision : (l : Lit) → ¬ Contains (decisions (live one_line)) l
  no_decision l i = nothing l i

  before_decision : (l : Lit) → SurelyStands (S fresh) one_line l → Sure l
  before_decision = sure fresh one_line (tt, tt) no_decision

  decides : MayDecide (S fresh) one_line (is_true one)
  decides = record {
    open_still = λ s. not_true one kind_one (before_decision (is_true one) s);
    open_other = λ s. not_false one (λ e. omega (arith, sym kind_one ∙ e)) (before_decision (is_false one) s);
    clause = either_clause;
    possible = row_of one_line choice OR_TO_EITHER either_clause (choice_is_formula fresh one_line) either_row;
    of_it = has_one;
    unmet = λ m i s. unmet m (each m i) (before_decision m s);
  }
    where
      unmet : (m : Lit) → (is_false choice ≡ m) ⊎ ((is_true one ≡ m) ⊎ (is_true other ≡ m)) → Sure m → ⊥
      unmet m (inl e) s = not_false choice (λ e. omega (arith, sym kind_choice ∙ e)) (subst Sure (sym e) s)
      unmet m (inr (inl e)) s = not_true one kind_one (subst Sure (sym e) s)
      unmet m (inr (inr e)) s = not_true other kind_other (subst Sure (sym e) s)

  -- ---- the rules
  orients_first : MayOrientRule (S fresh) two_lines symbol (0 ∷ 1 ∷ []) (2 ∷ [])
  orients_first = record {
    one = 0 ∷ 1 ∷ [];
    other = 2 ∷ [];
    source = of_name 2 0 1 a b (refl, ab_entered fresh two_lines) (_, refl, refl) (refl, a_entered fresh two_lines) (refl, b_entered fresh two_lines);
    descend = inl (itself (0 ∷ 1 ∷ []) (0 ∷ 1 ∷ []) (record { each = λ n. refl }), itself (2 ∷ []) (2 ∷ []) (record { each = λ n. refl }));
    representatives = (
      own_representative two_lines (λ w. refl) 0 a refl a_sort,
      (own_representative two_lines (λ w. refl) 1 b refl b_sort, (own_representative two_lines (λ w. refl) 2 ab refl ab_sort, tt)),
    );
    falls = inl (omega arith);
    two = omega arith;
    reduced = (reduced_before (0 ∷ 1 ∷ []), reduced_before (2 ∷ []));
  }

  orients_second : MayOrientRule (S fresh) three_lines symbol (0 ∷ 3 ∷ []) (4 ∷ [])
  orients_second = record {
    one = 0 ∷ 3 ∷ [];
    other = 4 ∷ [];
    source = of_name 4 0 3 a ga (refl, aga_entered fresh three_lines) (_, refl, refl) (refl, a_entered fresh three_lines) (refl, ga_entered fresh three_lines);
    descend = inl (itself (0 ∷ 3 ∷ []) (0 ∷ 3 ∷ []) (record { each = λ n. refl }), itself (4 ∷ []) (4 ∷ []) (record { each = λ n. refl }));
    representatives = (
      own_representative three_lines (λ w. refl) 0 a refl a_sort,
      (own_representative three_lines (λ w. refl) 3 ga refl ga_sort, (own_representative three_lines (λ w. refl) 4 aga refl aga_sort, tt)),
    );
    falls = inl (omega arith);
    two = omega arith;
    reduced = (reduced_after (0 ∷ 3 ∷ []) refl, reduced_after (4 ∷ []) refl);
  }

  -- ---- the solved name
  equation_stands : MayStand (S fresh) five_lines (is_true one)
  equation_stands = decided five_lines (is_true one) (contains_here (is_true one) [])

  sorted : fact_ok signature (equal b ga) ≡ true
  sorted = (λ i. same_known (b_sort i) (ga_sort i)) ∙ decided_of (Sort_discrete T T) refl

  follows : MayFollow (S fresh) five_lines b ga
  follows = by_hyp (b, ga, equation_stands, refl) sorted

  solves : MayOrientName (S fresh) five_lines 3 (Leaf 1)
  solves = record {
    left = b;
    right = ga;
    entered = (b_entered fresh five_lines, ga_entered fresh five_lines);
    differ = λ e. let h = same_leaf 1 3 (sym (b_value (live five_lines)) ∙ e ∙ ga_value (live five_lines)) in omega (arith, h);
    follows = follows;
    normal = subst (AllByRecursion IsNormal) (sym (leaf_forms 1)) tt;
    solves = of_values;
  }
    where
      by_leaf : Solves (S fresh) 3 (meaning (Leaf 1)) (leaf 1) (leaf 3)
      by_leaf = subst (λ v. Solves (S fresh) 3 v (leaf 1) (leaf 3)) (sym (leaf_meaning 1)) (a_leaf 1 3 (omega arith))

      of_values : Solves (S fresh) 3 (meaning (Leaf 1)) (value_now (S fresh) five_lines b) (value_now (S fresh) five_lines ga)
      of_values =
          subst (λ w. Solves (S fresh) 3 (meaning (Leaf 1)) w (value_now (S fresh) five_lines ga)) (sym (b_value (live five_lines)))
          (subst (λ w. Solves (S fresh) 3 (meaning (Leaf 1)) (leaf 1) w) (sym (ga_value (live five_lines))) by_leaf)

  -- ---- the dropped rule: g(a) has the value of b, which is smaller
  b_now : value_now (S fresh) six_lines b ≡ leaf 1
  b_now = b_value (live six_lines)

  ga_now : value_now (S fresh) six_lines ga ≡ leaf 1
  ga_now = ga_value (live six_lines) ∙ leaf_meaning 1

  no_representative : ¬ Represents (S fresh) six_lines 3 3
  no_representative r =
      let t : ga ≡ r.term = same_Some ga r.term r.is in
      let s : T ≡ r.sort = same_Some T r.sort (sym ga_sort ∙ ap (sort_of signature) t ∙ r.sorted.0) in
      let h : 3 ≤ 1 = r.least 1 b refl (b_sort ∙ ap (λ (s : Sort). Some s) s) (b_now ∙ sym ga_now ∙ ap (value_now (S fresh) six_lines) t) in
      omega (arith, h)

  drops : MayDrop (S fresh) six_lines symbol (0 ∷ 3 ∷ [])
  drops = record { right = 4 ∷ []; stands = still_stands; cause = inr (3, omega arith, no_representative) }

  -- ---- the instances
  instantiates_type : (bound : ℕ) → 0 < bound → MayInstantiate (S fresh) bound seven_lines type_instance
  instantiates_type bound h = record {
    new = lacking seven_lines type_instance (λ e. cc, (λ e. cc, (λ e. cc, (λ e. cc, (λ e. cc, (λ e. cc, (λ e. cc, tt)))))));
    clause = type_clause;
    owner = of_axiom 3;
    sorts = T ∷ [];
    terms = a ∷ [];
    is = of_type 3 (T ∷ []) (a ∷ []) type_clause type_concludes;
    acts = λ f us e. cc;
    number = 0;
    below = h;
    matched = matched fresh seven_lines;
  }

  fixed_stands : MayStand (S fresh) eight_lines (is_true (fixed T))
  fixed_stands =
      reached eight_lines type_clause (is_true (fixed T)) (given eight_lines type_clause (inl (by_type_instance 3 (T ∷ []) type_clause has_line type_concludes)))
      (subst (Contains type_clause) fixed_true (contains_here (yes_of (fixed T)) []))
      (λ m i n. absurd (n (sym (contains_one (yes_of (fixed T)) m i) ∙ fixed_true)))
    where
      has_line : Contains eight_lines type_instance
      has_line = in_middle eight_lines seven_lines [] type_instance refl

  universal : is_universal (is_true (fixed T)) ≡ true
  universal = ap (is_universal_by true) (outs-All (block T))

  instantiates_term : (bound : ℕ) → 0 < bound → MayInstantiate (S fresh) bound eight_lines term_instance
  instantiates_term bound h = record {
    new = lacking eight_lines term_instance (λ e. cc, (λ e. cc, (λ e. cc, (λ e. cc, (λ e. cc, (λ e. cc, (λ e. cc, (λ e. cc, tt))))))));
    clause = term_clause;
    owner = of_axiom 3;
    sorts = T ∷ [];
    terms = a ∷ [];
    is = of_axiom_terms 3 (T ∷ []) (fixed T) (a ∷ []) term_clause type_concludes term_concludes;
    acts = λ f us e. let z : fixed T ≡ f = cc in subst (ActsAsUniversal (S fresh) eight_lines) z (true, fixed_stands, universal);
    number = 0;
    below = h;
    matched = matched fresh eight_lines;
  }

  -- ---- what is learnt
  no_lesson : (d : Clause) → ¬ Contains nine_lines (line.Learn d)
  no_lesson d = lacking nine_lines (line.Learn d) (λ e. cc, (λ e. cc, (λ e. cc, (λ e. cc, (λ e. cc, (λ e. cc, (λ e. cc, (λ e. cc, (λ e. cc, tt)))))))))

  not_learnt : (f : Formula) (n : ℕ) → kind f ≡ n → 3 ≢ n → ¬ Contains learnt (is_true f)
  not_learnt f n k d i = differ 3 n kind_true k d (formula_of (contains_one (is_true True) (is_true f) i))

  has_literal : (f : Formula) (d : Clause) → yes_of f ≡ is_true f → yes_of f ∷ [] ≡ d → Contains d (is_true f)
  has_literal f d e c = subst (λ (w : Clause). Contains w (is_true f)) c (subst (Contains (yes_of f ∷ [])) e (contains_here (yes_of f) []))

  is_new : (d : Clause) → IsGiven (S fresh) nine_lines d → ¬ ((m : Lit) → Contains d m → Contains learnt m)
  is_new d (inl (by_hypothesis k f e)) h = elim (hypotheses k f e) [
    | inl p ↦ not_learnt _ 2 kind_below (λ z. omega (arith, z)) (h _ (has_literal _ d below_true (λ i. yes_of (p i) ∷ [])))
    | inr r ↦ elim r [
      | inl p ↦ not_learnt _ 2 kind_above (λ z. omega (arith, z)) (h _ (has_literal _ d above_true (λ i. yes_of (p i) ∷ [])))
      | inr p ↦ not_learnt _ 1 kind_choice (λ z. omega (arith, z)) (h _ (has_literal _ d choice_true (λ i. yes_of (p i) ∷ [])))
    ]
  ]
  is_new _ (inl (by_goal f e)) h =
      let same : no_of f ≡ is_false True = ap no_of (sym (same_Some True f e)) ∙ literal_true false in
      signs (contains_one (is_true True) (is_false True) (h (is_false True) (subst (Contains (no_of f ∷ [])) same (contains_here (no_of f) []))))
  is_new d (inl (by_type_instance k ss _ q e)) h =
      not_learnt (fixed T) 4 kind_fixed (λ z. omega (arith, z)) (h (is_true (fixed T)) (has_literal (fixed T) d fixed_true (type_is nine_lines k ss d ours q e)))
  is_new d (inl (by_term_instance f ts _ q e)) h =
      signs (contains_one (is_true True) (is_false (fixed T)) (h (is_false (fixed T))
      (subst (λ (w : Clause). Contains w (is_false (fixed T))) (term_is nine_lines f ts d ours q e) (contains_here (is_false (fixed T)) (instance_literal ∷ [])))))
  is_new d (inr q) h = no_lesson d q

  learns : MayLearn (S fresh) nine_lines learnt
  unfolding row_line
  learns = record {
    some = λ e. let c = contains_here (is_true True) [] in omega (arith, (subst (λ (d : Clause). Contains d (is_true True)) e c).1);
    before = [];
    last = row_line;
    allowed = (((learnt, row_states), tt), tt);
    from = ((learnt, row_states, row_of nine_lines True TRUE_STANDS learnt (truth_is_formula fresh nine_lines) the_row), tt);
    states = row_states;
    fails = λ l i. subst (λ (k : Lit). MayStand (S fresh) nine_lines (opposite k)) (contains_one (is_true True) l i) (goal_is_false fresh nine_lines);
    new = is_new;
    again = λ before between after c d q. absurd (no_lesson d (in_middle nine_lines (before ++ line.Learn c ∷ between) after (line.Learn d) q));
  }

  -- ---- going back
  goes_back : MayGoBack ten_lines 0
  goes_back = record {
    some = omega arith;
    between = λ before after m e. absurd (no_back m (in_middle ten_lines before after (line.Back m) e));
    first =
        later combination _ (later decision _ (later first_rule _ (later second_rule _ (later pair _ (later solution _ (later dropped _
        (here type_instance (term_instance ∷ lesson ∷ []) tt)))))));
  }
    where
      no_back : (m : ℕ) → ¬ Contains ten_lines (line.Back m)
      no_back m = lacking ten_lines (line.Back m) (λ e. cc, (λ e. cc, (λ e. cc, (λ e. cc, (λ e. cc, (λ e. cc, (λ e. cc, (λ e. cc, (λ e. cc, (λ e. cc, tt))))))))))

pub every_kind_is_legal : EveryKindIsLegal
every_kind_is_legal bound h = (
  record {
    fresh = λ f. 0;
    apart = names_apart;
    entered =
        each_name (λ n t. IsEntered (S (λ f. 0)) story.lines t) (a_entered (λ f. 0) story.lines) (b_entered (λ f. 0) story.lines) (ab_entered (λ f. 0) story.lines) (ga_entered (λ f. 0) story.lines)
        (aga_entered (λ f. 0) story.lines) (x_entered (λ f. 0) story.lines);
    constants = own_constants (λ f. 0) story.lines ours_all;
    lines = (
      combines (λ f. 0),
      (
        decides (λ f. 0),
        (
          (orients_first (λ f. 0), two_rise 0 1 (omega arith), one_rises 2),
          (
            (orients_second (λ f. 0), two_rise 0 3 (omega arith), one_rises 4),
            (
              may_pair,
              (
                solves (λ f. 0),
                (
                  (drops (λ f. 0), one_rises 4),
                  (instantiates_type (λ f. 0) bound h, (instantiates_term (λ f. 0) bound h, (learns (λ f. 0), (goes_back (λ f. 0), tt)))),
                ),
              ),
            ),
          ),
        ),
      ),
    );
  },
  refl,
)
