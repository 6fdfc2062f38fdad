-- The oldest equation becomes a rule.
use Rattle.std.specs.Prelude.{ℕ, ◌+◌, ◌<◌, ◌≤◌, ◌⊎◌, ◌≢◌, List, [], ◌∷◌, ◌++◌, ◌≡◌, map, drop, length, Option, Some}
use Rattle.std.specs.List.{AllByRecursion, Contains}
use Rattle.std.proofs.Common.{refl, sym, ap, ◌∙◌, subst, arith, inl, inr}
use Rattle.std.proofs.lemmas.Bool.{cases_eq}
use Rattle.std.proofs.lemmas.Option.{same_Some}
use Rattle.ae_base.proofs.AllOf.{all_both, all_append}
use Rattle.ae_conflicts.specs.Saying.{RestsOnAssumed}
use Rattle.ae_core.specs.declared.problems.AcSymbol.{AcSymbol}
use Rattle.ae_core.specs.declared.problems.Signature.{Signature}
use Rattle.ae_core.specs.declared.terms.Term.{Term}
use Rattle.ae_equation_turns.specs.Said.{IsHeld}
use Rattle.ae_equation_turns.specs.Turned.{DescendsBy as DescendsByKept}
use Rattle.ae_equations.specs.Held.{Contents as Equations, ArePairsGiven}
use Rattle.ae_equations.specs.Paired.{partners}
use Rattle.ae_equations.specs.Queued.{waiting}
use Rattle.ae_equations.specs.declared.pairs.Pairs.{Pairs}
use Rattle.ae_equations.specs.declared.queue.Waiting.{Waiting}
use Rattle.ae_journal.specs.Journals.{live, counted_in}
use Rattle.ae_journal.specs.Legal.{IsLegalLine}
use Rattle.ae_journal.specs.Noted.{Noted}
use Rattle.ae_journal.specs.RuleLines.{MayOrientRule}
use Rattle.ae_journal.specs.Standing.{Setting, Represents}
use Rattle.ae_journal.specs.declared.lines.Line.{Line}
use Rattle.ae_journal.specs.declared.lines.Line.TheVariants as line
use Rattle.ae_journal.specs.declared.lines.Oriented.TheVariants as oriented
use Rattle.ae_journal.specs.declared.systems.RuleEntry.{RuleEntry}
use Rattle.ae_journal.proofs.Counting.{counted_push}
use Rattle.ae_journal.proofs.Living.{live_push}
use Rattle.ae_journal.proofs.Splits.{contains_cases, contains_here, contains_later, contains_one}
use Rattle.ae_monoid.specs.Rules.{rule_at, AreRules, IsRuleOf}
use Rattle.ae_monoid.specs.Changes.{IsOriented}
use Rattle.ae_monoid.specs.declared.rules.Kept.{Kept}
use Rattle.ae_multiset.specs.Multisets.{IsLess, IsSame, rising}
use Rattle.ae_multiset.specs.Rewriting.{IsReduced}
use Rattle.ae_multiset.proofs.Rising.{one_spelling, rising_rises, count-rising}
use Rattle.ae_name_lines.specs.Laws.{LeastNamesRepresent, LeastNamesRepresentNow}
use Rattle.ae_name_lines.specs.InStep.{AreLineValues}
use Rattle.ae_name_lines.proofs.Solving.{other_lines_keep_step, other_lines_solve_nothing}
use Rattle.ae_pmap.specs.Forest.{present}
use Rattle.ae_rule_changes.proofs.TakenOut.{kept_by}
use Rattle.ae_rule_changes.proofs.Turned.{oriented_entered, kept_descend}
use Rattle.ae_rule_lines.specs.Changes.{IsRuleEntered, HasNewSides}
use Rattle.ae_rule_lines.specs.InStep.{AreRulesInStep, Waiting as Equation}
use Rattle.ae_rule_lines.specs.Lineage.{DescendsIn}
use Rattle.ae_rule_lines.proofs.Entered.{rules_keep}
use Rattle.ae_rule_lines.proofs.Legality.{rule_may_come}
use Rattle.ae_rule_lines.proofs.NewSides.{new_sides_keep, descents_of_lines}
use Rattle.ae_rule_steps.specs.Said.{IsSaid}
use Rattle.ae_settled.specs.Held.{HasRule}
use Rattle.ae_state_steps.specs.ManySteps.{IsOfSort}
use Rattle.ae_store.specs.Stores.{Stored}
use Rattle.ae_sweeps.specs.Given.{rep_in, entries_of}
use Rattle.ae_theory.specs.Names.{IsNamedBy, terms_in}
use Rattle.ae_value_table.specs.Table.{values}
use Rattle.ae_state.specs.declared.holding.Holding.{Holding}
use Rattle.ae_state.specs.Names.{all_terms, terms_now, rules_now}
use Rattle.ae_state.specs.Right.{IsReason, of_value, of_rule, of_equation, IsRight}
use Rattle.ae_state.specs.Stepping.{equation, equations_now, paired_now, IsInStep}
use Rattle.ae_turns.specs.Representing.{IsTaken, AreRepresentatives}
use Rattle.ae_turns.proofs.DroppedRules.{with_equations, kept_in, entries_are}
use Rattle.ae_representatives.proofs.Taken.{seen_now}
use Rattle.ae_representatives.proofs.LineNames.{line_values, keeps_least, reps_of_lines, own_represents}
use Rattle.ae_orienting.specs.Inner.Reduced.{Descend, IsFirstReduced}
use Rattle.ae_orienting.proofs.Forgetting.{first_contained, waited, waiting_said, fewer_in_step}
use Rattle.ae_orienting.proofs.Frames.{right_by}

-- a rising list is spelled as it is
rising_is : (xs : List ℕ) → IsSame (rising xs) xs
rising_is xs = record { each = λ z. count-rising z xs }

-- an equation that waits does so without its step
equation_waits : (ws : List Waiting) (w : Waiting) → Contains ws w → Contains (map equation ws) (equation w)
equation_waits [] w c = absurd (omega (arith, c.1))
equation_waits (v ∷ vs) w c = elim (contains_cases v vs w c) [
  | inl e ↦ subst (Contains (equation v ∷ map equation vs)) (ap equation e) (contains_here (equation v) (map equation vs))
  | inr k ↦ contains_later (equation v) (map equation vs) (equation w) (equation_waits vs w k)
]

module _ (o : Holding) (s : Stored) (t : IsTaken o s) (reps : List ℕ) (r : AreRepresentatives o reps) (e : Waiting) (h : IsFirstReduced s o reps e) (falls : IsLess e.right e.left) where
  abbrev w : Waiting
  w = h.first

  abbrev new_line : Line
  new_line = line.Orient (oriented.Rule e.symbol e.left e.right)

  left_rises : rising e.left ≡ e.left
  left_rises = one_spelling (rising e.left) e.left (rising_rises e.left) ((h.to).left).rises (rising_is e.left)

  right_rises : rising e.right ≡ e.right
  right_rises = one_spelling (rising e.right) e.right (rising_rises e.right) ((h.to).right).rises (rising_is e.right)

  -- no rule reduces a side
  reduced_by : (names : List ℕ) → IsReduced (IsRuleOf (kept_in o.equations) w.symbol) names → IsReduced (HasRule (rules_now o) w.symbol) names
  reduced_by names none l m q part =
      let k = kept_by (kept_in o.equations) (rules_now o) (entries_are o.equations) q.number (record { symbol = w.symbol; left = l; right = m }) q.there in
      none l m
      (record { number = q.number; rule = k.0; there = k.1; of = ap (λ (d : RuleEntry). d.symbol) k.2; left = ap (λ (d : RuleEntry). d.left) k.2; right = ap (λ (d : RuleEntry). d.right) k.2 })
      part

  -- ---- the line is legal
  module _ (least : LeastNamesRepresent) (now : LeastNamesRepresentNow) (js : List Line) (step : IsInStep o (live js)) where
    lines : AreLineValues s.signature (terms_in s) (values o.values) (live js)
    lines = line_values o s t (live js) step.valued

    ruled : AreRulesInStep s.signature (terms_in s) (live js) (rules_now o) (paired_now o) (equations_now o)
    ruled = subst (λ (z : Signature × List Term). AreRulesInStep z.0 z.1 (live js) (rules_now o) (paired_now o) (equations_now o)) (seen_now o s t) step.ruled

    descends : (a b : List ℕ) → DescendsByKept reps (kept_in o.equations) w.symbol a b → DescendsIn s.signature (terms_in s) (live js) w.symbol a b
    descends a b d =
        descents_of_lines s.signature (terms_in s) (live js) (rep_in reps) (rules_now o) (paired_now o) (equations_now o) w.symbol a b ruled (reps_of_lines o s t reps r least (live js) lines)
        (kept_descend (rep_in reps) (kept_in o.equations) (rules_now o) w.symbol a b (entries_are o.equations) d)

    -- the equation with the sides that it is reduced to
    new_sides : (v : Equation) → HasNewSides s.signature (terms_in s) (live js) (equation w) v → AreRulesInStep s.signature (terms_in s) (live js) (rules_now o) (paired_now o) (v ∷ [])
    new_sides v sides =
        new_sides_keep s.signature (terms_in s) (live js) (rules_now o) (paired_now o) (equations_now o) (v ∷ [])
        (λ u c. (
          equation w,
          equation_waits (waiting o.equations.queue) w (first_contained (waiting o.equations.queue) w h.at),
          subst (HasNewSides s.signature (terms_in s) (live js) (equation w)) (contains_one v u c) sides,
        )) ruled

    both_own : (x : Setting) → IsNamedBy x s js → AllByRecursion (λ n. Represents x js n n) (e.left ++ e.right)
    both_own x by =
        let sort = (((h.to).said).names).sort in
        all_both (IsOfSort s.signature (terms_in s) sort) (λ n. rep_in reps n ≡ n) (λ n. Represents x js n n) (λ n sorted own. own_represents o s t reps r now x js by lines sort n sorted own) (e.left ++ e.right)
        ((((h.to).said).names).sorted) (all_append (λ n. rep_in reps n ≡ n) e.left e.right ((h.to).left).own ((h.to).right).own)

    may_come : (x : Setting) → IsNamedBy x s js → 2 ≤ length e.left → Descend reps (kept_in o.equations) w e.left e.right ⊎ Descend reps (kept_in o.equations) w e.right e.left
        → MayOrientRule x js w.symbol e.left e.right
    may_come x by two (inl d) =
        let v : Equation = record { symbol = w.symbol; left = e.left; right = e.right } in
        rule_may_come x s (terms_in s) js (rules_now o) (paired_now o) (v ∷ []) v e.left e.right by (λ i u z. z) (keeps_least o s t x js by)
        (new_sides v (record { symbol = refl; left = descends w.left e.left d.0; right = descends w.right e.right d.1 })) (contains_here v []) (inl (refl, refl)) falls two (both_own x by)
        (reduced_by e.left ((h.to).left).reduced) (reduced_by e.right ((h.to).right).reduced)
    may_come x by two (inr d) =
        let v : Equation = record { symbol = w.symbol; left = e.right; right = e.left } in
        rule_may_come x s (terms_in s) js (rules_now o) (paired_now o) (v ∷ []) v e.left e.right by (λ i u z. z) (keeps_least o s t x js by)
        (new_sides v (record { symbol = refl; left = descends w.left e.right d.0; right = descends w.right e.left d.1 })) (contains_here v []) (inr (refl, refl)) falls two (both_own x by)
        (reduced_by e.left ((h.to).left).reduced) (reduced_by e.right ((h.to).right).reduced)

    pub line_legal : 2 ≤ length e.left → (x : Setting) (bound : ℕ) → IsNamedBy x s js → IsLegalLine x bound js new_line
    line_legal two x bound by = (
      subst (λ (u : AcSymbol). MayOrientRule x js u e.left e.right) (sym (h.to).symbol) (may_come x by two (h.to).descend),
      ((h.to).left).rises,
      ((h.to).right).rises,
    )

  -- ---- the rule
  abbrev next : ℕ
  next = o.equations.rules.next

  module _ (d : Equations) (well : AreRules (kept_in o.equations) next) (given : ArePairsGiven o.equations.pairs next) (rule : IsOriented (rule_at d.rules next) e.symbol e.left e.right e.step)
      (others : (n : ℕ) → n ≢ next → rule_at d.rules n ≡ rule_at o.equations.rules n)
      (queue : waiting d.queue ≡ drop 1 (waiting o.equations.queue)) (pairs : d.pairs ≡ o.equations.pairs) where
    abbrev entry : RuleEntry
    entry = record { symbol = e.symbol; left = rising e.left; right = rising e.right }

    entered : IsRuleEntered (rules_now o) (entries_of d.rules) (paired_now o) next entry
    entered =
        (oriented_entered next e.step (kept_in o.equations) (kept_in d) (rules_now o) (entries_of d.rules) (paired_now o) e.symbol e.left e.right well (entries_are o.equations) (entries_are d) rule others given.each
        (subst (λ (u : AcSymbol). IsReduced (HasRule (rules_now o) u) e.left) (sym (h.to).symbol) (reduced_by e.left ((h.to).left).reduced))
        (subst (λ (u : AcSymbol). IsReduced (HasRule (rules_now o) u) e.right) (sym (h.to).symbol) (reduced_by e.right ((h.to).right).reduced))).0 falls

    abbrev made : Kept
    made = record { entry = record { symbol = e.symbol; left = e.left; right = e.right }; just = e.step }

    there : rule_at d.rules next ≡ Some made
    there = rule.first_larger falls ∙ (λ i. Some (record { entry = record { symbol = e.symbol; left = left_rises i; right = right_rises i }; just = e.step }))

    made_said : IsSaid o.signature (terms_now o) o.justs made
    made_said =
        subst (λ (z : Signature × List Term). IsSaid z.0 z.1 o.justs made) (sym (seen_now o s t)) (record { names = ((h.to).said).names; states = ((h.to).said).states })

    rule_said : IsRight o → (n : ℕ) (k : Kept) → rule_at d.rules n ≡ Some k → (n ≡ next) ⊎ (n ≢ next) → IsSaid o.signature (terms_now o) o.justs k
    rule_said right n k at (inl z) = subst (IsSaid o.signature (terms_now o) o.justs) (same_Some made k (sym there ∙ ap (rule_at d.rules) (sym z) ∙ at)) made_said
    rule_said right n k at (inr z) = ((right.ruled).rules).each n k (sym (others n z) ∙ at)

    held_after : IsRight o → IsHeld o.signature (terms_now o) o.justs d
    held_after right =
        record { rules = record { each = λ n k at. rule_said right n k at (cases_eq n next) }; waiting = waiting_said o d queue o.signature (terms_now o) o.justs (right.ruled).waiting }

    rule_grounded : IsRight o → (id n : ℕ) (k : Kept) → rule_at d.rules n ≡ Some k → k.just ≡ id → (n ≡ next) ⊎ (n ≢ next) → RestsOnAssumed (all_terms o) o.justs (present o.assumed) id
    rule_grounded right id n k at j (inl z) =
        subst (RestsOnAssumed (all_terms o) o.justs (present o.assumed)) (ap (λ (m : Kept). m.just) (same_Some made k (sym there ∙ ap (rule_at d.rules) (sym z) ∙ at)) ∙ j) (h.to).rests
    rule_grounded right id n k at j (inr z) = right.grounded id (of_rule n k (sym (others n z) ∙ at) j)

    grounded_after : IsRight o → (id : ℕ) → IsReason (with_equations o d) id → RestsOnAssumed (all_terms o) o.justs (present o.assumed) id
    grounded_after right id (of_value x) = right.grounded id (of_value x)
    grounded_after right id (of_rule n k at j) = rule_grounded right id n k at j (cases_eq n next)
    grounded_after right id (of_equation v c j) = right.grounded id (of_equation v (waited o d queue v c) j)

    pub right_entered : IsRight o → IsRight (with_equations o d)
    right_entered right = right_by o d right (held_after right) (grounded_after right)

    -- ---- the lines
    pub step_entered : (js : List Line) → IsInStep o (live js) → IsInStep (with_equations o d) (live (js ++ new_line ∷ []))
    step_entered js step =
        let ls = live js in
        let spelled : line.Orient (oriented.Rule e.symbol (rising e.left) (rising e.right)) ≡ new_line = λ i. line.Orient (oriented.Rule e.symbol (left_rises i) (right_rises i)) in
        let kept = rules_keep o.signature (terms_now o) ls (rules_now o) (entries_of d.rules) (paired_now o) (equations_now o) next entry entered step.ruled in
        let noted = subst (λ (j : Line). AreRulesInStep o.signature (terms_now o) (ls ++ j ∷ []) (entries_of d.rules) (paired_now o) (equations_now o)) spelled kept in
        subst (IsInStep (with_equations o d)) (sym (live_push js new_line))
        (record {
          valued = other_lines_keep_step o.signature (terms_now o) (values o.values) ls new_line refl step.valued;
          solved = other_lines_solve_nothing o.values.taken ls new_line refl step.solved;
          ruled =
              subst (λ (p : Pairs). AreRulesInStep o.signature (terms_now o) (ls ++ new_line ∷ []) (entries_of d.rules) (λ n. partners p n) (map equation (waiting d.queue))) (sym pairs)
              (fewer_in_step o d queue (ls ++ new_line ∷ []) (entries_of d.rules) (paired_now o) noted);
        })

-- ---- the same sides
pub oriented_as : (rule : Option Kept) (u : AcSymbol) (a b l r : List ℕ) (just : ℕ) → a ≡ l → b ≡ r → IsOriented rule u a b just → IsOriented rule u l r just
oriented_as rule u a b l r just p q h = subst (λ (z : List ℕ × List ℕ). IsOriented rule u z.0 z.1 just) (λ i. (p i, q i)) h

-- the line is counted
pub line_counted : (j k : Noted) (u : AcSymbol) (l r : List ℕ) → k ≡ record j { lines = j.lines ++ line.Orient (oriented.Rule u l r) ∷ [] } → counted_in j.lines < counted_in k.lines
line_counted j k u l r is =
    let one : counted_in (j.lines ++ line.Orient (oriented.Rule u l r) ∷ []) ≡ counted_in j.lines + 1 = counted_push j.lines (line.Orient (oriented.Rule u l r)) in
    omega (arith, ap (λ (z : Noted). counted_in z.lines) is, one)
