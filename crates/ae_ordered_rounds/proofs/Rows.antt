-- The sides of a row of a tight sum are numbers whose order may come in.
use Rattle.std.specs.Prelude.{ℕ, zero, suc, ℤ, pos, ◌≡◌, ◌≢◌, Bool, true, false, List, [], ◌∷◌, slice_get, Some}
use Rattle.std.specs.List.{AllByRecursion, Contains}
use Rattle.std.proofs.Common.{arith, refl, sym, ap, ◌∙◌, subst, append-nil}
use Rattle.std.proofs.lemmas.Option.{get_or_from_slice_get, slice_get_within}
use Rattle.ae_added_orders.specs.Ordering.{IsOverNames}
use Rattle.ae_agreed_rows.specs.Laws.{WholeRowsStand}
use Rattle.ae_base.proofs.AllOf.{all_at, all_both, all_weaker}
use Rattle.ae_base.proofs.ListFacts.{get_append, value_at}
use Rattle.ae_between_rounds.proofs.Growing.{some_told}
use Rattle.ae_between_rounds.specs.Between.{IsBetweenRounds}
use Rattle.ae_between_rounds.specs.Finished.{IsOpenSearch}
use Rattle.ae_between_rounds.specs.declared.search.Search.{Search}
use Rattle.ae_bound_blocks.proofs.Sorting.{name_within}
use Rattle.ae_bound_blocks.specs.Tight.{IsGivenRow}
use Rattle.ae_bounds.specs.declared.rows.Row.{Row as Kept}
use Rattle.ae_core.specs.Sorts.{sort_of}
use Rattle.ae_core.specs.declared.formulas.Lit.{Lit}
use Rattle.ae_core.specs.declared.problems.Problem.{Problem}
use Rattle.ae_core.specs.declared.problems.Signature.{Signature}
use Rattle.ae_core.specs.declared.terms.Op.{Op}
use Rattle.ae_core.specs.declared.terms.Sort.{Int, out-Sort}
use Rattle.ae_core.specs.declared.terms.Term.{Term, Apply}
use Rattle.ae_explain.specs.Trail.{at}
use Rattle.ae_explain.specs.declared.trail.Assigned.{Assigned}
use Rattle.ae_inequalities.specs.Tight.{IsRowAt}
use Rattle.ae_inequalities.specs.declared.answer.Ineq.TheVariants.{Tight}
use Rattle.ae_inequalities.specs.declared.rows.Row.{Row}
use Rattle.ae_journal.proofs.Splits.{all_contained}
use Rattle.ae_journal.specs.Sides.{AreWhole, other_side, side}
use Rattle.ae_journal.specs.Standing.{IsEntered, IsWholeRow, MayStand, Setting}
use Rattle.ae_journal.specs.Standing.IsEntered.{of_other_side, of_row}
use Rattle.ae_journal.specs.Systems.{arithmetic, is_real, numeral_of}
use Rattle.ae_journal.specs.declared.lines.Line.{Line}
use Rattle.ae_kept_runs.proofs.Learnt.{each_literal}
use Rattle.ae_new_constants.proofs.Terms.{applied, num_below}
use Rattle.ae_new_constants.specs.Below.{IsTermBelow}
use Rattle.ae_num.specs.Forms.{IsNormal}
use Rattle.ae_num.specs.declared.forms.Lin.{Lin}
use Rattle.ae_num.specs.declared.forms.Part.{Part}
use Rattle.ae_numerals_kept.proofs.Lowest.{apply_lowest, whole_lowest}
use Rattle.ae_numerals_kept.specs.Lowest.{IsLowestTerm}
use Rattle.ae_ordered_rounds.proofs.Closed.{other_holds, side_holds}
use Rattle.ae_ordered_rounds.proofs.Orderable.{below_of, is_ordered, literal_orderable, lowest_of}
use Rattle.ae_ordered_rounds.proofs.Sums.{sides_over}
use Rattle.ae_ordered_rounds.specs.Inner.Orderable.{AreOrderableRows, HasInequality, IsFineRow, IsOrderable}
use Rattle.ae_ordered_rounds.specs.Inner.Solving.{IsSolved}
use Rattle.ae_propagation.specs.Settled.{Holds}
use Rattle.ae_row_sides.specs.Laws.{SidesAreKept, SidesAreOrdered, SidesAreWhole}
use Rattle.ae_rules.specs.Clauses.{Clause}
use Rattle.ae_rules.specs.Instances.{trichotomy}
use Rattle.ae_sat.proofs.Saturating.{atoms_stand}
use Rattle.ae_sat.specs.Marked.{atoms}
use Rattle.ae_searching.specs.Told.{IsToldIn}
use Rattle.ae_solved_orders.specs.Passed.{AreInStepWith, Solved, literals_to}
use Rattle.ae_state_steps.specs.ValueSteps.{IsNumberName}
use Rattle.ae_store.proofs.StoreLaws.{name_term}
use Rattle.ae_theory.specs.Names.{terms_in}
use Rattle.ae_theory.specs.Noting.{IsBlockOf}
use Rattle.ae_tight_sides.specs.Sides.{AreSidesOf}
use Rattle.ae_tight_sides.specs.Sides.AreSidesOf.{of_literal as by_literal, of_row as by_row}
use Rattle.ae_tight_sides.specs.declared.sides.Sides.{Sides}
use Rattle.ae_writable.specs.Numbers.{HasLowestNumerals}

-- ---- literals
-- the first literals of a trail are true
first_hold : (t : List Assigned) (n : ℕ) (l : Lit) → Contains (literals_to t n) l → Holds t l
first_hold [] zero l c = absurd (let k = c.1 in omega (arith, k))
first_hold [] (suc n) l c = absurd (let k = c.1 in omega (arith, k))
first_hold (a ∷ t) zero l c = absurd (let k = c.1 in omega (arith, k))
first_hold (a ∷ t) (suc n) l (zero, r, e) = (zero, omega arith, e)
first_hold (a ∷ t) (suc n) l (suc k, r, e) = let h = first_hold t n l (k, omega (arith, r), e) in (suc h.0, omega (arith, h.1), h.2)

-- ---- names of a row
names_whole : (sig : Signature) (ts : List Term) (f : Lin) → AllByRecursion (λ (q : Part). IsNumberName sig ts false q.key) f.parts → AreWhole sig ts f
names_whole sig ts f a =
    all_weaker (λ (q : Part). IsNumberName sig ts false q.key) (λ (q : Part). (t : Term) × (slice_get ts q.key ≡ Some t) × (sort_of sig t ≡ Some Int))
    (λ q h. let w = value_at ts q.key (name_within sig ts false q.key h) in (w.0, w.1, ap (sort_of sig) (sym (name_term ts q.key w.0 w.1)) ∙ h)) f.parts a

module _ (p : Problem) (g bound : ℕ) (o : Search) (between : IsBetweenRounds p g bound o) (is_open : IsOpenSearch o) (r : Solved) (solved : IsSolved p g o r)
    (inequal : HasInequality o.solver.propagation.trail) (may : (x : Setting) → IsToldIn p g o.store o.blocks.opened x → (l : Lit) → Holds o.solver.propagation.trail l → MayStand x o.journal.lines l)
    (stand : WholeRowsStand) (kept : SidesAreKept) (ordered : SidesAreOrdered)
    (all_whole : SidesAreWhole) where
  abbrev t : List Assigned
  t = o.solver.propagation.trail

  abbrev ts : List Term
  ts = terms_in o.store

  abbrev js : List Line
  js = o.journal.lines

  in_step : (x : Setting) → IsToldIn p g o.store o.blocks.opened x → AreInStepWith x js t r.kept
  in_step x told = (solved.orders.agree x told).0 solved.lines

  -- one row
  module _ (row : Row) (k : ℕ) (i : IsRowAt o.store r.kept.bounds k row) where
    fine_row : IsFineRow o.store row
    fine_row =
        let w = some_told p g o.blocks.next o.store o.blocks.opened between.holds.constants.apart in
        record { right = i.right; normal = subst IsNormal (sym i.lin) (all_at (λ (q : Kept). IsNormal q.lin) r.kept.bounds.rows k i.kept (in_step w.0 w.1).normal i.at) }

    module _ (integral : row.integral ≡ true) (some : row.lin.parts ≢ []) where
      whole : AreWhole o.store.signature ts row.lin
      whole = names_whole o.store.signature ts row.lin
          (subst (λ (real : Bool). AllByRecursion (λ (q : Part). IsNumberName o.store.signature ts real q.key) row.lin.parts) (i.right.whole integral) i.right.said.numbers)

      stands : (x : Setting) → IsToldIn p g o.store o.blocks.opened x → IsWholeRow x js i.kept.strict row.lin
      stands x told =
          let s = in_step x told in
          subst (IsWholeRow x js i.kept.strict) (sym i.lin)
          (stand x js (literals_to t r.kept.literals) r.kept.bounds.rows i.kept s.rows (λ l c. may x told l (first_hold t r.kept.literals l c)) s.agreed
          (k, slice_get_within r.kept.bounds.rows k i.kept i.at, get_or_from_slice_get r.kept.bounds.rows k i.kept i.kept i.at) (sym i.integral ∙ integral)
          (all_at (λ (q : Kept). IsNormal q.lin) r.kept.bounds.rows k i.kept s.normal i.at) (λ none. some (ap (λ (f : Lin). f.parts) i.lin ∙ none)))

      sides_same : (x : Setting) (told : IsToldIn p g o.store o.blocks.opened x) → (side Int x.names row.lin ≡ side Int ts row.lin) × (other_side Int x.names row.lin ≡ other_side Int ts row.lin)
      sides_same x told =
          kept o.store.signature ts x.names row.lin (λ n u e. subst (λ (us : List Term). slice_get us n ≡ Some u) (sym told.names) (get_append ts told.more n u e)) whole

      side_entered : (x : Setting) → IsToldIn p g o.store o.blocks.opened x → IsEntered x js (side Int ts row.lin)
      side_entered x told = subst (IsEntered x js) (sides_same x told).0 (of_row js js [] i.kept.strict row.lin (sym (append-nil js)) (stands x told))

      other_entered : (x : Setting) → IsToldIn p g o.store o.blocks.opened x → IsEntered x js (other_side Int ts row.lin)
      other_entered x told = subst (IsEntered x js) (sides_same x told).1 (of_other_side js js [] i.kept.strict row.lin (sym (append-nil js)) (stands x told))

      both_below : IsTermBelow o.blocks.next (other_side Int ts row.lin) × IsTermBelow o.blocks.next (side Int ts row.lin)
      both_below =
          let n = o.blocks.next in
          let all = below_of p g bound o between in
          let number : (z : ℤ) → IsTermBelow n (numeral_of Int z) = λ z. num_below n z (pos 1) (is_real (out-Sort Int)) in
          let two : (q : Op) (a b : Term) → IsTermBelow n a → IsTermBelow n b → IsTermBelow n (Apply (arithmetic Int q) [] (a ∷ b ∷ [])) = λ q a b h m. applied n (arithmetic Int q) [] (a ∷ b ∷ []) (h, (m, tt)) in
          (other_holds (IsTermBelow n) ts all number two row.lin, side_holds (IsTermBelow n) ts all number two row.lin)

      both_lowest : HasLowestNumerals p → IsLowestTerm (other_side Int ts row.lin) × IsLowestTerm (side Int ts row.lin)
      both_lowest low =
          let all = lowest_of p g bound o between low in
          let number : (z : ℤ) → IsLowestTerm (numeral_of Int z) = λ z. whole_lowest z (is_real (out-Sort Int)) in
          let two : (q : Op) (a b : Term) → IsLowestTerm a → IsLowestTerm b → IsLowestTerm (Apply (arithmetic Int q) [] (a ∷ b ∷ [])) = λ q a b h m. apply_lowest (arithmetic Int q) [] (a ∷ b ∷ []) (h, (m, tt)) in
          (other_holds IsLowestTerm ts all number two row.lin, side_holds IsLowestTerm ts all number two row.lin)

      both_over : IsOverNames p.signature o.store (other_side Int ts row.lin) × IsOverNames p.signature o.store (side Int ts row.lin)
      both_over =
          let sorts = all_whole o.store.signature ts row.lin fine_row.normal whole in
          subst (λ (sig : Signature). IsOverNames sig o.store (other_side Int ts row.lin) × IsOverNames sig o.store (side Int ts row.lin)) (sym between.searching.signature)
          (sides_over o.store between.holds.store row.lin sorts.0 sorts.1)

      row_orderable : IsOrderable p g o (other_side Int ts row.lin) (side Int ts row.lin)
      row_orderable = record {
        may = record {
          entered = λ x told. (other_entered x told, side_entered x told);
          below = both_below;
          lowest = both_lowest;
          over = both_over;
          ordered = is_ordered p g bound o between is_open inequal.1.literal inequal.0.right inequal.0.left inequal.1.strict inequal.1.holds inequal.1.is;
        };
        numbers = subst (λ (sig : Signature). (c : Clause) × (trichotomy sig (other_side Int ts row.lin) (side Int ts row.lin) ≡ Some c)) (sym between.searching.signature)
            (ordered o.store.signature ts row.lin fine_row.normal whole);
      }

    -- whichever its sides are
    row_sides : IsBlockOf (atoms t) row.from.deriv.hyps row.from.tags → (both : Sides) → AreSidesOf ts row both → IsOrderable p g o both.left both.right
    row_sides block both (by_row integral some left right) =
        subst (λ (z : Term × Term). IsOrderable p g o z.0 z.1) (λ j. (sym left j, sym right j)) (row_orderable integral some)
    row_sides block both (by_literal l strict c e) =
        let h = all_contained (Holds t) row.from.deriv.hyps l
        (each_literal (Holds t) (atoms t) (λ m n. atoms_stand (Holds t) 0 t (λ j lt. (j, lt, refl)) m n) row.from.deriv.hyps row.from.tags block) c in
        literal_orderable p g bound o between is_open l both.right both.left strict h e

  pub rows_orderable : (rows : List Row) → r.found ≡ Tight rows → AreOrderableRows p g o rows
  rows_orderable rows found =
      let w = solved.tight rows found in
      let each = w.0.each in
      record {
        fine = all_weaker (λ (row : Row). (k : ℕ) × (i : IsRowAt o.store r.kept.bounds k row) × IsGivenRow i.kept) (IsFineRow o.store) (λ row h. fine_row row h.0 h.1) rows each;
        sides = all_both (λ (row : Row). (k : ℕ) × (i : IsRowAt o.store r.kept.bounds k row) × IsGivenRow i.kept) (λ (row : Row). IsBlockOf (atoms t) row.from.deriv.hyps row.from.tags)
            (λ (row : Row). (both : Sides) → AreSidesOf ts row both → IsOrderable p g o both.left both.right) (λ row h b. row_sides row h.0 h.1 b) rows each w.1;
      }
