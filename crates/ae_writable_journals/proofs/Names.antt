-- After legal lines that can be written, the numerals of all that a journal has are in lowest terms: of its formulas, its possible clauses, the literals that may stand, and
-- its names, which are well sorted or predicates' applications; and rows of sort `int` that stand are of names of that sort.
use Rattle.std.specs.Prelude.{ℕ, ◌≡◌, Bool, List, [], ◌∷◌, ◌++◌, length, slice_get, Some}
use Rattle.std.specs.List.{AllByRecursion}
use Rattle.std.proofs.Common.{sym, ap, ◌∙◌, subst, inl, inr}
use Rattle.std.proofs.lemmas.Option.{same_Some}
use Rattle.ae_base.proofs.AllOf.{all_both, all_front, all_weaker}
use Rattle.ae_core.specs.Signatures.{IsLawfulProblem}
use Rattle.ae_core.specs.Sorts.{sort_of}
use Rattle.ae_core.specs.declared.formulas.Formula.{Formula}
use Rattle.ae_core.specs.declared.formulas.Lit.{Lit}
use Rattle.ae_core.specs.declared.terms.Sort.{Sort, Int}
use Rattle.ae_core.specs.declared.terms.Term.{Term, Apply}
use Rattle.ae_journal.proofs.LegalFronts.{front}
use Rattle.ae_journal.proofs.LegalRows.{decided_on_line, literals_are_formulas}
use Rattle.ae_journal.proofs.Representatives.{one_leaf}
use Rattle.ae_journal.proofs.RowParts.{inequality_sides}
use Rattle.ae_journal.proofs.Splits.{all_contained, contains_here}
use Rattle.std.proofs.lemmas.List.Elements.{Contains-append_right}
use Rattle.ae_journal.specs.Journals.{live}
use Rattle.ae_journal.specs.Legal.{AreLegal}
use Rattle.ae_journal.specs.Sides.{AreDivided, AreWhole, side, other_side}
use Rattle.ae_journal.specs.Standing.{Setting, IsFormula, IsEntered, IsPossible, MayStand, IsWholeRow, value_now}
use Rattle.ae_journal.specs.Standing.IsFormula.{of_clause, of_order, of_choice, of_fresh, of_part}
use Rattle.ae_journal.specs.Standing.IsEntered.{of_formula, of_term, of_field, of_row, of_other_side}
use Rattle.ae_journal.specs.Standing.IsPossible.{given, row_of, choice_of, order_of, fresh_of}
use Rattle.ae_journal.specs.Standing.IsWholeRow.{of_inequality, of_combine, of_rounding}
use Rattle.ae_journal.specs.Standing.MayStand.{decided, reached}
use Rattle.ae_journal.specs.States.{inequality, outside}
use Rattle.ae_journal.specs.Systems.{field_terms}
use Rattle.ae_journal.specs.Values.{Sum, sum_in, minus_val, sum_of_lin}
use Rattle.ae_journal.specs.declared.lines.Line.{Line}
use Rattle.ae_journal.specs.declared.lines.Line.TheVariants as line
use Rattle.ae_journal.specs.declared.lines.Oriented.TheVariants as oriented
use Rattle.ae_legal_stories.proofs.Lasting.{all_live}
use Rattle.ae_legal_stories.specs.Writable.{IsSortedName}
use Rattle.ae_name_lines.proofs.MoreNames.{leaf_is}
use Rattle.ae_num.specs.Forms.{IsNormal}
use Rattle.ae_num.specs.declared.forms.Lin.{Lin}
use Rattle.ae_num.specs.declared.forms.Part.{Part}
use Rattle.ae_rules.specs.Clauses.{Clause}
use Rattle.ae_numerals_kept.specs.Lowest.{IsLowest, IsLowestTerm}
use Rattle.ae_numerals_kept.proofs.Lowest.{IsLowestClause, part_lowest, outside_lowest, arguments_lowest, fields_lowest, row_lowest, fresh_lowest, choice_lowest, order_lowest}
use Rattle.ae_writable.specs.Numbers.{HasLowestNumerals}
use Rattle.ae_writable_journals.proofs.Fit.{IsFit, IsLowestName, brought_fit, formula_sorted}
use Rattle.ae_writable_journals.proofs.Leaves.{Over, form_keys}
use Rattle.ae_writable_journals.proofs.NameSorts.{HaveOneSort, arguments_sorted, field_names_sorted, inequality_sorts, outside_sorted}
use Rattle.ae_writable_journals.proofs.Sides.{IsRowOfNames, IsWholeTerm, side_whole, other_side_whole}
use Rattle.ae_writable_journals.proofs.Values.{IsLeafOf, IsOverSort, SolvesOver, minus_over, value_over}

-- rows that are divided have the same names
pub divided_keys : (K : ℕ → Type 0) (d : ℕ) (ps qs : List Part) → AreDivided d ps qs → AllByRecursion (λ (q : Part). K q.key) ps → AllByRecursion (λ (q : Part). K q.key) qs
divided_keys K d [] [] h a = tt
divided_keys K d (p ∷ ps) (q ∷ qs) h a = (subst K h.0 a.0, divided_keys K d ps qs h.2 a.1)
divided_keys K d [] (q ∷ qs) h a = absurd h
divided_keys K d (p ∷ ps) [] h a = absurd h

module _ (x : Setting) (bound : ℕ) (lawful : IsLawfulProblem x.problem) (lowest : HasLowestNumerals x.problem)
    (apart : (m n : ℕ) (t : Term) → slice_get x.names m ≡ Some t → slice_get x.names n ≡ Some t → m ≡ n) where
  -- ---- leaves that are listed names
  pub leaf_names : (s : Sort) (n : ℕ) → IsLeafOf x.problem.signature x.names s n → (t : Term) → slice_get x.names n ≡ Some t → IsLowestTerm t × (sort_of x.problem.signature t ≡ Some s)
  leaf_names s n l t e =
      let same : l.0 ≡ t = one_leaf x.names l.0 t (l.1 ∙ sym (leaf_is x.names apart n t e)) in
      (subst IsLowestTerm same l.2, ap (sort_of x.problem.signature) (sym same) ∙ l.3)

  -- ---- values
  solves : (j : Line) → IsFit x j → SolvesOver x.problem.signature x.names j
  solves (line.Orient (oriented.Named m v)) h = h
  solves (line.Orient (oriented.Rule u l r)) h = tt
  solves (line.Decide l) h = tt
  solves (line.Drop o) h = tt
  solves (line.Pair u l m) h = tt
  solves (line.Learn c) h = tt
  solves (line.TypeInstance k ss) h = tt
  solves (line.TermInstance f ts) h = tt
  solves (line.Combine strict f) h = tt
  solves (line.Back n) h = tt

  pub now_over : (js : List Line) → AllByRecursion (IsFit x) js → (t : Term) → IsLowestTerm t → (s : Sort) → sort_of x.problem.signature t ≡ Some s → IsOverSort x.problem.signature x.names s (value_now x js t)
  now_over js a =
      value_over x.problem.signature x.names lawful.signature (live js)
      (all_weaker (IsFit x) (SolvesOver x.problem.signature x.names) solves (live js) (all_live (IsFit x) [] js tt a))

  -- the difference of two terms of one sort
  pub difference_over : (js : List Line) → AllByRecursion (IsFit x) js → (s t : Term) → IsLowestTerm s → IsLowestTerm t → (o : Sort) → sort_of x.problem.signature s ≡ Some o → sort_of x.problem.signature t ≡ Some o
      → Over (IsLeafOf x.problem.signature x.names o) (sum_in (minus_val (value_now x js s) (value_now x js t))).parts
  difference_over js a s t v w o p q = minus_over x.problem.signature x.names o (value_now x js s) (value_now x js t) (now_over js a s v o p) (now_over js a t w o q)

  -- the two terms of an inequality literal
  pub inequality_lowest : (l : Lit) (s t : Term) (strict : Bool) → IsLowest l.formula → inequality l ≡ Some (s, t, strict) → IsLowestTerm s × IsLowestTerm t
  inequality_lowest l s t strict w e =
      let c = inequality_sides l.formula l.positive s t strict e in
      let all = outside_lowest l.formula w in
      (all_contained IsLowestTerm (outside l.formula) s all c.0, all_contained IsLowestTerm (outside l.formula) t all c.1)

  pub literal_sorts : (js : List Line) → AreLegal x bound [] js → (l : Lit) (s t : Term) (strict : Bool) → MayStand x js l → inequality l ≡ Some (s, t, strict) → HaveOneSort x.problem.signature s t
  literal_sorts js g l s t strict m e = inequality_sorts x.problem.signature l.formula l.positive s t strict (formula_sorted x lawful bound js g l.formula (literals_are_formulas x bound js l g m)) e

  -- ---- rows
  abbrev IsOfInts : Lin → Type 0
  IsOfInts f = IsRowOfNames x.problem.signature x.names f

  int_row : (f : Lin) → IsNormal f → Over (IsLeafOf x.problem.signature x.names Int) (sum_of_lin f).parts → IsOfInts f
  int_row f n a = (
    n,
    all_weaker (λ (q : Part). IsLeafOf x.problem.signature x.names Int q.key) (λ (q : Part). (t : Term) → slice_get x.names q.key ≡ Some t → IsWholeTerm x.problem.signature t) (λ q l t e. leaf_names Int q.key l t e) f.parts
        (form_keys (IsLeafOf x.problem.signature x.names Int) f n a),
  )

  inequality_row : (js : List Line) → AllByRecursion (IsFit x) js → (l : Lit) (s t : Term) (strict : Bool) (f : Lin) → IsLowest l.formula → HaveOneSort x.problem.signature s t → inequality l ≡ Some (s, t, strict)
      → sort_of x.problem.signature s ≡ Some Int → sum_of_lin f ≡ sum_in (minus_val (value_now x js s) (value_now x js t)) → Over (IsLeafOf x.problem.signature x.names Int) (sum_of_lin f).parts
  inequality_row js a l s t strict f w one e o v =
      let low = inequality_lowest l s t strict w e in
      let same : one.0 ≡ Int = same_Some one.0 Int (sym one.1 ∙ o) in
      subst (λ (z : Sum). Over (IsLeafOf x.problem.signature x.names Int) z.parts) (sym v) (difference_over js a s t low.0 low.1 Int o (one.2 ∙ ap (λ (z : Sort). Some z) same))

  line_row : (f : Lin) → IsNormal f × AllByRecursion (λ (q : Part). IsLowestName x q.key) f.parts → AreWhole x.problem.signature x.names f → IsOfInts f
  line_row f w whole = (
    w.0,
    all_both (λ (q : Part). IsLowestName x q.key) (λ (q : Part). (t : Term) × (slice_get x.names q.key ≡ Some t) × (sort_of x.problem.signature t ≡ Some Int))
        (λ (q : Part). (t : Term) → slice_get x.names q.key ≡ Some t → IsWholeTerm x.problem.signature t)
        (λ q low named t e. (low t e, ap (sort_of x.problem.signature) (sym (same_Some named.0 t (sym named.1 ∙ e))) ∙ named.2)) f.parts w.1 whole,
  )

  legal_front : (js before after : List Line) → js ≡ before ++ after → AreLegal x bound [] js → AreLegal x bound [] before
  legal_front js before after e g = front x bound [] before after (subst (AreLegal x bound []) e g)

  fit_front : (js before after : List Line) → js ≡ before ++ after → AllByRecursion (IsFit x) js → AllByRecursion (IsFit x) before
  fit_front js before after e a = all_front (IsFit x) before after (subst (AllByRecursion (IsFit x)) e a)

  pub combine_fit : (js before after : List Line) (strict : Bool) (f : Lin) → js ≡ before ++ line.Combine strict f ∷ after → AllByRecursion (IsFit x) js → IsFit x (line.Combine strict f)
  combine_fit js before after strict f e a =
      all_contained (IsFit x) (before ++ line.Combine strict f ∷ after) (line.Combine strict f) (subst (AllByRecursion (IsFit x)) e a)
      (Contains-append_right before (line.Combine strict f ∷ after) (line.Combine strict f) (contains_here (line.Combine strict f) after))

  as_name : (t : Term) → IsWholeTerm x.problem.signature t → IsLowestTerm t × IsSortedName x.problem.signature t
  as_name t w = (w.0, inl (Int, w.1))

  -- ---- all of them together
  mutual
    pub formula_fit : (js : List Line) → AreLegal x bound [] js → AllByRecursion (IsFit x) js → (f : Formula) → IsFormula x js f → IsLowest f
    formula_fit js g a _ (of_clause _ c l b i) = brought_fit x lowest js a c b l i
    formula_fit js g a _ (of_order _ s t c l p q e i) = order_lowest x.problem.signature s t (name_fit js g a s p).0 (name_fit js g a t q).0 c e l i
    formula_fit js g a _ (of_choice _ t c l p e i) = choice_lowest x.problem.signature t (name_fit js g a t p).0 c e l i
    formula_fit js g a _ (of_fresh _ f c l p e i) = fresh_lowest f (x.fresh f) (formula_fit js g a f p) c e l i
    formula_fit js g a h (of_part _ f _ p i) = part_lowest f h (formula_fit js g a f p) i

    pub name_fit : (js : List Line) → AreLegal x bound [] js → AllByRecursion (IsFit x) js → (t : Term) → IsEntered x js t → IsLowestTerm t × IsSortedName x.problem.signature t
    name_fit js g a t (of_formula _ f _ p i) = (
      all_contained IsLowestTerm (outside f) t (outside_lowest f (formula_fit js g a f p)) i,
      all_contained (IsSortedName x.problem.signature) (outside f) t (outside_sorted x.problem.signature f (formula_sorted x lawful bound js g f p)) i,
    )
    name_fit js g a t (of_term _ h ss us _ p i) = (
      all_contained IsLowestTerm us t (arguments_lowest h ss us (name_fit js g a (Apply h ss us) p).0) i,
      all_contained (IsSortedName x.problem.signature) us t (arguments_sorted x.problem.signature h ss us (name_fit js g a (Apply h ss us) p).1) i,
    )
    name_fit js g a t (of_field _ s ss u _ p e r i) = (
      all_contained IsLowestTerm (field_terms s u (length ss)) t (fields_lowest s u (length ss) (name_fit js g a u p).0) i,
      all_contained (IsSortedName x.problem.signature) (field_terms s u (length ss)) t (field_names_sorted x.problem.signature lawful.signature s ss u e r) i,
    )
    name_fit js g a _ (of_row _ before after strict f e w) =
        as_name (side Int x.names f) (side_whole x.problem.signature x.names f (row_fit before (legal_front js before after e g) (fit_front js before after e a) strict f w))
    name_fit js g a _ (of_other_side _ before after strict f e w) =
        as_name (other_side Int x.names f) (other_side_whole x.problem.signature x.names f (row_fit before (legal_front js before after e g) (fit_front js before after e a) strict f w))

    pub possible_fit : (js : List Line) → AreLegal x bound [] js → AllByRecursion (IsFit x) js → (c : Clause) → IsPossible x js c → IsLowestClause c
    possible_fit js g a c (given _ _ (inl b)) = brought_fit x lowest js a c b
    possible_fit js g a c (given _ _ (inr h)) = λ l i. all_contained (λ (m : Lit). IsLowest m.formula) c l (all_contained (IsFit x) js (line.Learn c) a h) i
    possible_fit js g a c (row_of _ f r _ p e) = row_lowest f (formula_fit js g a f p) r c e
    possible_fit js g a c (choice_of _ t _ p e) = choice_lowest x.problem.signature t (name_fit js g a t p).0 c e
    possible_fit js g a c (order_of _ s t _ p q e) = order_lowest x.problem.signature s t (name_fit js g a s p).0 (name_fit js g a t q).0 c e
    possible_fit js g a c (fresh_of _ f _ p e) = fresh_lowest f (x.fresh f) (formula_fit js g a f p) c e

    pub stand_fit : (js : List Line) → AreLegal x bound [] js → AllByRecursion (IsFit x) js → (l : Lit) → MayStand x js l → IsLowest l.formula
    stand_fit js g a l (decided _ _ h) = all_contained (IsFit x) js (line.Decide l) a (decided_on_line js l h)
    stand_fit js g a l (reached _ c _ p i f) = possible_fit js g a c p l i

    pub row_fit : (js : List Line) → AreLegal x bound [] js → AllByRecursion (IsFit x) js → (strict : Bool) (f : Lin) → IsWholeRow x js strict f → IsOfInts f
    row_fit js g a strict f (of_inequality _ l s t _ _ m e o n v) =
        int_row f n (inequality_row js a l s t strict f (stand_fit js g a l m) (literal_sorts js g l s t strict m e) e o v)
    row_fit js g a strict f (of_combine _ before after _ _ e only some whole) = line_row f (combine_fit js before after strict f e a) whole
    row_fit js g a _ f (of_rounding _ strict h _ w r n) =
        (n, divided_keys (λ k. (t : Term) → slice_get x.names k ≡ Some t → IsWholeTerm x.problem.signature t) r.divisor h.parts f.parts r.divided (row_fit js g a strict h w).1)
