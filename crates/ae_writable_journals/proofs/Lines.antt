-- Each line of a legal journal of a lawful problem with numerals in lowest terms can be written.
use Rattle.std.specs.Prelude.{ℕ, ◌≡◌, ◌≢◌, Bool, List, [], ◌∷◌, ◌++◌, map, slice_get, Some}
use Rattle.std.specs.List.{AllByRecursion}
use Rattle.std.specs.List.Sorted.{IsNonDecreasing}
use Rattle.std.proofs.Common.{refl, sym, ap, ◌∙◌, subst, append_assoc, inl, inr}
use Rattle.std.proofs.lemmas.Option.{same_Some}
use native.Mathlib.Decide.{ℕ_discrete}
use Rattle.ae_base.proofs.AllOf.{all_append, all_back, all_from_places, all_push, all_weaker}
use Rattle.ae_base.proofs.Options.{known_some}
use Rattle.ae_core.specs.Signatures.{IsLawfulProblem}
use Rattle.ae_core.specs.Sorts.{sort_of}
use Rattle.ae_core.specs.declared.formulas.Lit.{Lit}
use Rattle.ae_core.specs.declared.problems.AcSymbol.{AcSymbol}
use Rattle.ae_core.specs.declared.terms.Sort.{Sort, Int}
use Rattle.ae_core.specs.declared.terms.Term.{Term}
use Rattle.ae_decide.proofs.NormalValues.{meaning-roll}
use Rattle.ae_evaluation.proofs.Sums.{factor-settled, one_sum, settles}
use Rattle.ae_journal.proofs.LegalFronts.{front, line_at}
use Rattle.ae_journal.proofs.Representatives.{one_leaf}
use Rattle.ae_journal.proofs.Splits.{contains_at}
use Rattle.ae_journal.specs.Legal.{IsLegalLine, AreLegal}
use Rattle.ae_journal.specs.RuleLines.{IsStanding}
use Rattle.ae_journal.specs.Rows.{IsRow, MayCombine, add_sums}
use Rattle.ae_journal.specs.Rows.IsRow.{of_literal, of_line, of_whole}
use Rattle.ae_journal.specs.SolverLines.{Solves, MayOrientName, MayLearn}
use Rattle.ae_journal.specs.SolverLines.Solves.{a_number, a_leaf, other_leaf}
use Rattle.ae_journal.specs.Standing.{Setting, MayEquate, value_now}
use Rattle.ae_journal.specs.Values.{Val, Sum, IsSettled, number, leaf, fields, vals, leaf_factor, minus_val, scale_val, sum_in, meaning, scaled, settled, sum_of_lin, constant_val}
use Rattle.ae_journal.specs.TermValues.{put_leaf, IsLargest}
use Rattle.ae_journal.specs.declared.lines.Line.{Line}
use Rattle.ae_journal.specs.declared.lines.Line.TheVariants as line
use Rattle.ae_journal.specs.declared.lines.Oriented.TheVariants as oriented
use Rattle.ae_legal_stories.proofs.Lasting.{all_live}
use Rattle.ae_math.specs.Forms.{Form, substitute}
use Rattle.ae_math.specs.Fractions.{ℚ, zero_ℚ, one_ℚ, neg_ℚ, ◌+ℚ◌}
use Rattle.ae_name_lines.proofs.Spelled.{val_of, put_val}
use Rattle.ae_num.specs.Forms.{IsNormal, meaning as form_of}
use Rattle.ae_num.specs.declared.forms.Lin.{Lin}
use Rattle.ae_num.specs.declared.forms.Part.{Part}
use Rattle.ae_num.specs.declared.forms.Value.{Value, Value-F, out-Value, roll-Value, roll-out-Value}
use Rattle.ae_num.specs.declared.forms.Value.TheOpen as layer
use Rattle.ae_rules.proofs.Congruence.{conseq_sorted}
use Rattle.ae_rules.specs.Clauses.{opposite}
use Rattle.ae_numerals_kept.specs.Lowest.{IsLowest, IsLowestTerm}
use Rattle.ae_writable.specs.Numbers.{HasLowestNumerals}
use Rattle.ae_writable_journals.proofs.Fit.{IsFit, IsLowestName}
use Rattle.ae_writable_journals.proofs.Generations.{put_terms_fit}
use Rattle.ae_writable_journals.proofs.Leaves.{Over, settled_over, scaled_over, factor_there, over_factors, form_keys, lin_over, solving_leaves}
use Rattle.ae_writable_journals.proofs.Names.{divided_keys, leaf_names, now_over, difference_over, inequality_lowest, literal_sorts, combine_fit, name_fit, possible_fit, stand_fit, row_fit}
use Rattle.ae_writable_journals.proofs.Values.{IsLeafOf, IsOverSort, minus_over}

-- ---- a number that is written is settled
abbrev IsSettledNumber : Val → Type 0
IsSettledNumber v = (f : Sum) → v ≡ number f → IsSettled f.parts

settled_layer : (l : Value-F Value) → IsSettledNumber (meaning (roll-Value l))
settled_layer (layer.Number q) f e =
    let w : ◌≡◌ {A = Val} (number (sum_of_lin q)) (number f) = sym (meaning-roll (layer.Number q)) ∙ e in
    let z : sum_of_lin q ≡ f = cc w in
    subst (λ (g : Sum). IsSettled g.parts) z (settles (form_of q).parts)
settled_layer (layer.Leaf n) f e = let w : ◌≡◌ {A = Val} (leaf n) (number f) = sym (meaning-roll (layer.Leaf n)) ∙ e in absurd (let z : ⊥ = cc w in z)
settled_layer (layer.Fields vs) f e = let w : ◌≡◌ {A = Val} (fields (vals (map meaning vs))) (number f) = sym (meaning-roll (layer.Fields vs)) ∙ e in absurd (let z : ⊥ = cc w in z)

written_settled : (v : Value) → IsSettledNumber (meaning v)
written_settled v = subst (λ (w : Value). IsSettledNumber (meaning w)) (roll-out-Value v) (settled_layer (out-Value v))

module _ (x : Setting) where
  -- ---- what solves a name
  module _ (s : Sort) (n : ℕ) (right : IsLeafOf x.problem.signature x.names s n) where
    abbrev IsOver : Sort → Val → Type 0
    IsOver = IsOverSort x.problem.signature x.names

    -- a leaf has one sort
    same_sort : (o : Sort) → IsLeafOf x.problem.signature x.names o n → o ≡ s
    same_sort o l =
        let same : l.0 ≡ right.0 = one_leaf x.names l.0 right.0 (l.1 ∙ sym right.1) in
        same_Some o s (sym l.3 ∙ ap (sort_of x.problem.signature) same ∙ right.3)

    -- a settled sum that makes a difference zero
    number_over : (o : Sort) (f : Sum) (v w : Val) → IsSettled f.parts → IsOver o v → IsOver o w → IsLargest x.names n (sum_in (minus_val v w)) → leaf_factor f.parts n ≡ zero_ℚ
        → put_leaf n (number f) (minus_val v w) ≡ constant_val zero_ℚ → IsOver s (number f)
    number_over o f v w settled_f p q largest own gone =
        subst (λ (r : Sort). IsOver r (number f)) (same_sort o here)
        (over_factors (IsLeafOf x.problem.signature x.names o) f.parts settled_f (solving_leaves (IsLeafOf x.problem.signature x.names o) difference f n all some own zeros))
      where
        difference : Form ℕ
        difference = record { parts = (sum_in v).parts ++ (sum_in (scale_val (neg_ℚ one_ℚ) w)).parts; constant = (sum_in v).constant +ℚ (sum_in (scale_val (neg_ℚ one_ℚ) w)).constant }

        all : Over (IsLeafOf x.problem.signature x.names o) (settled difference.parts)
        all = minus_over x.problem.signature x.names o v w p q

        some : leaf_factor difference.parts n ≢ zero_ℚ
        some e = largest.1 (factor-settled difference.parts n ∙ e)

        here : IsLeafOf x.problem.signature x.names o n
        here = factor_there (IsLeafOf x.problem.signature x.names o) (settled difference.parts) all n largest.1

        settled_itself : number f ≡ val_of f
        settled_itself = ap number (λ i. record { parts = sym (one_sum (settled f.parts) f.parts (settles f.parts) settled_f (factor-settled f.parts)) i; constant = f.constant })

        put : val_of (substitute ℕ_discrete difference n f) ≡ constant_val zero_ℚ
        put = sym (put_val n f difference) ∙ ap (λ (z : Val). put_leaf n z (val_of difference)) (sym settled_itself) ∙ gone

        zeros : (k : ℕ) → leaf_factor (substitute ℕ_discrete difference n f).parts k ≡ zero_ℚ
        zeros k = sym (factor-settled (substitute ℕ_discrete difference n f).parts k) ∙ ap (λ (z : Val). leaf_factor (sum_in z).parts k) put

    solved_over : (o : Sort) (u v w : Val) → IsSettledNumber u → IsOver o v → IsOver o w → Solves x n u v w → IsOver s u
    solved_over o _ v w h p q (a_number _ f _ _ largest own gone) = number_over o f v w (h f refl) p q largest own gone
    solved_over o _ _ _ h p q (a_leaf m _ l) = subst (λ (r : Sort). IsOver r (leaf m)) (same_sort o q) p
    solved_over o _ _ _ h p q (other_leaf m _ l) = subst (λ (r : Sort). IsOver r (leaf m)) (same_sort o p) q

module _ (x : Setting) (bound : ℕ) (lawful : IsLawfulProblem x.problem) (lowest : HasLowestNumerals x.problem)
    (apart : (m n : ℕ) (t : Term) → slice_get x.names m ≡ Some t → slice_get x.names n ≡ Some t → m ≡ n) where
  -- ---- after fit lines
  module _ (js : List Line) (g : AreLegal x bound [] js) (a : AllByRecursion (IsFit x) js) where
    name_line : (n : ℕ) (v : Value) → MayOrientName x js n v → IsFit x (line.Orient (oriented.Named n v))
    name_line n v m s l =
        let follows = conseq_sorted x.problem.signature (MayEquate x js) m.left m.right m.follows in
        let sort = known_some (sort_of x.problem.signature m.left) follows.0 in
        let one = name_fit x bound lawful lowest apart js g a m.left (m.entered).0 in
        let other = name_fit x bound lawful lowest apart js g a m.right (m.entered).1 in
        solved_over x s n l sort.0 (meaning v) (value_now x js m.left) (value_now x js m.right) (written_settled v)
        (now_over x bound lawful lowest apart js a m.left one.0 sort.0 sort.1) (now_over x bound lawful lowest apart js a m.right other.0 sort.0 (sym follows.1 ∙ sort.1)) m.solves

    -- ---- rows
    leaves_lowest : (o : Sort) (ps : List (ℕ × ℚ)) → Over (IsLeafOf x.problem.signature x.names o) ps → Over (IsLowestName x) ps
    leaves_lowest o ps h = all_weaker (λ (p : ℕ × ℚ). IsLeafOf x.problem.signature x.names o p.0) (λ (p : ℕ × ℚ). IsLowestName x p.0) (λ p l t e. (leaf_names x bound lawful lowest apart o p.0 l t e).0) ps h

    row_lowest : (strict : Bool) (f : Sum) → IsRow x js strict f → Over (IsLowestName x) f.parts
    row_lowest strict _ (of_literal l s t m e) =
        let w = inequality_lowest x bound lawful lowest apart l s t strict (stand_fit x bound lawful lowest apart js g a l m) e in
        let o = literal_sorts x bound lawful lowest apart js g l s t strict m e in
        leaves_lowest o.0 (sum_in (minus_val (value_now x js s) (value_now x js t))).parts (difference_over x bound lawful lowest apart js a s t w.0 w.1 o.0 o.1 o.2)
    row_lowest strict _ (of_line before after f e only) = lin_over (IsLowestName x) f (combine_fit x bound lawful lowest apart js before after strict f e a).1
    row_lowest strict _ (of_whole f w) =
        lin_over (IsLowestName x) f
        (all_weaker (λ (q : Part). (t : Term) → slice_get x.names q.key ≡ Some t → IsLowestTerm t × (sort_of x.problem.signature t ≡ Some Int)) (λ (q : Part). IsLowestName x q.key) (λ q h t e. (h t e).0) f.parts
        (row_fit x bound lawful lowest apart js g a strict f w).1)

    multiples_lowest : (y z : ℚ) (f h : Sum) → Over (IsLowestName x) f.parts → Over (IsLowestName x) h.parts → Over (IsLowestName x) (add_sums y f z h).parts
    multiples_lowest y z f h p q =
        settled_over (IsLowestName x) (scaled y f.parts ++ scaled z h.parts)
        (all_append (λ (r : ℕ × ℚ). IsLowestName x r.0) (scaled y f.parts) (scaled z h.parts) (scaled_over (IsLowestName x) y f.parts p) (scaled_over (IsLowestName x) z h.parts q))

    sum_is : (f : Lin) (c : Sum) → IsNormal f → sum_of_lin f ≡ c → Over (IsLowestName x) c.parts → AllByRecursion (λ (q : Part). IsLowestName x q.key) f.parts
    sum_is f c n e h = form_keys (IsLowestName x) f n (subst (λ (z : Sum). Over (IsLowestName x) z.parts) (sym e) h)

    combine_line : (strict : Bool) (f : Lin) → MayCombine x js strict f → IsFit x (line.Combine strict f)
    combine_line strict f m =
        let c = m.combination in
        let plain : Over (IsLowestName x) (m.plain).parts =
        subst (λ (z : Sum). Over (IsLowestName x) z.parts) (sym c.is)
        (multiples_lowest (neg_ℚ (leaf_factor c.other.parts c.key)) (leaf_factor c.one.parts c.key) c.one c.other (row_lowest c.strict_one c.one c.combined.first) (row_lowest c.strict_other c.other c.combined.second)) in (
          m.normal,
          elim m.is as (λ _. AllByRecursion (λ (q : Part). IsLowestName x q.key) f.parts) [
            | inl e ↦ sum_is f m.plain m.normal e.1 plain
            | inr r ↦ divided_keys (IsLowestName x) (r.4).divisor (r.0).parts f.parts (r.4).divided (sum_is r.0 m.plain r.1 r.2 plain)
          ],
        )

    -- ---- rules
    standing_rises : (u : AcSymbol) (l r : List ℕ) → IsStanding js u l r → IsNonDecreasing l
    standing_rises u l r s = ((all_back (IsFit x) s.before (line.Orient (oriented.Rule u l r) ∷ s.after) (subst (AllByRecursion (IsFit x)) s.is (all_live (IsFit x) [] js tt a))).0).0

    -- ---- each line
    lesson_line : (c : List Lit) → MayLearn x js c → AllByRecursion (λ (l : Lit). IsLowest l.formula) c
    lesson_line c m = all_from_places (λ (l : Lit). IsLowest l.formula) c (λ k l e. stand_fit x bound lawful lowest apart js g a (opposite l) (m.fails l (contains_at c k l e)))

    legal_line : (j : Line) → IsLegalLine x bound js j → IsFit x j
    legal_line (line.Decide l) m = possible_fit x bound lawful lowest apart js g a m.clause m.possible l m.of_it
    legal_line (line.Orient (oriented.Named n v)) m = name_line n v m
    legal_line (line.Orient (oriented.Rule u l r)) m = (m.1, m.2)
    legal_line (line.Drop (oriented.Named n v)) m = absurd m
    legal_line (line.Drop (oriented.Rule u l r)) m = (standing_rises u l (m.0).right (m.0).stands, m.1)
    legal_line (line.Pair u l r) m = (standing_rises u l m.first.0 m.first.1, standing_rises u r m.second.0 m.second.1)
    legal_line (line.Learn c) m = lesson_line c m
    legal_line (line.TypeInstance k ss) m = tt
    legal_line (line.TermInstance f ts) m = let acts = m.acts f ts refl in (stand_fit x bound lawful lowest apart js g a (record { positive = acts.0; formula = f }) acts.1, put_terms_fit x lowest js a bound f ts m)
    legal_line (line.Combine strict f) m = combine_line strict f m
    legal_line (line.Back n) m = tt

  -- ---- the lines one after the other
  lines_fit : (before js : List Line) → AllByRecursion (IsFit x) before → AreLegal x bound [] (before ++ js) → AllByRecursion (IsFit x) js
  lines_fit before [] a g = tt
  lines_fit before (j ∷ js) a g =
      let h = legal_line before (front x bound [] before (j ∷ js) g) a j (line_at x bound [] before js j g) in
      (h, lines_fit (before ++ j ∷ []) js (all_push (IsFit x) before j a h) (subst (AreLegal x bound []) (sym (append_assoc before (j ∷ []) js)) g))

  pub legal_fit : (js : List Line) → AreLegal x bound [] js → AllByRecursion (IsFit x) js
  legal_fit js g = lines_fit [] js tt g
