-- Journals: the terms of the names, and the lines in the order in which they were noted.
use Rattle.std.specs.Prelude.{ℕ, ◌⊎◌, true, false, cond, IsTrue, nat_eq, pos, List, [], ◌∷◌, ◌++◌, ◌≡◌, map, decimal, codes}
use mathlib.Core.Path.{refl, sym, ap, ◌∙◌, subst}
use mathlib.Core.Logic.{inl, inr}
use mathlib.Core.List.{append_assoc}
use Rattle.std.specs.List.{flat_map}
use Rattle.ae_codes.specs.Codes.{Code, both, mapped, words}
use Rattle.ae_codes.specs.Closers.{by_blank, by_line, closes_one, sizes}
use Rattle.ae_codes.specs.Listings.{listed_text}
use Rattle.ae_codes.specs.Names.{Listed}
use Rattle.ae_codes.specs.Numbers.{Closed, number}
use Rattle.ae_codes.specs.Repeats.{repeated, repeated_first, repeated_spelled}
use Rattle.ae_codes.specs.Rows.{alone, empty}
use Rattle.ae_codes.specs.Tables.{all_apart, table, tagged, tagged_first}
use Rattle.ae_core.specs.declared.formulas.Formula.{True}
use Rattle.ae_core.specs.declared.formulas.Lit.{Lit}
use Rattle.ae_core.specs.declared.problems.Signature.{Signature}
use Rattle.ae_core.specs.declared.terms.Head.TheVariants as head
use Rattle.ae_core.specs.declared.terms.Sort.{Sort}
use Rattle.ae_core.specs.declared.terms.Term.{Term}
use Rattle.ae_journal.specs.declared.lines.Line.{Line}
use Rattle.ae_journal.specs.declared.lines.Line.TheVariants as line
use Rattle.ae_journal.specs.declared.lines.Oriented.TheVariants as oriented
use Rattle.ae_journal.specs.declared.lines.Story.{Story}
use Rattle.ae_num.specs.declared.forms.Lin.{Lin}
use Rattle.ae_num.specs.declared.forms.Value.{Value, Leaf}
use Rattle.ae_prooftext.specs.Clauses.{literals, literals_spelled, sorts, sorts_spelled, number_is_spelled, sure_lit}
use Rattle.ae_prooftext.specs.FormulaTexts.{FormulaEnd, same}
use Rattle.ae_prooftext.specs.Formulas.{formula_is_spelled}
use Rattle.ae_prooftext.specs.Grammar.{is_real, formula_code}
use Rattle.ae_prooftext.specs.Parts.{terms, terms_spelled, formula_blank, number_line, closed_by}
use Rattle.ae_prooftext.specs.Texts.{sort_text, term_text, formula_text, literal_text}
use Rattle.ae_prooftext.specs.Words.{type_names}
use Rattle.ae_stategrammar.specs.Named as named
use Rattle.ae_stategrammar.specs.Numbered.{numbered_texts}
use Rattle.ae_stategrammar.specs.Sections.{NoneOf}
use Rattle.ae_stategrammar.specs.Sides.{SidesOf, sides, sides_spelled}
use Rattle.ae_stategrammar.specs.States.{value_in_line, value_in_line_spelled, lit_in_line, lit_in_line_spelled, term_in_line, name_law, names_are}
use Rattle.ae_stategrammar.specs.StateTexts.{name_line, name_lines, oriented_text, line_text, story_text}
use Rattle.ae_valuetext.specs.Lins.{linear_form, linear_form_spelled}
use Rattle.ae_valuetext.specs.Texts.{lin_text, value_text}

-- ---- the words that lines begin with
abbrev pub decide_word : List ℕ
decide_word = codes "decide "

abbrev pub solve_word : List ℕ
solve_word = codes "solve "

abbrev pub rule_word : List ℕ
rule_word = codes "rule "

abbrev pub drop_solve_word : List ℕ
drop_solve_word = codes "drop solve "

abbrev pub drop_rule_word : List ℕ
drop_rule_word = codes "drop rule "

abbrev pub pair_word : List ℕ
pair_word = codes "pair "

abbrev pub learn_word : List ℕ
learn_word = codes "learn ["

abbrev pub types_word : List ℕ
types_word = codes "instance type "

abbrev pub terms_word : List ℕ
terms_word = codes "instance term "

abbrev pub least_word : List ℕ
least_word = codes "combine ge "

abbrev pub above_word : List ℕ
above_word = codes "combine gt "

abbrev pub back_word : List ℕ
back_word = codes "back "

abbrev pub end_word : List ℕ
end_word = codes "end\n"

abbrev pub more_words : List (List ℕ)
more_words = solve_word ∷ rule_word ∷ drop_solve_word ∷ drop_rule_word ∷ pair_word ∷ learn_word ∷ types_word ∷ terms_word ∷ least_word ∷ above_word ∷ back_word ∷ end_word ∷ []

pub words_apart : IsTrue (all_apart (decide_word ∷ more_words))
words_apart = refl

-- the word that a line begins with; the end of the text counts as one
abbrev pub tag : Line ⊎ Unit {0} → List ℕ
tag (inl (line.Decide x)) = decide_word
tag (inl (line.Orient (oriented.Named n v))) = solve_word
tag (inl (line.Orient (oriented.Rule s l r))) = rule_word
tag (inl (line.Drop (oriented.Named n v))) = drop_solve_word
tag (inl (line.Drop (oriented.Rule s l r))) = drop_rule_word
tag (inl (line.Pair s l r)) = pair_word
tag (inl (line.Learn c)) = learn_word
tag (inl (line.TypeInstance n ss)) = types_word
tag (inl (line.TermInstance g ts)) = terms_word
tag (inl (line.Combine false l)) = least_word
tag (inl (line.Combine true l)) = above_word
tag (inl (line.Back n)) = back_word
tag (inr u) = end_word

-- ---- what stands behind the words
abbrev pub Solved : Type 0
Solved = (n : Closed) × Value

abbrev pub solved : Code Solved
solved = both (number (sizes by_blank)) (λ n. value_in_line)

pub number_ends : (v : Closed) → (number (sizes by_blank)).Fits v → v.1 ≡ 32
unfolding by_blank
number_ends v f = closes_one 32 v.1 (closed_by by_blank v f)

abbrev pub line_end : Code (Unit {0})
line_end = alone tt (10 ∷ [])

abbrev pub open_square : Code (Unit {0})
open_square = alone tt (91 ∷ [])

abbrev pub FormLine : Type 0
FormLine = (l : Lin) × Unit {0}

abbrev pub form_line : Code FormLine
form_line = both linear_form (λ l. line_end)

abbrev pub zero_form : Lin
zero_form = record { den = pos 1; parts = []; constant = pos 0 }

module _ (sig : Signature) where
  abbrev pub no_sides : SidesOf sig
  no_sides = (record { head = head.Void; sorts = [] }, ([], []))

  abbrev pub Learnt : Type 0
  Learnt = (c : List Lit) × Unit {0}

  abbrev pub learnt : Code Learnt
  learnt = both (literals sig (is_real sig)) (λ c. line_end)

  abbrev pub TypesOf : Type 0
  TypesOf = (n : Closed) × ((u : Unit {0}) × ((ss : List Sort) × Unit {0}))

  abbrev pub types_of : Code TypesOf
  types_of = both (number (sizes by_blank)) (λ n. both open_square (λ u. both (sorts sig) (λ ss. line_end)))

  abbrev pub TermsOf : Type 0
  TermsOf = (g : FormulaEnd) × ((u : Unit {0}) × ((ts : List Term) × Unit {0}))

  abbrev pub terms_of : Code TermsOf
  terms_of = both (formula_code sig [] by_blank) (λ g. both open_square (λ u. both (terms sig (is_real sig)) (λ ts. line_end)))

  abbrev pub decide_to : Lit → Line ⊎ Unit {0}
  decide_to v = inl (line.Decide v)

  abbrev pub decide_from : Line ⊎ Unit {0} → Lit
  decide_from (inl (line.Decide x)) = x
  decide_from _ = sure_lit sig (is_real sig)

  abbrev pub solve_to : Solved → Line ⊎ Unit {0}
  solve_to v = inl (line.Orient (oriented.Named v.0.0 v.1))

  abbrev pub solve_from : Line ⊎ Unit {0} → Solved
  solve_from (inl (line.Orient (oriented.Named n v))) = ((n, 32), v)
  solve_from _ = ((0, 32), Leaf 0)

  abbrev pub rule_to : SidesOf sig → Line ⊎ Unit {0}
  rule_to v = inl (line.Orient (oriented.Rule v.0 v.1.0 v.1.1))

  abbrev pub rule_from : Line ⊎ Unit {0} → SidesOf sig
  rule_from (inl (line.Orient (oriented.Rule s l r))) = (s, (l, r))
  rule_from _ = no_sides

  abbrev pub drop_solve_to : Solved → Line ⊎ Unit {0}
  drop_solve_to v = inl (line.Drop (oriented.Named v.0.0 v.1))

  abbrev pub drop_solve_from : Line ⊎ Unit {0} → Solved
  drop_solve_from (inl (line.Drop (oriented.Named n v))) = ((n, 32), v)
  drop_solve_from _ = ((0, 32), Leaf 0)

  abbrev pub drop_rule_to : SidesOf sig → Line ⊎ Unit {0}
  drop_rule_to v = inl (line.Drop (oriented.Rule v.0 v.1.0 v.1.1))

  abbrev pub drop_rule_from : Line ⊎ Unit {0} → SidesOf sig
  drop_rule_from (inl (line.Drop (oriented.Rule s l r))) = (s, (l, r))
  drop_rule_from _ = no_sides

  abbrev pub pair_to : SidesOf sig → Line ⊎ Unit {0}
  pair_to v = inl (line.Pair v.0 v.1.0 v.1.1)

  abbrev pub pair_from : Line ⊎ Unit {0} → SidesOf sig
  pair_from (inl (line.Pair s l r)) = (s, (l, r))
  pair_from _ = no_sides

  abbrev pub learn_to : Learnt → Line ⊎ Unit {0}
  learn_to v = inl (line.Learn v.0)

  abbrev pub learn_from : Line ⊎ Unit {0} → Learnt
  learn_from (inl (line.Learn c)) = (c, tt)
  learn_from _ = ([], tt)

  abbrev pub types_to : TypesOf → Line ⊎ Unit {0}
  types_to v = inl (line.TypeInstance v.0.0 v.1.1.0)

  abbrev pub types_from : Line ⊎ Unit {0} → TypesOf
  types_from (inl (line.TypeInstance n ss)) = ((n, 32), (tt, (ss, tt)))
  types_from _ = ((0, 32), (tt, ([], tt)))

  abbrev pub terms_to : TermsOf → Line ⊎ Unit {0}
  terms_to v = inl (line.TermInstance v.0.0 v.1.1.0)

  abbrev pub terms_from : Line ⊎ Unit {0} → TermsOf
  terms_from (inl (line.TermInstance g ts)) = ((g, 32), (tt, (ts, tt)))
  terms_from _ = ((True, 32), (tt, ([], tt)))

  abbrev pub least_to : FormLine → Line ⊎ Unit {0}
  least_to v = inl (line.Combine false v.0)

  abbrev pub least_from : Line ⊎ Unit {0} → FormLine
  least_from (inl (line.Combine false l)) = (l, tt)
  least_from _ = (zero_form, tt)

  abbrev pub above_to : FormLine → Line ⊎ Unit {0}
  above_to v = inl (line.Combine true v.0)

  abbrev pub above_from : Line ⊎ Unit {0} → FormLine
  above_from (inl (line.Combine true l)) = (l, tt)
  above_from _ = (zero_form, tt)

  abbrev pub back_to : Closed → Line ⊎ Unit {0}
  back_to v = inl (line.Back v.0)

  abbrev pub back_from : Line ⊎ Unit {0} → Closed
  back_from (inl (line.Back n)) = (n, 10)
  back_from _ = (0, 10)

  pub decide_back : (v : Lit) → (lit_in_line sig).Fits v → decide_from (decide_to v) ≡ v
  decide_back v f = refl

  abbrev pub decide_arm : Code (Line ⊎ Unit {0})
  decide_arm = mapped decide_to decide_from (lit_in_line sig) decide_back

  pub decide_law : (a : Line ⊎ Unit {0}) → decide_arm.Fits a → tag a ≡ decide_word
  unfolding mapped
  decide_law a f = sym (ap tag f.1)

  pub solve_back : (v : Solved) → (solved).Fits v → solve_from (solve_to v) ≡ v
  unfolding both
  solve_back v f = let e = number_ends v.0 f.0 in λ i. ((v.0.0, sym e i), v.1)

  abbrev pub solve_arm : Code (Line ⊎ Unit {0})
  solve_arm = mapped solve_to solve_from (solved) solve_back

  pub solve_law : (a : Line ⊎ Unit {0}) → solve_arm.Fits a → tag a ≡ solve_word
  unfolding mapped
  solve_law a f = sym (ap tag f.1)

  pub rule_back : (v : SidesOf sig) → (sides sig).Fits v → rule_from (rule_to v) ≡ v
  rule_back v f = refl

  abbrev pub rule_arm : Code (Line ⊎ Unit {0})
  rule_arm = mapped rule_to rule_from (sides sig) rule_back

  pub rule_law : (a : Line ⊎ Unit {0}) → rule_arm.Fits a → tag a ≡ rule_word
  unfolding mapped
  rule_law a f = sym (ap tag f.1)

  pub drop_solve_back : (v : Solved) → (solved).Fits v → drop_solve_from (drop_solve_to v) ≡ v
  unfolding both
  drop_solve_back v f = let e = number_ends v.0 f.0 in λ i. ((v.0.0, sym e i), v.1)

  abbrev pub drop_solve_arm : Code (Line ⊎ Unit {0})
  drop_solve_arm = mapped drop_solve_to drop_solve_from (solved) drop_solve_back

  pub drop_solve_law : (a : Line ⊎ Unit {0}) → drop_solve_arm.Fits a → tag a ≡ drop_solve_word
  unfolding mapped
  drop_solve_law a f = sym (ap tag f.1)

  pub drop_rule_back : (v : SidesOf sig) → (sides sig).Fits v → drop_rule_from (drop_rule_to v) ≡ v
  drop_rule_back v f = refl

  abbrev pub drop_rule_arm : Code (Line ⊎ Unit {0})
  drop_rule_arm = mapped drop_rule_to drop_rule_from (sides sig) drop_rule_back

  pub drop_rule_law : (a : Line ⊎ Unit {0}) → drop_rule_arm.Fits a → tag a ≡ drop_rule_word
  unfolding mapped
  drop_rule_law a f = sym (ap tag f.1)

  pub pair_back : (v : SidesOf sig) → (sides sig).Fits v → pair_from (pair_to v) ≡ v
  pair_back v f = refl

  abbrev pub pair_arm : Code (Line ⊎ Unit {0})
  pair_arm = mapped pair_to pair_from (sides sig) pair_back

  pub pair_law : (a : Line ⊎ Unit {0}) → pair_arm.Fits a → tag a ≡ pair_word
  unfolding mapped
  pair_law a f = sym (ap tag f.1)

  pub learn_back : (v : Learnt) → (learnt).Fits v → learn_from (learn_to v) ≡ v
  learn_back v f = refl

  abbrev pub learn_arm : Code (Line ⊎ Unit {0})
  learn_arm = mapped learn_to learn_from (learnt) learn_back

  pub learn_law : (a : Line ⊎ Unit {0}) → learn_arm.Fits a → tag a ≡ learn_word
  unfolding mapped
  learn_law a f = sym (ap tag f.1)

  pub types_back : (v : TypesOf) → (types_of).Fits v → types_from (types_to v) ≡ v
  unfolding both
  types_back v f = let e = number_ends v.0 f.0 in λ i. ((v.0.0, sym e i), v.1)

  abbrev pub types_arm : Code (Line ⊎ Unit {0})
  types_arm = mapped types_to types_from (types_of) types_back

  pub types_law : (a : Line ⊎ Unit {0}) → types_arm.Fits a → tag a ≡ types_word
  unfolding mapped
  types_law a f = sym (ap tag f.1)

  pub terms_back : (v : TermsOf) → (terms_of).Fits v → terms_from (terms_to v) ≡ v
  unfolding both
  terms_back v f = let e = formula_blank sig (is_real sig) v.0 f.0 in λ i. ((v.0.0, sym e i), v.1)

  abbrev pub terms_arm : Code (Line ⊎ Unit {0})
  terms_arm = mapped terms_to terms_from (terms_of) terms_back

  pub terms_law : (a : Line ⊎ Unit {0}) → terms_arm.Fits a → tag a ≡ terms_word
  unfolding mapped
  terms_law a f = sym (ap tag f.1)

  pub least_back : (v : FormLine) → (form_line).Fits v → least_from (least_to v) ≡ v
  least_back v f = refl

  abbrev pub least_arm : Code (Line ⊎ Unit {0})
  least_arm = mapped least_to least_from (form_line) least_back

  pub least_law : (a : Line ⊎ Unit {0}) → least_arm.Fits a → tag a ≡ least_word
  unfolding mapped
  least_law a f = sym (ap tag f.1)

  pub above_back : (v : FormLine) → (form_line).Fits v → above_from (above_to v) ≡ v
  above_back v f = refl

  abbrev pub above_arm : Code (Line ⊎ Unit {0})
  above_arm = mapped above_to above_from (form_line) above_back

  pub above_law : (a : Line ⊎ Unit {0}) → above_arm.Fits a → tag a ≡ above_word
  unfolding mapped
  above_law a f = sym (ap tag f.1)

  pub back_back : (v : Closed) → (number (sizes by_line)).Fits v → back_from (back_to v) ≡ v
  back_back v f = let e = number_line sig (is_real sig) v f in λ i. (v.0, sym e i)

  abbrev pub back_arm : Code (Line ⊎ Unit {0})
  back_arm = mapped back_to back_from (number (sizes by_line)) back_back

  pub back_law : (a : Line ⊎ Unit {0}) → back_arm.Fits a → tag a ≡ back_word
  unfolding mapped
  back_law a f = sym (ap tag f.1)

  abbrev pub end_arm : Code (Line ⊎ Unit {0})
  end_arm = empty (inr tt)

  pub end_law : (a : Line ⊎ Unit {0}) → end_arm.Fits a → tag a ≡ end_word
  unfolding empty
  end_law a f = ap tag f

  abbrev pub arms : List ℕ → Code (Line ⊎ Unit {0})
  arms w = cond (same w decide_word) decide_arm (cond (same w solve_word) solve_arm (cond (same w rule_word) rule_arm (cond (same w drop_solve_word) drop_solve_arm (cond (same w drop_rule_word) drop_rule_arm (cond (same w pair_word) pair_arm (cond (same w learn_word) learn_arm (cond (same w types_word) types_arm (cond (same w terms_word) terms_arm (cond (same w least_word) least_arm (cond (same w above_word) above_arm (cond (same w back_word) back_arm (end_arm))))))))))))

  abbrev arm_is : List ℕ → Type 0
  arm_is w = (a : Line ⊎ Unit {0}) → (arms w).Fits a → tag a ≡ w

  pub arm_law : (w : List ℕ) (a : Line ⊎ Unit {0}) → Listed (decide_word ∷ more_words) w → (arms w).Fits a → tag a ≡ w
  arm_law w a (inl e) f = subst arm_is (sym e) decide_law a f
  arm_law w a (inr (inl e)) f = subst arm_is (sym e) solve_law a f
  arm_law w a (inr (inr (inl e))) f = subst arm_is (sym e) rule_law a f
  arm_law w a (inr (inr (inr (inl e)))) f = subst arm_is (sym e) drop_solve_law a f
  arm_law w a (inr (inr (inr (inr (inl e))))) f = subst arm_is (sym e) drop_rule_law a f
  arm_law w a (inr (inr (inr (inr (inr (inl e)))))) f = subst arm_is (sym e) pair_law a f
  arm_law w a (inr (inr (inr (inr (inr (inr (inl e))))))) f = subst arm_is (sym e) learn_law a f
  arm_law w a (inr (inr (inr (inr (inr (inr (inr (inl e)))))))) f = subst arm_is (sym e) types_law a f
  arm_law w a (inr (inr (inr (inr (inr (inr (inr (inr (inl e))))))))) f = subst arm_is (sym e) terms_law a f
  arm_law w a (inr (inr (inr (inr (inr (inr (inr (inr (inr (inl e)))))))))) f = subst arm_is (sym e) least_law a f
  arm_law w a (inr (inr (inr (inr (inr (inr (inr (inr (inr (inr (inl e))))))))))) f = subst arm_is (sym e) above_law a f
  arm_law w a (inr (inr (inr (inr (inr (inr (inr (inr (inr (inr (inr (inl e)))))))))))) f = subst arm_is (sym e) back_law a f
  arm_law w a (inr (inr (inr (inr (inr (inr (inr (inr (inr (inr (inr (inr (inl e))))))))))))) f = subst arm_is (sym e) end_law a f
  arm_law w a (inr (inr (inr (inr (inr (inr (inr (inr (inr (inr (inr (inr (inr e))))))))))))) f = absurd e

  -- a line of a journal with its end, or the end of the text
  unfoldable pub line_code : Code (Line ⊎ Unit {0})
  line_code = tagged decide_word more_words words_apart arms tag arm_law

  pub line_first : (x : Line ⊎ Unit {0}) → line_code.Fits x → (y : ℕ) × (ys : List ℕ) × (line_code.text x ≡ y ∷ ys) × NoneOf (110 ∷ []) y
  unfolding line_code
  line_first = tagged_first (NoneOf (110 ∷ [])) decide_word more_words words_apart arms tag arm_law ((refl, tt), ((refl, tt), ((refl, tt), ((refl, tt), ((refl, tt), ((refl, tt), ((refl, tt), ((refl, tt), ((refl, tt), ((refl, tt), ((refl, tt), ((refl, tt), ((refl, tt), tt)))))))))))))

  pub end_fits : line_code.Fits (inr tt)
  unfolding line_code tagged mapped both table words empty
  end_fits = ((inr (inr (inr (inr (inr (inr (inr (inr (inr (inr (inr (inr (inl refl)))))))))))), refl), refl)

  -- ---- the texts
  solved_spelled : (n : ℕ) (v : Value) → solved.text ((n, 32), v) ≡ decimal n ++ 32 ∷ [] ++ value_text v ++ 10 ∷ []
  unfolding both
  solved_spelled n v =
      ap (λ z. z ++ value_in_line.text v) (number_is_spelled by_blank (n, 32))
      ∙ ap (λ z. (decimal n ++ 32 ∷ []) ++ z) (value_in_line_spelled v)
      ∙ sym (append_assoc (decimal n ++ 32 ∷ []) (value_text v) (10 ∷ []))

  -- a word before such a text
  behind : (w n v : List ℕ) → w ++ (n ++ 32 ∷ [] ++ v ++ 10 ∷ []) ≡ w ++ n ++ 32 ∷ [] ++ v ++ 10 ∷ []
  behind w n v =
      sym (append_assoc w (n ++ 32 ∷ [] ++ v) (10 ∷ []))
      ∙ ap (λ z. z ++ 10 ∷ []) (sym (append_assoc w (n ++ 32 ∷ []) v) ∙ ap (λ z. z ++ v) (sym (append_assoc w n (32 ∷ []))))

  form_spelled : (w : List ℕ) (l : Lin) → linear_form.Fits l → w ++ (linear_form.text l ++ 10 ∷ []) ≡ w ++ lin_text l ++ 10 ∷ []
  form_spelled w l f = ap (λ z. w ++ (z ++ 10 ∷ [])) (linear_form_spelled l f) ∙ sym (append_assoc w (lin_text l) (10 ∷ []))

  -- w a [b] with its end
  listed : (w a b : List ℕ) → w ++ ((a ++ 32 ∷ []) ++ (91 ∷ (b ++ 10 ∷ []))) ≡ w ++ a ++ 32 ∷ 91 ∷ [] ++ b ++ 10 ∷ []
  listed w a b =
      ap (λ z. w ++ z) (append_assoc a (32 ∷ []) (91 ∷ (b ++ 10 ∷ [])) ∙ sym (append_assoc a (32 ∷ 91 ∷ []) (b ++ 10 ∷ [])))
      ∙ sym (append_assoc w (a ++ 32 ∷ 91 ∷ []) (b ++ 10 ∷ []))
      ∙ ap (λ z. z ++ (b ++ 10 ∷ [])) (sym (append_assoc w a (32 ∷ 91 ∷ [])))
      ∙ sym (append_assoc (w ++ a ++ 32 ∷ 91 ∷ []) b (10 ∷ []))

  pub line_spelled : (a : Line) → line_code.Fits (inl a) → line_code.text (inl a) ≡ line_text sig a
  unfolding line_code tagged mapped both table words alone line_text oriented_text
  line_spelled (line.Decide x) f = ap (λ z. decide_word ++ z) (lit_in_line_spelled sig x f.0.1.0) ∙ sym (append_assoc decide_word (literal_text sig x) (10 ∷ []))
  line_spelled (line.Orient (oriented.Named n v)) f = ap (λ z. solve_word ++ z) (solved_spelled n v) ∙ behind solve_word (decimal n) (value_text v)
  line_spelled (line.Orient (oriented.Rule s l r)) f = ap (λ z. rule_word ++ z) (sides_spelled sig (s, (l, r)) f.0.1.0)
  line_spelled (line.Drop (oriented.Named n v)) f = ap (λ z. drop_solve_word ++ z) (solved_spelled n v) ∙ ap (λ z. codes "drop " ++ z) (behind solve_word (decimal n) (value_text v))
  line_spelled (line.Drop (oriented.Rule s l r)) f = ap (λ z. drop_rule_word ++ z) (sides_spelled sig (s, (l, r)) f.0.1.0)
  line_spelled (line.Pair s l r) f = ap (λ z. pair_word ++ z) (sides_spelled sig (s, (l, r)) f.0.1.0)
  line_spelled (line.Learn c) f = ap (λ z. learn_word ++ (z ++ 10 ∷ [])) (literals_spelled sig (is_real sig) c f.0.1.0.0) ∙ sym (append_assoc learn_word (listed_text 93 (map (literal_text sig) c)) (10 ∷ []))
  line_spelled (line.TypeInstance n ss) f =
      ap (λ z. types_word ++ (z ++ (91 ∷ ((sorts sig).text ss ++ 10 ∷ [])))) (number_is_spelled by_blank (n, 32))
      ∙ ap (λ z. types_word ++ ((decimal n ++ 32 ∷ []) ++ (91 ∷ (z ++ 10 ∷ [])))) (sorts_spelled sig ss f.0.1.0.1.1.0)
      ∙ listed types_word (decimal n) (listed_text 93 (map (sort_text (type_names sig)) ss))
  line_spelled (line.TermInstance g ts) f =
      ap (λ z. terms_word ++ (z ++ (91 ∷ ((terms sig (is_real sig)).text ts ++ 10 ∷ [])))) (formula_is_spelled sig (is_real sig) [] by_blank (g, 32))
      ∙ ap (λ z. terms_word ++ ((formula_text sig g ++ 32 ∷ []) ++ (91 ∷ (z ++ 10 ∷ [])))) (terms_spelled sig (is_real sig) ts f.0.1.0.1.1.0)
      ∙ listed terms_word (formula_text sig g) (listed_text 93 (map (term_text sig) ts))
  line_spelled (line.Combine false l) f = form_spelled least_word l f.0.1.0.0
  line_spelled (line.Combine true l) f = form_spelled above_word l f.0.1.0.0
  line_spelled (line.Back n) f = ap (λ z. back_word ++ z) (number_is_spelled by_line (n, 10)) ∙ sym (append_assoc back_word (decimal n) (10 ∷ []))

  last_spelled : (u : Unit {0}) → line_code.Fits (inr u) → line_code.text (inr u) ≡ codes "end\n"
  unfolding line_code tagged mapped both table words empty
  last_spelled u f = refl

  -- ---- the lines behind the names, and whole journals
  abbrev pub Lines : Type 0
  Lines = (ls : List Line) × Unit {0}

  abbrev pub lines : Code Lines
  lines = repeated line_code tt end_fits (NoneOf (110 ∷ [])) line_first

  abbrev pub lines_text : Lines → List ℕ
  lines_text v = flat_map (line_text sig) v.0 ++ codes "end\n"

  pub lines_spelled : (v : Lines) → lines.Fits v → lines.text v ≡ lines_text v
  lines_spelled v f = repeated_spelled line_code tt end_fits (NoneOf (110 ∷ [])) line_first (line_text sig) (λ u. codes "end\n") line_spelled last_spelled v.0 v.1 f

  pub lines_behind : (b : Lines) → lines.Fits b → (y : ℕ) × (ys : List ℕ) × (lines.text b ≡ y ∷ ys) × (nat_eq y 110 ≡ false) × NoneOf [] y
  lines_behind b f = let w = repeated_first line_code tt end_fits (NoneOf (110 ∷ [])) line_first b f in (w.0, w.1, w.2, w.3.0, w.3.1)

  abbrev pub Named : Type 0
  Named = (ts : List Term) × Lines

  abbrev pub names : Code Named
  names = named.lines 110 (97 ∷ 109 ∷ 101 ∷ 32 ∷ []) (term_in_line sig) lines (NoneOf []) tt lines_behind

  pub names_spelled : (v : Named) → names.Fits v → names.text v ≡ numbered_texts (name_line sig) 0 v.0 ++ lines_text v.1
  names_spelled v f = named.lines_spelled 110 (97 ∷ 109 ∷ 101 ∷ 32 ∷ []) (term_in_line sig) lines (NoneOf []) tt lines_behind (name_line sig) lines_text (name_law sig) lines_spelled v.0 v.1 f

  abbrev pub RawStory : Type 0
  RawStory = (u : Unit {0}) × Named

  abbrev pub story_to : RawStory → Story
  story_to v = record { names = v.1.0; lines = v.1.1.0 }

  abbrev pub story_from : Story → RawStory
  story_from s = (tt, (s.names, (s.lines, tt)))

  abbrev pub raw_story : Code RawStory
  raw_story = both (alone {A = Unit {0}} tt (106 ∷ 111 ∷ 117 ∷ 114 ∷ 110 ∷ 97 ∷ 108 ∷ 32 ∷ 49 ∷ 10 ∷ [])) (λ u. names)

  unfoldable pub story : Code Story
  story = mapped story_to story_from raw_story (λ v f. refl)

  pub story_spelled : (s : Story) → story.Fits s → story.text s ≡ story_text sig s
  unfolding story mapped both alone words story_text
  story_spelled s f =
      ap (λ z. codes "journal 1\n" ++ z) (names_spelled (s.names, (s.lines, tt)) f.0.1)
      ∙ ap (λ z. codes "journal 1\n" ++ (z ++ (flat_map (line_text sig) s.lines ++ codes "end\n"))) (names_are sig 0 s.names)
      ∙ sym (append_assoc (codes "journal 1\n") (name_lines sig 0 s.names) (flat_map (line_text sig) s.lines ++ codes "end\n"))
      ∙ sym (append_assoc (codes "journal 1\n" ++ name_lines sig 0 s.names) (flat_map (line_text sig) s.lines) (codes "end\n"))
