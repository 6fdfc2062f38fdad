-- In a legal journal literals that may stand are of its formulas, and rows are of its names.
use Rattle.std.proofs.Common.{◌≡◌, ℕ, zero, suc, ◌<◌, List, [], ◌∷◌, ◌++◌, length, length-append, Bool, sym, ap, subst, arith, inl, inr, ◌⊎◌}
use Rattle.std.proofs.lemmas.List.{append-nil}
use Rattle.std.specs.List.{Contains}
use Rattle.std.proofs.lemmas.List.Elements.{Contains-append_cases, Contains-append_right}
use Rattle.ae_rules.specs.Clauses.{Clause, opposite}
use Rattle.ae_core.specs.declared.formulas.Formula.{Formula}
use Rattle.ae_core.specs.declared.formulas.Lit.{Lit}
use Rattle.ae_journal.specs.declared.lines.Line.{Line}
use Rattle.ae_journal.specs.declared.lines.Line.TheVariants as line
use Rattle.ae_journal.specs.Values.{Sum}
use Rattle.ae_journal.specs.Journals.{before_decision, live_after, live, decisions, IsDecided}
use Rattle.ae_journal.specs.Standing.{Setting, IsFormula, IsPossible, MayStand}
use Rattle.ae_journal.specs.Standing.IsFormula.{of_clause, of_order, of_choice, of_fresh, of_part}
use Rattle.ae_journal.specs.Standing.IsEntered.{of_formula, of_row, of_other_side}
use Rattle.ae_journal.specs.Standing.IsPossible.{given, row_of, choice_of, order_of, fresh_of}
use Rattle.ae_journal.specs.Standing.MayStand.{decided, reached}
use Rattle.ae_journal.specs.SolverLines.{MayDecide, MayLearn}
use Rattle.ae_journal.specs.Rows.{IsRow}
use Rattle.ae_journal.specs.Rows.IsRow.{of_literal, of_line, of_whole}
use Rattle.ae_journal.specs.Legal.{AreLegal}
use Rattle.ae_journal.specs.Laws.{LiteralsAreFormulas, RowsAreOfNames, IsOfNames}
use Rattle.ae_journal.specs.Laws.IsOfNames.{of_values, of_line as of_combine_line, of_sides}
use Rattle.ae_journal.proofs.Splits.{contains_cases, contains_here, contains_later, cut}
use Rattle.ae_journal.proofs.Growing.{formula_more}
use Rattle.ae_journal.proofs.LegalFronts.{front, line_at}
use Rattle.ae_journal.proofs.RowParts.{row_part, inequality_sides}

-- ---- a decision that stands is on a line
here_or_later : (k : Line) (few many : List Line) → ((j : Line) → Contains few j → Contains many j) → (j : Line) → Contains (k ∷ few) j → Contains (k ∷ many) j
here_or_later k few many w j h =
    elim (contains_cases k few j h) [ inl e ↦ subst (Contains (k ∷ many)) e (contains_here k many) | inr r ↦ contains_later k many j (w j r) ]

cut_part : (n : ℕ) (js : List Line) (j : Line) → Contains (before_decision n js) j → Contains js j
cut_part n [] j h = h
cut_part zero (line.Decide l ∷ js) j h = absurd (omega (arith, h.1))
cut_part (suc n) (line.Decide l ∷ js) j h = here_or_later (line.Decide l) (before_decision n js) js (cut_part n js) j h
cut_part zero (line.Orient o ∷ js) j h = here_or_later (line.Orient o) (before_decision zero js) js (cut_part zero js) j h
cut_part (suc n) (line.Orient o ∷ js) j h = here_or_later (line.Orient o) (before_decision (suc n) js) js (cut_part (suc n) js) j h
cut_part zero (line.Drop o ∷ js) j h = here_or_later (line.Drop o) (before_decision zero js) js (cut_part zero js) j h
cut_part (suc n) (line.Drop o ∷ js) j h = here_or_later (line.Drop o) (before_decision (suc n) js) js (cut_part (suc n) js) j h
cut_part zero (line.Pair u a b ∷ js) j h = here_or_later (line.Pair u a b) (before_decision zero js) js (cut_part zero js) j h
cut_part (suc n) (line.Pair u a b ∷ js) j h = here_or_later (line.Pair u a b) (before_decision (suc n) js) js (cut_part (suc n) js) j h
cut_part zero (line.Learn c ∷ js) j h = here_or_later (line.Learn c) (before_decision zero js) js (cut_part zero js) j h
cut_part (suc n) (line.Learn c ∷ js) j h = here_or_later (line.Learn c) (before_decision (suc n) js) js (cut_part (suc n) js) j h
cut_part zero (line.TypeInstance k ss ∷ js) j h = here_or_later (line.TypeInstance k ss) (before_decision zero js) js (cut_part zero js) j h
cut_part (suc n) (line.TypeInstance k ss ∷ js) j h = here_or_later (line.TypeInstance k ss) (before_decision (suc n) js) js (cut_part (suc n) js) j h
cut_part zero (line.TermInstance f ts ∷ js) j h = here_or_later (line.TermInstance f ts) (before_decision zero js) js (cut_part zero js) j h
cut_part (suc n) (line.TermInstance f ts ∷ js) j h = here_or_later (line.TermInstance f ts) (before_decision (suc n) js) js (cut_part (suc n) js) j h
cut_part zero (line.Combine b f ∷ js) j h = here_or_later (line.Combine b f) (before_decision zero js) js (cut_part zero js) j h
cut_part (suc n) (line.Combine b f ∷ js) j h = here_or_later (line.Combine b f) (before_decision (suc n) js) js (cut_part (suc n) js) j h
cut_part zero (line.Back k ∷ js) j h = here_or_later (line.Back k) (before_decision zero js) js (cut_part zero js) j h
cut_part (suc n) (line.Back k ∷ js) j h = here_or_later (line.Back k) (before_decision (suc n) js) js (cut_part (suc n) js) j h

abbrev Comes : List Line → List Line → Line → Type 0
Comes kept js j = Contains kept j ⊎ Contains js j

pushed : (kept : List Line) (k : Line) (js : List Line) (j : Line) → Comes (kept ++ k ∷ []) js j → Comes kept (k ∷ js) j
pushed kept k js j (inr r) = inr (contains_later k js j r)
pushed kept k js j (inl h) =
    elim (Contains-append_cases kept (k ∷ []) j h) [ inl a ↦ inl a | inr b ↦ inr (elim (contains_cases k [] j b) [ inl e ↦ subst (Contains (k ∷ js)) e (contains_here k js) | inr z ↦ absurd (omega (arith, z.1)) ]) ]

live_part : (kept js : List Line) (j : Line) → Contains (live_after kept js) j → Comes kept js j
live_part kept [] j h = inl h
live_part kept (line.Decide l ∷ js) j h = pushed kept (line.Decide l) js j (live_part (kept ++ line.Decide l ∷ []) js j h)
live_part kept (line.Orient o ∷ js) j h = pushed kept (line.Orient o) js j (live_part (kept ++ line.Orient o ∷ []) js j h)
live_part kept (line.Drop o ∷ js) j h = pushed kept (line.Drop o) js j (live_part (kept ++ line.Drop o ∷ []) js j h)
live_part kept (line.Pair u a b ∷ js) j h = pushed kept (line.Pair u a b) js j (live_part (kept ++ line.Pair u a b ∷ []) js j h)
live_part kept (line.Learn c ∷ js) j h = pushed kept (line.Learn c) js j (live_part (kept ++ line.Learn c ∷ []) js j h)
live_part kept (line.TypeInstance k ss ∷ js) j h = pushed kept (line.TypeInstance k ss) js j (live_part (kept ++ line.TypeInstance k ss ∷ []) js j h)
live_part kept (line.TermInstance f ts ∷ js) j h = pushed kept (line.TermInstance f ts) js j (live_part (kept ++ line.TermInstance f ts ∷ []) js j h)
live_part kept (line.Combine b f ∷ js) j h = pushed kept (line.Combine b f) js j (live_part (kept ++ line.Combine b f ∷ []) js j h)
live_part kept (line.Back n ∷ js) j h =
    elim (live_part (before_decision n kept) js j h) [ inl a ↦ inl (cut_part n kept j a) | inr r ↦ inr (contains_later (line.Back n) js j r) ]

on_line : (js : List Line) (l : Lit) → Contains (decisions js) l → Contains js (line.Decide l)
on_line [] l h = absurd (omega (arith, h.1))
on_line (line.Decide m ∷ js) l h =
    elim (contains_cases m (decisions js) l h) [ inl e ↦ subst (λ k. Contains (line.Decide m ∷ js) (line.Decide k)) e (contains_here (line.Decide m) js) | inr r ↦ contains_later (line.Decide m) js (line.Decide l) (on_line js l r) ]
on_line (line.Orient o ∷ js) l h = contains_later (line.Orient o) js (line.Decide l) (on_line js l h)
on_line (line.Drop o ∷ js) l h = contains_later (line.Drop o) js (line.Decide l) (on_line js l h)
on_line (line.Pair u a b ∷ js) l h = contains_later (line.Pair u a b) js (line.Decide l) (on_line js l h)
on_line (line.Learn c ∷ js) l h = contains_later (line.Learn c) js (line.Decide l) (on_line js l h)
on_line (line.TypeInstance k ss ∷ js) l h = contains_later (line.TypeInstance k ss) js (line.Decide l) (on_line js l h)
on_line (line.TermInstance f ts ∷ js) l h = contains_later (line.TermInstance f ts) js (line.Decide l) (on_line js l h)
on_line (line.Combine b f ∷ js) l h = contains_later (line.Combine b f) js (line.Decide l) (on_line js l h)
on_line (line.Back n ∷ js) l h = contains_later (line.Back n) js (line.Decide l) (on_line js l h)

pub decided_on_line : (js : List Line) (l : Lit) → IsDecided js l → Contains js (line.Decide l)
decided_on_line js l h = elim (live_part [] js (line.Decide l) (on_line (live js) l h)) [ inl a ↦ absurd (omega (arith, a.1)) | inr r ↦ r ]

-- ---- formulas
module _ (x : Setting) (bound : ℕ) where
  abbrev Stated : List Line → Clause → Type 0
  Stated js c = (l : Lit) → Contains c l → IsFormula x js l.formula

  possible_formulas : (js : List Line) → ((c : Clause) → Contains js (line.Learn c) → Stated js c) → (c : Clause) → IsPossible x js c → Stated js c
  possible_formulas js learnt _ (given _ c (inl b)) l i = of_clause js c l b i
  possible_formulas js learnt _ (given _ c (inr h)) l i = learnt c h l i
  possible_formulas js learnt _ (row_of _ f r c a e) l i = row_part (IsFormula x js) (of_part js) f a r c e l i
  possible_formulas js learnt _ (choice_of _ t c a e) l i = of_choice js t c l a e i
  possible_formulas js learnt _ (order_of _ s t c a b e) l i = of_order js s t c l a b e i
  possible_formulas js learnt _ (fresh_of _ f c a e) l i = of_fresh js f c l a e i

  abbrev Formulas : ℕ → Type 0
  Formulas n = (js : List Line) → length js < n → AreLegal x bound [] js → (l : Lit) → MayStand x js l → IsFormula x js l.formula

  shorter : (n : ℕ) (js a b : List Line) (k : Line) → js ≡ a ++ k ∷ b → length js < suc n → length a < n
  shorter n js a b k e s = let m = length-append a (k ∷ b) in let h : length js ≡ length (a ++ k ∷ b) = ap (λ (w : List Line). length w) e in omega (arith, m, h, s)

  back_to : (js a b : List Line) (k : Line) → js ≡ a ++ k ∷ b → (f : Formula) → IsFormula x a f → IsFormula x js f
  back_to js a b k e f h = subst (λ (w : List Line). IsFormula x w f) (sym e) (formula_more x a (k ∷ b) f h)

  legal_front : (js a b : List Line) (k : Line) → js ≡ a ++ k ∷ b → AreLegal x bound [] js → AreLegal x bound [] a
  legal_front js a b k e g = front x bound [] a (k ∷ b) (subst (AreLegal x bound []) e g)

  learnt_formulas : (n : ℕ) → Formulas n → (js : List Line) → length js < suc n → AreLegal x bound [] js → (c : Clause) → Contains js (line.Learn c) → Stated js c
  learnt_formulas n rec js s g c h l i =
      let d = cut js (line.Learn c) h in
      let m : MayLearn x d.0 c = line_at x bound [] d.0 d.1 (line.Learn c) (subst (AreLegal x bound []) d.2 g) in
      back_to js d.0 d.1 (line.Learn c) d.2 l.formula
      (rec d.0 (shorter n js d.0 d.1 (line.Learn c) d.2 s) (legal_front js d.0 d.1 (line.Learn c) d.2 g) (opposite l) (m.fails l i))

  formulas : (n : ℕ) → Formulas n
  formulas zero js s g l m = absurd (omega (arith, s))
  formulas (suc n) js s g _ (reached _ c l p h f) = possible_formulas js (learnt_formulas n (formulas n) js s g) c p l h
  formulas (suc n) js s g _ (decided _ l h) =
      let d = cut js (line.Decide l) (decided_on_line js l h) in
      let m : MayDecide x d.0 l = line_at x bound [] d.0 d.1 (line.Decide l) (subst (AreLegal x bound []) d.2 g) in
      let k = shorter n js d.0 d.1 (line.Decide l) d.2 s in
      back_to js d.0 d.1 (line.Decide l) d.2 l.formula
      (possible_formulas d.0 (learnt_formulas n (formulas n) d.0 (omega (arith, k)) (legal_front js d.0 d.1 (line.Decide l) d.2 g)) m.clause m.possible l m.of_it)

  pub literal_formula : (js : List Line) (l : Lit) → AreLegal x bound [] js → MayStand x js l → IsFormula x js l.formula
  literal_formula js l g m = formulas (suc (length js)) js (omega arith) g l m

  -- ---- rows
  row_names : (js : List Line) (strict : Bool) (f : Sum) → AreLegal x bound [] js → IsRow x js strict f → IsOfNames x js strict f
  row_names js strict _ g (of_literal l s t m e) =
      let c = inequality_sides l.formula l.positive s t strict e in
      let f = literal_formula js l g m in
      of_values s t (of_formula js l.formula s f c.0) (of_formula js l.formula t f c.1)
  row_names js strict _ g (of_line before after f e o) =
      of_combine_line f (subst (λ (w : List Line). Contains w (line.Combine strict f)) (sym e) (Contains-append_right before (line.Combine strict f ∷ after) (line.Combine strict f) (contains_here (line.Combine strict f) after)))
  row_names js strict _ g (of_whole f w) = of_sides f (of_row js js [] strict f (sym (append-nil js)) w) (of_other_side js js [] strict f (sym (append-nil js)) w)

pub literals_are_formulas : LiteralsAreFormulas
literals_are_formulas x bound js l g m = literal_formula x bound js l g m

pub rows_are_of_names : RowsAreOfNames
rows_are_of_names x bound js strict f g r = row_names x bound js strict f g r
