-- What the lines of a journal bring is kept by more lines, and what stands by more lines but `Back` lines.
use Rattle.std.proofs.Common.{◌≡◌, List, ◌++◌, ◌∙◌, ap, append_assoc, inl, inr}
use Rattle.std.proofs.lemmas.List.Elements.{Contains-append_left}
use Rattle.ae_rules.specs.Clauses.{Clause, opposite}
use Rattle.ae_core.specs.declared.terms.Term.{Term}
use Rattle.ae_core.specs.declared.formulas.Formula.{Formula}
use Rattle.ae_core.specs.declared.formulas.Lit.{Lit}
use Rattle.ae_journal.specs.declared.lines.Line.{Line}
use Rattle.ae_journal.specs.declared.lines.Line.TheVariants as line
use Rattle.ae_journal.specs.Standing.{Setting, IsBrought, IsGiven, IsFormula, IsEntered, IsPossible, MayStand, SurelyStands}
use Rattle.ae_journal.specs.Standing.IsBrought.{by_hypothesis, by_goal, by_type_instance, by_term_instance}
use Rattle.ae_journal.specs.Standing.IsFormula.{of_clause, of_order, of_choice, of_fresh, of_part}
use Rattle.ae_journal.specs.Standing.IsEntered.{of_formula, of_term, of_field, of_row, of_other_side}
use Rattle.ae_journal.specs.Standing.IsPossible.{given, row_of, choice_of, order_of, fresh_of}
use Rattle.ae_journal.specs.Standing.MayStand.{decided, reached}
use Rattle.ae_journal.specs.Standing.SurelyStands.{by_decision, by_given, by_row}
use Rattle.ae_journal.specs.Laws.{NothingIsLost, NoBack, MayStandGrows, SurelyStandsGrows}
use Rattle.ae_journal.proofs.Living.{decided_grows}

pub further : (js before after ls : List Line) → js ≡ before ++ after → js ++ ls ≡ before ++ (after ++ ls)
further js before after ls e = ap (λ (w : List Line). w ++ ls) e ∙ append_assoc before after ls

module _ (x : Setting) where
  pub brought_more : (js ls : List Line) (c : Clause) → IsBrought x js c → IsBrought x (js ++ ls) c
  brought_more js ls _ (by_hypothesis k f e) = by_hypothesis k f e
  brought_more js ls _ (by_goal f e) = by_goal f e
  brought_more js ls _ (by_type_instance k ss c h e) = by_type_instance k ss c (Contains-append_left js ls (line.TypeInstance k ss) h) e
  brought_more js ls _ (by_term_instance f ts c h e) = by_term_instance f ts c (Contains-append_left js ls (line.TermInstance f ts) h) e

  pub given_more : (js ls : List Line) (c : Clause) → IsGiven x js c → IsGiven x (js ++ ls) c
  given_more js ls c (inl b) = inl (brought_more js ls c b)
  given_more js ls c (inr h) = inr (Contains-append_left js ls (line.Learn c) h)

  mutual
    pub formula_more : (js ls : List Line) (f : Formula) → IsFormula x js f → IsFormula x (js ++ ls) f
    formula_more js ls _ (of_clause _ c l b h) = of_clause (js ++ ls) c l (brought_more js ls c b) h
    formula_more js ls _ (of_order _ s t c l a b e h) = of_order (js ++ ls) s t c l (entered_more js ls s a) (entered_more js ls t b) e h
    formula_more js ls _ (of_choice _ t c l a e h) = of_choice (js ++ ls) t c l (entered_more js ls t a) e h
    formula_more js ls _ (of_fresh _ f c l a e h) = of_fresh (js ++ ls) f c l (formula_more js ls f a) e h
    formula_more js ls _ (of_part _ f h a e) = of_part (js ++ ls) f h (formula_more js ls f a) e

    pub entered_more : (js ls : List Line) (t : Term) → IsEntered x js t → IsEntered x (js ++ ls) t
    entered_more js ls _ (of_formula _ f t a h) = of_formula (js ++ ls) f t (formula_more js ls f a) h
    entered_more js ls _ (of_term _ h ss us t a e) = of_term (js ++ ls) h ss us t (entered_more js ls _ a) e
    entered_more js ls _ (of_field _ s ss u t a b c e) = of_field (js ++ ls) s ss u t (entered_more js ls u a) b c e
    entered_more js ls _ (of_row _ before after strict f e m) = of_row (js ++ ls) before (after ++ ls) strict f (further js before after ls e) m
    entered_more js ls _ (of_other_side _ before after strict f e m) = of_other_side (js ++ ls) before (after ++ ls) strict f (further js before after ls e) m

  pub possible_more : (js ls : List Line) (c : Clause) → IsPossible x js c → IsPossible x (js ++ ls) c
  possible_more js ls _ (given _ c h) = given (js ++ ls) c (given_more js ls c h)
  possible_more js ls _ (row_of _ f r c a e) = row_of (js ++ ls) f r c (formula_more js ls f a) e
  possible_more js ls _ (choice_of _ t c a e) = choice_of (js ++ ls) t c (entered_more js ls t a) e
  possible_more js ls _ (order_of _ s t c a b e) = order_of (js ++ ls) s t c (entered_more js ls s a) (entered_more js ls t b) e
  possible_more js ls _ (fresh_of _ f c a e) = fresh_of (js ++ ls) f c (formula_more js ls f a) e

  pub may_more : (js ls : List Line) (l : Lit) → NoBack ls → MayStand x js l → MayStand x (js ++ ls) l
  may_more js ls _ n (decided _ l h) = decided (js ++ ls) l (decided_grows js ls l n h)
  may_more js ls _ n (reached _ c l p h f) = reached (js ++ ls) c l (possible_more js ls c p) h (λ m i d. may_more js ls (opposite m) n (f m i d))

  pub surely_more : (js ls : List Line) (l : Lit) → NoBack ls → SurelyStands x js l → SurelyStands x (js ++ ls) l
  surely_more js ls _ n (by_decision l h) = by_decision l (decided_grows js ls l n h)
  surely_more js ls _ n (by_given c l g h f) = by_given c l (given_more js ls c g) h (λ m i d. surely_more js ls (opposite m) n (f m i d))
  surely_more js ls _ n (by_row w l r c s e o h f) = by_row w l r c (surely_more js ls w n s) e o h (λ m i d. surely_more js ls (opposite m) n (f m i d))

pub nothing_is_lost : NothingIsLost
nothing_is_lost x js ls = record {
  given = given_more x js ls;
  formulas = formula_more x js ls;
  names = entered_more x js ls;
  possible = possible_more x js ls;
}

pub may_stand_grows : MayStandGrows
may_stand_grows = may_more

pub surely_stands_grows : SurelyStandsGrows
surely_stands_grows = surely_more
