-- What the lines of a block state, one line after another.
use Rattle.std.specs.Prelude.{ℕ, suc, ℤ, ◌+◌, ◌<◌, ◌≤◌, Bool, true, false, ◌&&◌, List, [], ◌∷◌, ◌++◌, ◌≡◌, length, take, drop, get_or, Option, Some, None, Result, Ok, Err, IfOk, IfErr, IsTrue, ◌↔◌}
use Rattle.std.specs.List.{list_all}
use Rattle.std.proofs.Common.{inl, inr, ⊎_elim, drop-cons, add-one}
use Rattle.std.proofs.lemmas.List.{take_more, take_all, drop_all}
use Rattle.std.proofs.lemmas.Bool.{and_left, and_right}
use mathlib.Core.Path.{refl, sym, ap, ◌∙◌, subst}
use Rattle.ae_num.specs.Forms.{Step, first_wide, IfWide}
use Rattle.ae_num.specs.declared.numbers.NumFail.{NumFail}
use Rattle.ae_num.specs.declared.numbers.NumFail.TheVariants.{Wide as WideFail, Memory}
use Rattle.ae_num.specs.declared.numbers.Wide.{Wide}
use Rattle.ae_base.specs.Options.{◌>>=◌, when}
use Rattle.ae_core.specs.Sorts.{sort_of, same_known, same_numeric}
use Rattle.ae_rules.specs.Lines.{Fact, fact_ok, states, equal, at_most, below}
use Rattle.ae_core.specs.declared.terms.Sort.{Sort}
use Rattle.ae_core.specs.declared.formulas.Lit.{Lit}
use Rattle.ae_core.specs.declared.problems.Signature.{Signature}
use Rattle.ae_core.specs.declared.proofs.EqLine.{EqLine}
use Rattle.ae_core.specs.declared.proofs.EqLine.TheVariants.{EqLin, LeSum, LtSum, LeRound}
use Rattle.ae_core.specs.declared.proofs.Ending.{Ending}
use Rattle.ae_core.specs.declared.proofs.Scaled.{Scaled}
use Rattle.ae_numeric.specs.Stated.{line_steps, ending_steps, facts_at, fact_at, steps_of, of_one_sort, is_equation, is_inequality, Computation, sum_steps, sum_line_steps, round_steps, forward, backward}
use Rattle.ae_calc.specs.Reached.{Fit, IsLineAllowed, BlockReaches}

-- ---- a line whose terms aren't of one sort states nothing
unknown : (a b : Option Sort) → same_known a b ≡ false → same_numeric a b ≡ false
unknown (Some s) (Some t) e = and_left (same_known (Some s) (Some t)) _ e
unknown (Some s) None e = refl
unknown None b e = refl

no_steps : {A : Type 0} (o : Option A) (test : A → Bool) (steps : A → List Step) → ((x : A) → test x ≡ false) → steps_of (o >>= λ x. when (test x) x) steps ≡ []
no_steps (Some x) test steps n = ap (λ h. steps_of (when h x) steps) (n x)
no_steps None test steps n = refl

module _ (sig : Signature) where
  abbrev OfTwoSorts : Fact → Type 0
  OfTwoSorts f = same_numeric (sort_of sig f.left) (sort_of sig f.right) ≡ false

  of_two_sorts : (f g : Fact) → OfTwoSorts f → of_one_sort sig f g ≡ false
  of_two_sorts f g e =
      and_left (same_numeric (sort_of sig f.left) (sort_of sig f.right) && same_numeric (sort_of sig f.left) (sort_of sig g.left)) (same_numeric (sort_of sig f.left) (sort_of sig g.right))
      (and_left (same_numeric (sort_of sig f.left) (sort_of sig f.right)) (same_numeric (sort_of sig f.left) (sort_of sig g.left)) e)

  no_sum : (earlier : List EqLine) (fits : Fact → Bool) (gap : Fact → Computation) (d : ℤ) (f : Fact) (ps : List Scaled) → OfTwoSorts f → sum_line_steps sig earlier fits gap d f ps ≡ []
  no_sum earlier fits gap d f ps e =
      no_steps (facts_at earlier ps) (λ fs. list_all (λ g. fits g.1) fs && of_one_sort sig f f && list_all (λ g. of_one_sort sig f g.1) fs) (sum_steps gap d f)
      (λ fs. and_left (list_all (λ g. fits g.1) fs && of_one_sort sig f f) (list_all (λ g. of_one_sort sig f g.1) fs)
      (and_right (list_all (λ g. fits g.1) fs) (of_one_sort sig f f) (of_two_sorts f f e)))

  nothing : (earlier : List EqLine) (l : EqLine) → fact_ok sig (states l) ≡ false → line_steps sig earlier l ≡ []
  nothing earlier (EqLin s t d ps) e = no_sum earlier is_equation forward d (equal s t) ps (unknown (sort_of sig s) (sort_of sig t) e)
  nothing earlier (LeSum s t d ps) e = no_sum earlier (λ f. true) backward d (at_most s t) ps e
  nothing earlier (LtSum s t d ps) e = no_sum earlier (λ f. true) backward d (below s t) ps e
  nothing earlier (LeRound s t k) e =
      no_steps (fact_at earlier k) (λ f. is_inequality f && of_one_sort sig (at_most s t) f) (λ f. round_steps f (at_most s t))
      (λ f. and_right (is_inequality f) (of_one_sort sig (at_most s t) f) (of_two_sorts (at_most s t) f e))
  nothing earlier l e = refl

  pub unsorted_fits : (earlier : List EqLine) (l : EqLine) → fact_ok sig (states l) ≡ false → first_wide (line_steps sig earlier l) ≡ None
  unsorted_fits earlier l e = ap first_wide (nothing earlier l e)

-- what a failure says, by what it says of the operands
pub if_wide : (f : NumFail) (P Q : Wide → Type 0) → ((w : Wide) → P w → Q w) → IfWide f P → IfWide f Q
if_wide (WideFail w) P Q h p = h w p
if_wide (Memory m) P Q h p = tt

pub err_then : {T : Type 0} (r : Result T NumFail) (P Q : Wide → Type 0) → ((w : Wide) → P w → Q w) → IfErr r (λ f. IfWide f P) → IfErr r (λ f. IfWide f Q)
err_then (Ok x) P Q h p = tt
err_then (Err f) P Q h p = if_wide f P Q h p

-- a fact that is known beside what a test decides
pub and_known : {E : Type 0} (r : Result Bool E) (A B : Type 0) → A → IfOk r (λ b. IsTrue b ↔ B) → IfOk r (λ b. IsTrue b ↔ (A × B))
and_known (Ok b) A B a h = (λ t. (a, h.0 t), λ p. h.1 p.1)
and_known (Err e) A B a h = tt

-- ---- one step along the lines
module _ (sig : Signature) (hyps : List Lit) (e : Ending) (ls : List EqLine) (i : ℕ) where
  abbrev Here : List Step → Type 0
  Here = BlockReaches sig hyps e (take i ls) (drop i ls)

  abbrev Next : List Step → Type 0
  Next = BlockReaches sig hyps e (take (i + 1) ls) (drop (i + 1) ls)

  module _ (d : EqLine) (b : i < length ls) where
    abbrev Split : List Step → Type 0
    Split = BlockReaches sig hyps e (take i ls) (get_or ls i d ∷ drop (suc i) ls)

    abbrev Rest : List Step → Type 0
    Rest = BlockReaches sig hyps e (take i ls ++ get_or ls i d ∷ []) (drop (suc i) ls)

    split : ◌≡◌ {A = List Step → Type 0} Split Here
    split = ap (λ z. BlockReaches sig hyps e (take i ls) z) (sym (drop-cons ls i d b))

    rest : ◌≡◌ {A = List Step → Type 0} Next Rest
    rest = ap (λ k. BlockReaches sig hyps e (take (i + 1) ls) (drop k ls)) (add-one i) ∙ ap (λ z. BlockReaches sig hyps e z (drop (suc i) ls)) (take_more ls i d b)

    fit_split : first_wide (line_steps sig (take i ls) (get_or ls i d)) ≡ None → (IsLineAllowed sig hyps (take i ls) (get_or ls i d) → Fit Rest) → Fit Split
    fit_split f n = record { each = λ ss r. ⊎_elim (λ s. ap first_wide s ∙ f) (λ x. (n x.0).each ss x.2) r }

    -- the line states nothing that leaves the limits, nor do those after it where it is allowed
    pub fit_more : first_wide (line_steps sig (take i ls) (get_or ls i d)) ≡ None → (IsLineAllowed sig hyps (take i ls) (get_or ls i d) → Fit Next) → Fit Here
    fit_more f n = subst Fit split (fit_split f (λ a. subst Fit rest (n a)))

    -- what is reached after a line that is allowed
    pub reach_more : (ss : List Step) → first_wide (line_steps sig (take i ls) (get_or ls i d)) ≡ None → IsLineAllowed sig hyps (take i ls) (get_or ls i d) → Next ss → Here ss
    reach_more ss f a r = subst (λ (R : List Step → Type 0). R ss) split (inr (a, f, subst (λ (R : List Step → Type 0). R ss) rest r))

    -- the line itself
    pub reach_here : Here (line_steps sig (take i ls) (get_or ls i d))
    reach_here = subst (λ (R : List Step → Type 0). R (line_steps sig (take i ls) (get_or ls i d))) split (inl refl)

  -- behind the last line
  pub reach_end : length ls ≤ i → Here (ending_steps sig ls e)
  reach_end b =
      subst (λ z. BlockReaches sig hyps e (take i ls) z (ending_steps sig ls e)) (sym (drop_all i ls b)) (ap (λ z. ending_steps sig z e) (sym (take_all i ls b)))

  pub fit_end : length ls ≤ i → first_wide (ending_steps sig ls e) ≡ None → Fit Here
  fit_end b f =
      subst (λ z. Fit (BlockReaches sig hyps e (take i ls) z)) (sym (drop_all i ls b))
      (record { each = λ ss r. ap first_wide (r ∙ ap (λ z. ending_steps sig z e) (take_all i ls b)) ∙ f })
