-- No formula of the examples' journals is quantified.
use Rattle.std.proofs.Common.{◌≡◌, ℕ, List, [], ◌∷◌, map, nat_lt, false, Bool, Option, Some, sym, ◌∙◌, ap, subst, arith, inl, inr, length, slice_get}
use Rattle.std.specs.List.{Contains}
use Rattle.std.proofs.lemmas.Option.{same_Some}
use Rattle.ae_base.proofs.Tests.{below_zero}
use Rattle.ae_base.specs.Options.{only, ◌>>=◌}
use Rattle.ae_base.proofs.Options.{when_some, bind_some, never_some}
use Rattle.ae_core.specs.declared.terms.Sort.{Sort, out-Sort}
use Rattle.ae_core.specs.declared.terms.Term.{Term, Apply}
use Rattle.ae_core.specs.declared.terms.Head.{Head}
use Rattle.ae_core.specs.declared.formulas.Formula.{Formula, True, Eq, Lt, Le, Not, Or, out-Formula}
use Rattle.ae_core.specs.declared.formulas.Formula.TheVariants.{outs-True, outs-Eq, outs-Lt, outs-Le, outs-Not, outs-Or}
use Rattle.ae_core.specs.declared.formulas.Lit.{Lit}
use Rattle.ae_core.specs.Sorts.{sort_of}
use Rattle.ae_rules.specs.Clauses.{Clause, is_true, no_of}
use Rattle.ae_rules.specs.Instances.{hypothesis, fresh_clause, block_sorts, choices_of, exhaustion, trichotomy}
use Rattle.ae_rules.specs.Derivations.{goal_body}
use Rattle.ae_journal.specs.Standing.{Setting, IsFormula, parts_by, parts_of}
use Rattle.ae_journal.specs.Standing.IsBrought.{by_hypothesis, by_goal, by_type_instance, by_term_instance}
use Rattle.ae_journal.specs.Standing.IsFormula.{of_clause, of_order, of_choice, of_fresh, of_part}
use Rattle.ae_journal.specs.Legal.{HaveOwnConstants}
use Rattle.ae_core.specs.declared.problems.Problem.{Problem}
use Rattle.ae_journal.proofs.RowParts.{literal_part}
use Rattle.ae_journal.proofs.Splits.{contains_one, contains_cases}
use Rattle.ae_journal.specs.declared.lines.Line.{Line}
use Rattle.ae_journal.specs.declared.lines.Line.TheVariants as line

-- nothing is in an empty list, and nothing stands at a place of it
pub nothing : {A : Type 0} (j : A) → ¬ Contains [] j
nothing j h = omega (arith, h.1)

pub no_name : {A : Type 0} {P : Type 0} (n : ℕ) (t : A) → ◌≡◌ {A = Option A} (slice_get [] n) (Some t) → P
no_name n t e = cc

pub data NoBlock : Formula → Type 0 where
  truth : NoBlock True
  equation : (s t : Term) → NoBlock (Eq s t)
  order : (s t : Term) → NoBlock (Lt s t)
  weak_order : (s t : Term) → NoBlock (Le s t)
  negation : (f : Formula) → NoBlock f → NoBlock (Not f)
  either : (f h : Formula) → NoBlock f → NoBlock h → NoBlock (Or f h)

pub no_sorts : (f : Formula) → NoBlock f → block_sorts (out-Formula f) ≡ []
no_sorts _ truth = ap block_sorts outs-True
no_sorts _ (equation s t) = ap block_sorts (outs-Eq s t)
no_sorts _ (order s t) = ap block_sorts (outs-Lt s t)
no_sorts _ (weak_order s t) = ap block_sorts (outs-Le s t)
no_sorts _ (negation f n) = ap block_sorts (outs-Not f)
no_sorts _ (either f h n m) = ap block_sorts (outs-Or f h)

moved : (f h : Formula) (fs : List Formula) → parts_of f ≡ fs → Contains (parts_of f) h → Contains fs h
moved f h fs e i = subst (λ (w : List Formula). Contains w h) e i

pub part : (f h : Formula) → NoBlock f → Contains (parts_of f) h → NoBlock h
part _ h truth i = let c = moved True h [] (ap parts_by outs-True) i in absurd (omega (arith, c.1))
part _ h (equation s t) i = let c = moved (Eq s t) h [] (ap parts_by (outs-Eq s t)) i in absurd (omega (arith, c.1))
part _ h (order s t) i = let c = moved (Lt s t) h [] (ap parts_by (outs-Lt s t)) i in absurd (omega (arith, c.1))
part _ h (weak_order s t) i = let c = moved (Le s t) h [] (ap parts_by (outs-Le s t)) i in absurd (omega (arith, c.1))
part _ h (negation f n) i = subst NoBlock (contains_one f h (moved (Not f) h (f ∷ []) (ap parts_by (outs-Not f)) i)) n
part _ h (either f g n m) i =
    elim (contains_cases f (g ∷ []) h (moved (Or f g) h (f ∷ g ∷ []) (ap parts_by (outs-Or f g)) i)) [ inl e ↦ subst NoBlock e n | inr r ↦ subst NoBlock (contains_one g h r) m ]

pub no_fresh : (f : Formula) (m : ℕ) (c : Clause) → NoBlock f → fresh_clause f m (out-Formula f) ≡ Some c → ⊥
no_fresh _ m c truth e = never_some c (sym (ap (fresh_clause True m) outs-True) ∙ e)
no_fresh _ m c (equation s t) e = never_some c (sym (ap (fresh_clause (Eq s t) m) (outs-Eq s t)) ∙ e)
no_fresh _ m c (order s t) e = never_some c (sym (ap (fresh_clause (Lt s t) m) (outs-Lt s t)) ∙ e)
no_fresh _ m c (weak_order s t) e = never_some c (sym (ap (fresh_clause (Le s t) m) (outs-Le s t)) ∙ e)
no_fresh _ m c (negation f n) e = never_some c (sym (ap (fresh_clause (Not f) m) (outs-Not f)) ∙ e)
no_fresh _ m c (either f h n k) e = never_some c (sym (ap (fresh_clause (Or f h) m) (outs-Or f h)) ∙ e)

pub none_below : {A B : Type 0} (b : Bool) (x : Option A) (f : A → Option B) (y : B) → b ≡ false → only b x >>= f ≡ Some y → ⊥
none_below b x f y e h = never_some y (ap (λ c. only c x >>= f) (sym e) ∙ h)

pub no_hypothesis : (p : Problem) (k : ℕ) (f : Formula) → hypothesis p 0 k [] ≡ Some f → ⊥
no_hypothesis p k f e = none_below (nat_lt k 0) _ _ f (below_zero k) e

-- lines among which there is no instance
abbrev pub NoInstance : List Line → Type 0
NoInstance js = ((k : ℕ) (ss : List Sort) → ¬ Contains js (line.TypeInstance k ss)) × ((f : Formula) (ts : List Term) → ¬ Contains js (line.TermInstance f ts))

-- what enumerations and the order of numbers bring
module _ (p : Problem) where
  pub orders : (s t : Term) (c : Clause) (l : Lit) → trichotomy p.signature s t ≡ Some c → Contains c l → NoBlock l.formula
  orders s t c l e i =
      let w = when_some _ (is_true (Eq s t) ∷ is_true (Lt s t) ∷ is_true (Lt t s) ∷ []) c e in
      elim (contains_cases (is_true (Eq s t)) (is_true (Lt s t) ∷ is_true (Lt t s) ∷ []) l (subst (λ (d : Clause). Contains d l) (sym w.1) i)) [
        | inl e ↦ subst (λ (k : Lit). NoBlock k.formula) e (equation s t)
        | inr r ↦ elim (contains_cases (is_true (Lt s t)) (is_true (Lt t s) ∷ []) l r) [
          | inl e ↦ subst (λ (k : Lit). NoBlock k.formula) e (order s t)
          | inr z ↦ subst (λ (k : Lit). NoBlock k.formula) (contains_one (is_true (Lt t s)) l z) (order t s)
        ]
      ]

  abbrev choice_of : Term → Head → Lit
  choice_of t h = is_true (Eq t (Apply h [] []))

  choices : (t : Term) (hs : List Head) (l : Lit) → Contains (map (choice_of t) hs) l → NoBlock l.formula
  choices t [] l i = absurd (omega (arith, i.1))
  choices t (h ∷ hs) l i =
      elim (contains_cases (choice_of t h) (map (choice_of t) hs) l i) [ inl e ↦ subst (λ (k : Lit). NoBlock k.formula) e (equation t (Apply h [] [])) | inr r ↦ choices t hs l r ]

  pub exhausted : (t : Term) (c : Clause) (l : Lit) → exhaustion p.signature t ≡ Some c → Contains c l → NoBlock l.formula
  exhausted t c l e i =
      let s = bind_some (sort_of p.signature t) (λ s. choices_of p.signature (out-Sort s) >>= λ hs. Some (map (choice_of t) hs)) c e in
      let h = bind_some (choices_of p.signature (out-Sort s.0)) (λ hs. Some (map (choice_of t) hs)) c s.2 in
      choices t h.0 l (subst (λ (d : Clause). Contains d l) (sym (same_Some (map (choice_of t) h.0) c h.2)) i)

-- a problem without hypotheses, with a goal that has no block
module _ (p : Problem) (goals : (f : Formula) → goal_body p 0 ≡ Some f → NoBlock f) (names : List Term) (fresh : Formula → ℕ) where
  abbrev x : Setting
  x = record { problem = p; goal = 0; names = names; fresh = fresh }

  of_goal : (f : Formula) (l : Lit) → goal_body p 0 ≡ Some f → Contains (no_of f ∷ []) l → NoBlock l.formula
  of_goal f l e i = subst (λ (k : Lit). NoBlock k.formula) (contains_one (no_of f) l i) (literal_part NoBlock part f (goals f e) false)

  no_block : (js : List Line) (f : Formula) → NoInstance js → IsFormula x js f → NoBlock f
  no_block js _ q (of_clause _ _ l (by_hypothesis k f e) i) = absurd (no_hypothesis p k f e)
  no_block js _ q (of_clause _ _ l (by_goal f e) i) = of_goal f l e i
  no_block js _ q (of_clause _ _ l (by_type_instance k ss c h e) i) = absurd (q.0 k ss h)
  no_block js _ q (of_clause _ _ l (by_term_instance f ts c h e) i) = absurd (q.1 f ts h)
  no_block js _ q (of_order _ s t c l a b e i) = orders p s t c l e i
  no_block js _ q (of_choice _ t c l a e i) = exhausted p t c l e i
  no_block js _ q (of_fresh _ f c l a e i) = absurd (no_fresh f (fresh f) c (no_block js f q a) e)
  no_block js _ q (of_part _ f h a i) = part f h (no_block js f q a) i

  pub own_constants : (js : List Line) → NoInstance js → HaveOwnConstants x js
  own_constants js q f h i j a b m n e =
      let z : length (block_sorts (out-Formula f)) ≡ 0 = ap (λ (w : List Sort). length w) (no_sorts f (no_block js f q a)) in
      absurd (omega (arith, m, z))
