-- What instances that were made say is true at an open state, where their owners are there.
use Rattle.std.specs.Prelude.{ℕ, Bool, true, false, List, [], ◌∷◌, ◌≡◌, map, Option, Some, None}
use Rattle.std.specs.List.{AllByRecursion, Contains}
use Rattle.std.proofs.Common.{refl, sym, ap, ◌∙◌, subst, inl, inr}
use Rattle.std.proofs.lemmas.Option.{same_Some}
use Rattle.ae_base.proofs.ListFacts.{cons_head}
use Rattle.ae_base.proofs.Options.{bind_some, never_some, only_some, when_some}
use Rattle.ae_base.proofs.Tests.{false_true}
use Rattle.ae_core.specs.Putting.{put_formula}
use Rattle.ae_core.specs.declared.formulas.Formula.{Formula, Formula-F, out-Formula, roll-Formula, roll-out-Formula}
use Rattle.ae_core.specs.declared.formulas.Formula.TheOpen as layer
use Rattle.ae_core.specs.declared.formulas.Formula.TheVariants.{rolls-All, rolls-Ex}
use Rattle.ae_core.specs.declared.formulas.Lit.{Lit}
use Rattle.ae_core.specs.declared.formulas.Quant.{Quant}
use Rattle.ae_core.specs.declared.problems.Signature.{Signature}
use Rattle.ae_core.specs.declared.proofs.ClauseLine.TheVariants as clause_line
use Rattle.ae_core.specs.declared.terms.Sort.{Sort}
use Rattle.ae_core.specs.declared.terms.Term.{Term}
use Rattle.ae_explain.specs.Trail.{Apart}
use Rattle.ae_explain.specs.declared.trail.Assigned.{Assigned}
use Rattle.ae_journal.proofs.Splits.{contains_cases, contains_one}
use Rattle.ae_journal.specs.InstanceLines.{IsInstance, of_type, of_terms, of_axiom_terms}
use Rattle.ae_journal.specs.Standing.{Setting, IsGiven, by_type_instance, by_term_instance}
use Rattle.ae_journal.specs.States as states
use Rattle.ae_journal.specs.declared.lines.Line.{Line}
use Rattle.ae_journal.specs.declared.lines.Line.TheVariants as line
use Rattle.ae_open_states.proofs.Trails.{all_of_each, place_of, stands_so}
use Rattle.ae_open_states.specs.Shown.{trail_literals}
use Rattle.ae_owed.specs.Instances.{Instance as NotedInstance, brought}
use Rattle.ae_owed.specs.Owed.{OwnerIsThere}
use Rattle.ae_owed.specs.Recorded.{HasLines}
use Rattle.ae_propagation.proofs.Trails.{consistent}
use Rattle.ae_propagation.specs.Settled.{HasTrue, Holds}
use Rattle.ae_rules.proofs.ClauseLaws.{literal_all, literal_ex}
use Rattle.ae_rules.specs.Clauses.{Clause, literal, yes_of, no_of, is_true, is_false}
use Rattle.ae_rules.specs.Derivations.{clause_of, conclusion, line_ok}
use Rattle.ae_rules.specs.Instances.{hypothesis, have_sorts, instance_clause}

abbrev signed : List (Bool × Formula) → List Lit
signed es = map (λ (e : Bool × Formula). literal e.0 e.1) es

abbrev body_of : Bool → List Term → Option Quant → List (Bool × Formula)
body_of sign ts o = elim o as (λ _. List (Bool × Formula)) [ Some q ↦ (sign, put_formula ts q.body) ∷ [] | None ↦ [] ]

abbrev formula_of : List Term → Option Formula → List (Bool × Formula)
formula_of ts o = elim o as (λ _. List (Bool × Formula)) [ Some f ↦ states.axiom_instances ts f (out-Formula f) | None ↦ [] ]

-- a block's literal is the block itself
all_itself : (f : Formula) (q : Quant) → out-Formula f ≡ layer.All q → yes_of f ≡ is_true f
all_itself f q o = subst (λ (z : Formula). yes_of z ≡ is_true z) (sym (rolls-All q) ∙ ap roll-Formula (sym o) ∙ roll-out-Formula f) (literal_all true q)

ex_itself : (f : Formula) (q : Quant) → out-Formula f ≡ layer.Ex q → yes_of f ≡ is_true f
ex_itself f q o = subst (λ (z : Formula). yes_of z ≡ is_true z) (sym (rolls-Ex q) ∙ ap roll-Formula (sym o) ∙ roll-out-Formula f) (literal_ex true q)

module _ (sig : Signature) (t : List Assigned) (apart : Apart t) where
  -- the one literal of a clause that is true, and the second where the first isn't
  only_one : (a : Lit) → HasTrue t (a ∷ []) → Holds t a
  only_one a h = subst (Holds t) (sym (contains_one a h.0 h.1)) h.2

  second : (a b : Lit) → HasTrue t (a ∷ b ∷ []) → ¬ Holds t a → Holds t b
  second a b h n = elim (contains_cases a (b ∷ []) h.0 h.1) as (λ _. Holds t b) [
    | inl e ↦ absurd (n (subst (Holds t) (sym e) h.2))
    | inr r ↦ subst (Holds t) (sym (contains_one b h.0 r)) h.2
  ]

  not_false : (f : Formula) → Holds t (is_true f) → ¬ Holds t (is_false f)
  not_false f h k = consistent t apart (is_true f) h k

  not_true : (f : Formula) → Holds t (is_false f) → ¬ Holds t (is_true f)
  not_true f h k = consistent t apart (is_false f) h k

  -- ---- of a universal literal
  body_stands : (sign : Bool) (f : Formula) (ts : List Term) (c : Clause) → HasTrue t c → Holds t (record { positive = sign; formula = f }) → (y : Formula-F Formula Quant) → states.is_universal_by sign y ≡ true
      → instance_clause sig f ts y ≡ Some c → (l : Lit) → Contains (signed (body_of sign ts (states.quant_of y))) l → Holds t l
  body_stands true f ts c h m (layer.All q) u e l i =
      let w = when_some (have_sorts sig ts q.sorts) (is_false f ∷ yes_of (put_formula ts q.body) ∷ []) c e in
      subst (Holds t) (contains_one (yes_of (put_formula ts q.body)) l i) (second (is_false f) (yes_of (put_formula ts q.body)) (subst (HasTrue t) (sym w.1) h) (not_false f m))
  body_stands false f ts c h m (layer.All q) u e l i = false_true u
  body_stands true f ts c h m (layer.Ex q) u e l i = false_true u
  body_stands false f ts c h m (layer.Ex q) u e l i =
      let w = when_some (have_sorts sig ts q.sorts) (is_true f ∷ no_of (put_formula ts q.body) ∷ []) c e in
      subst (Holds t) (contains_one (no_of (put_formula ts q.body)) l i) (second (is_true f) (no_of (put_formula ts q.body)) (subst (HasTrue t) (sym w.1) h) (not_true f m))
  body_stands sign f ts c h m layer.True u e l i = false_true u
  body_stands sign f ts c h m layer.False u e l i = false_true u
  body_stands sign f ts c h m (layer.Eq a b) u e l i = false_true u
  body_stands sign f ts c h m (layer.Lt a b) u e l i = false_true u
  body_stands sign f ts c h m (layer.Le a b) u e l i = false_true u
  body_stands sign f ts c h m (layer.Pred p ss us) u e l i = false_true u
  body_stands sign f ts c h m (layer.Not a) u e l i = false_true u
  body_stands sign f ts c h m (layer.And a b) u e l i = false_true u
  body_stands sign f ts c h m (layer.Or a b) u e l i = false_true u
  body_stands sign f ts c h m (layer.Xor a b) u e l i = false_true u
  body_stands sign f ts c h m (layer.Iff a b) u e l i = false_true u

  -- ---- of an axiom
  only_first : (f0 f : Formula) → Holds t (yes_of f) → yes_of f0 ≡ yes_of f → (l : Lit) → Contains (yes_of f0 ∷ []) l → Holds t l
  only_first f0 f m one l i = subst (Holds t) (sym one ∙ contains_one (yes_of f0) l i) m

  -- the body of a block, where the line is of the same block
  same_body : (f0 f : Formula) (ts : List Term) (c : Clause) → HasTrue t c → Holds t (yes_of f) → yes_of f0 ≡ yes_of f → (q : Quant) → out-Formula f0 ≡ layer.All q → (z : Formula-F Formula Quant) → out-Formula f ≡ z
      → instance_clause sig f ts z ≡ Some c → Holds t (yes_of (put_formula ts q.body))
  same_body f0 f ts c h m one q o (layer.All r) z e =
      let w = when_some (have_sorts sig ts r.sorts) (is_false f ∷ yes_of (put_formula ts r.body) ∷ []) c e in
      let same : f0 ≡ f = ap (λ (l : Lit). l.formula) (sym (all_itself f0 q o) ∙ one ∙ all_itself f r z) in
      let blocks : r ≡ q = same_Some r q (ap states.quant_of (sym z) ∙ ap (λ (k : Formula). states.quant_of (out-Formula k)) (sym same) ∙ ap states.quant_of o) in
      subst (λ (k : Quant). Holds t (yes_of (put_formula ts k.body))) blocks
      (second (is_false f) (yes_of (put_formula ts r.body)) (subst (HasTrue t) (sym w.1) h) (not_false f (subst (Holds t) (all_itself f r z) m)))
  same_body f0 f ts c h m one q o (layer.Ex r) z e =
      let same : f0 ≡ f = ap (λ (l : Lit). l.formula) (sym (all_itself f0 q o) ∙ one ∙ ex_itself f r z) in
      absurd (never_both (sym o ∙ ap out-Formula same ∙ z))
    where
      never_both : ◌≡◌ {A = Formula-F Formula Quant} (layer.All q) (layer.Ex r) → ⊥
      never_both k = cc
  same_body f0 f ts c h m one q o layer.True z e = never_some c e
  same_body f0 f ts c h m one q o layer.False z e = never_some c e
  same_body f0 f ts c h m one q o (layer.Eq a b) z e = never_some c e
  same_body f0 f ts c h m one q o (layer.Lt a b) z e = never_some c e
  same_body f0 f ts c h m one q o (layer.Le a b) z e = never_some c e
  same_body f0 f ts c h m one q o (layer.Pred p ss us) z e = never_some c e
  same_body f0 f ts c h m one q o (layer.Not a) z e = never_some c e
  same_body f0 f ts c h m one q o (layer.And a b) z e = never_some c e
  same_body f0 f ts c h m one q o (layer.Or a b) z e = never_some c e
  same_body f0 f ts c h m one q o (layer.Xor a b) z e = never_some c e
  same_body f0 f ts c h m one q o (layer.Iff a b) z e = never_some c e

  axiom_body : (f0 f : Formula) (ts : List Term) (c : Clause) → HasTrue t c → Holds t (yes_of f) → yes_of f0 ≡ yes_of f → (y : Formula-F Formula Quant) → out-Formula f0 ≡ y
      → instance_clause sig f ts (out-Formula f) ≡ Some c → (l : Lit) → Contains (signed (states.axiom_instances ts f0 y)) l → Holds t l
  axiom_body f0 f ts c h m one (layer.All q) o e l i = elim (contains_cases (yes_of f0) (yes_of (put_formula ts q.body) ∷ []) l i) as (λ _. Holds t l) [
    | inl s ↦ subst (Holds t) (sym one ∙ s) m
    | inr r ↦ subst (Holds t) (contains_one (yes_of (put_formula ts q.body)) l r) (same_body f0 f ts c h m one q o (out-Formula f) refl e)
  ]
  axiom_body f0 f ts c h m one (layer.Ex q) o e l i = only_first f0 f m one l i
  axiom_body f0 f ts c h m one layer.True o e l i = only_first f0 f m one l i
  axiom_body f0 f ts c h m one layer.False o e l i = only_first f0 f m one l i
  axiom_body f0 f ts c h m one (layer.Eq a b) o e l i = only_first f0 f m one l i
  axiom_body f0 f ts c h m one (layer.Lt a b) o e l i = only_first f0 f m one l i
  axiom_body f0 f ts c h m one (layer.Le a b) o e l i = only_first f0 f m one l i
  axiom_body f0 f ts c h m one (layer.Pred p ss us) o e l i = only_first f0 f m one l i
  axiom_body f0 f ts c h m one (layer.Not a) o e l i = only_first f0 f m one l i
  axiom_body f0 f ts c h m one (layer.And a b) o e l i = only_first f0 f m one l i
  axiom_body f0 f ts c h m one (layer.Or a b) o e l i = only_first f0 f m one l i
  axiom_body f0 f ts c h m one (layer.Xor a b) o e l i = only_first f0 f m one l i
  axiom_body f0 f ts c h m one (layer.Iff a b) o e l i = only_first f0 f m one l i

module _ (x : Setting) (js : List Line) (t : List Assigned) (apart : Apart t) (true_of : (c : Clause) → IsGiven x js c → HasTrue t c) where
  abbrev sig : Signature
  sig = x.problem.signature

  abbrev SaidBy : states.Owner → List Sort → List Term → Lit → Type 0
  SaidBy o us ts l = Contains (states.instance_literals x.problem x.goal o us ts) l

  literal_stands : (j : Line) (c : Clause) (us : List Sort) (ts : List Term) (m : Lit) → IsInstance x j c (states.of_literal m) us ts → Contains js j → states.is_universal m ≡ true → Holds t m → (l : Lit)
      → SaidBy (states.of_literal m) us ts l → Holds t l
  literal_stands _ _ _ _ _ (of_terms f ts c sign e) i u h l k =
      body_stands sig t apart sign f ts c (true_of c (inl (by_term_instance f ts c i e))) h (out-Formula f) u
      (only_some (line_ok x.problem x.goal (clause_line.Inst f ts)) (clause_of x.problem x.goal (clause_line.Inst f ts)) c e).1 l k

  -- the formula of an axiom's line
  its_formula : (k : ℕ) (us : List Sort) (c : Clause) → conclusion x.problem x.goal (clause_line.Hyp k us) ≡ Some c → (f : Formula) × (hypothesis x.problem x.goal k us ≡ Some f) × (yes_of f ∷ [] ≡ c)
  its_formula k us c e =
      let s = (only_some (line_ok x.problem x.goal (clause_line.Hyp k us)) (clause_of x.problem x.goal (clause_line.Hyp k us)) c e).1 in
      let b = bind_some (hypothesis x.problem x.goal k us) (λ f. Some (yes_of f ∷ [])) c s in
      (b.0, b.1, same_Some (yes_of b.0 ∷ []) c b.2)

  axiom_stands : (j : Line) (c : Clause) (k : ℕ) (us : List Sort) (ts : List Term) → IsInstance x j c (states.of_axiom k) us ts → Contains js j → Contains js (line.TypeInstance k us) → (l : Lit)
      → SaidBy (states.of_axiom k) us ts l → Contains c l → Holds t l
  axiom_stands _ _ _ _ _ (of_type k ss ts c e) i n l s has =
      let f = its_formula k ss c e in
      let m = only_one sig t apart (yes_of f.0) (subst (HasTrue t) (sym f.2) (true_of c (inl (by_type_instance k ss c i e)))) in
      subst (Holds t) (contains_one (yes_of f.0) l (subst (λ (w : Clause). Contains w l) (sym f.2) has)) m
  axiom_stands _ _ _ _ _ (of_axiom_terms k ss f ts c a e) i n l s has =
      let m = only_one sig t apart (yes_of f) (true_of (yes_of f ∷ []) (inl (by_type_instance k ss (yes_of f ∷ []) n a))) in
      let r = its_formula k ss (yes_of f ∷ []) a in
      axiom_body sig t apart r.0 f ts c (true_of c (inl (by_term_instance f ts c i e))) m (cons_head (yes_of r.0) (yes_of f) [] [] r.2) (out-Formula r.0) refl
      (only_some (line_ok x.problem x.goal (clause_line.Inst f ts)) (clause_of x.problem x.goal (clause_line.Inst f ts)) c e).1 l
      (subst (λ (o : Option Formula). Contains (signed (formula_of ts o)) l) r.1 s)

  -- what an instance says that has lines, and its own line where it is of an axiom
  said_stands : (y : NotedInstance) → HasLines x js y → ((k : ℕ) → y.owner ≡ states.of_axiom k → Contains js (line.TypeInstance k y.sorts))
      → ((m : Lit) → y.owner ≡ states.of_literal m → states.is_universal m ≡ true) → OwnerIsThere (trail_literals t) y.owner → (l : Lit) → Contains (brought x.problem x.goal y) l → Holds t l
  said_stands y lines typed universal there l c = go y.owner refl
    where
      go : (o : states.Owner) → y.owner ≡ o → Holds t l
      go (states.of_literal m) e =
          let b = lines l c in
          literal_stands b.own b.clause y.sorts y.terms m (subst (λ (z : states.Owner). IsInstance x b.own b.clause z y.sorts y.terms) e b.instance) b.noted (universal m e)
          (place_of t m (subst (OwnerIsThere (trail_literals t)) e there)) l (subst (λ (z : states.Owner). SaidBy z y.sorts y.terms l) e c)
      go (states.of_axiom k) e =
          let b = lines l c in
          axiom_stands b.own b.clause k y.sorts y.terms (subst (λ (z : states.Owner). IsInstance x b.own b.clause z y.sorts y.terms) e b.instance) b.noted (typed k e) l
          (subst (λ (z : states.Owner). SaidBy z y.sorts y.terms l) e c) b.has

  pub instances_stand : (y : NotedInstance) → HasLines x js y → ((k : ℕ) → y.owner ≡ states.of_axiom k → Contains js (line.TypeInstance k y.sorts))
      → ((m : Lit) → y.owner ≡ states.of_literal m → states.is_universal m ≡ true) → OwnerIsThere (trail_literals t) y.owner → AllByRecursion (Contains (trail_literals t)) (brought x.problem x.goal y)
  instances_stand y lines typed universal there =
      all_of_each (Contains (trail_literals t)) (brought x.problem x.goal y) (λ l c. stands_so t l (said_stands y lines typed universal there l c))
