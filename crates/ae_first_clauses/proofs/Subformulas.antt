-- A search goes on over the goal and formulas without quantifier and inequality, since no formula comes in but parts of those that are there.
use Rattle.std.specs.Prelude.{ℕ, zero, suc, ◌<◌, Bool, true, List, [], ◌∷◌, ◌++◌, ◌≡◌, length, Some}
use Rattle.std.specs.List.{AllByRecursion, Contains}
use Rattle.std.proofs.Common.{refl, sym, ap, ◌∙◌, subst, arith, inl, inr}
use Rattle.std.proofs.lemmas.List.Elements.{Contains-append_left, Contains-append_right, Contains-append_cases}
use Rattle.std.proofs.lemmas.Option.{same_Some}
use Rattle.ae_base.proofs.AllOf.{all_append}
use Rattle.ae_core.specs.Inner.Induction.{by_formulas}
use Rattle.ae_core.specs.Sorts.{formula_ok}
use Rattle.ae_core.specs.declared.formulas.Formula.{Formula, True, False, Eq, Lt, Le, Pred, Not, And, Or, Xor, Iff, All, Ex}
use Rattle.ae_core.specs.declared.formulas.Formula.TheVariants.{outs-True, outs-False, outs-Eq, outs-Lt, outs-Le, outs-Pred, outs-Not, outs-And, outs-Or, outs-Xor, outs-Iff, outs-All, outs-Ex}
use Rattle.ae_core.specs.declared.formulas.Lit.{Lit}
use Rattle.ae_core.specs.declared.formulas.Quant.{Quant}
use Rattle.ae_core.specs.declared.problems.Problem.{Problem}
use Rattle.ae_core.specs.declared.proofs.ClauseLine.{ClauseLine}
use Rattle.ae_rules.specs.Clauses.{Clause, literal, yes_of, no_of, is_true}
use Rattle.ae_rules.specs.Derivations.{goal_body}
use Rattle.ae_rules.specs.Instances.{count_from}
use Rattle.ae_core.specs.Putting.{put_formula}
use Rattle.ae_sat.proofs.Deriving.{clause_sorted, sorted_one}
use Rattle.ae_explain.specs.Trail.{clause}
use Rattle.ae_journal.specs.Ground.{is_simple}
use Rattle.ae_journal.specs.Standing.{parts_by, parts_of}
use Rattle.ae_journal.proofs.RowParts.{literal_part}
use Rattle.ae_journal.proofs.Splits.{contains_here, contains_later, contains_cases, contains_one, all_contained}
use Rattle.ae_reach.specs.Reach.{IsInReach}
use Rattle.ae_reach.proofs.Simple.{simple_part, simple_put, no_part}
use Rattle.ae_reach.proofs.Blocks.{goal_cases, one_block}
use Rattle.ae_evaluation.proofs.Literals.{all_not_simple}
use Rattle.ae_open_states.specs.Finished.{IsGroundOrGoal, ground, the_goal, AreOverGround}
use Rattle.ae_sat.specs.Search.{IsStated, HasParts, AllAmong}
use Rattle.ae_sat.proofs.Closure.{HasAllParts, parts_said}
use Rattle.ae_sat.specs.Standing.{IsOneOf}
use Rattle.ae_first_clauses.specs.First.{IsFirstLine, AreFirst, a_hypothesis, the_goal as goal_line, the_block}
use Rattle.ae_first_clauses.proofs.States.{line_of}

-- ---- formulas with all their parts, of each of which something holds that passes on to parts
module _ (P : Formula → Type 0) (passes : (f h : Formula) → P f → Contains (parts_of f) h → P h) where
  record Parts (f : Formula) : Type 0 where
    pub formulas : List Formula
    pub own : Contains formulas f
    pub parts : HasAllParts formulas
    pub all : AllByRecursion P formulas

  none : (f : Formula) → parts_of f ≡ [] → P f → Parts f
  none f e h = record {
    formulas = f ∷ [];
    own = contains_here f [];
    parts = λ x a k i. no_part f a e (subst (λ (w : Formula). Contains (parts_of w) a) (sym (contains_one f x k)) i);
    all = (h, tt);
  }

  joined : (xs ys : List Formula) → HasAllParts xs → HasAllParts ys → HasAllParts (xs ++ ys)
  joined xs ys x y h a k i = elim (Contains-append_cases xs ys h k) as (λ _. Contains (xs ++ ys) a) [
    | inl l ↦ Contains-append_left xs ys a (x h a l i)
    | inr r ↦ Contains-append_right xs ys a (y h a r i)
  ]

  one : (f a : Formula) → parts_of f ≡ a ∷ [] → P f → Parts a → Parts f
  one f a e h c = record {
    formulas = f ∷ c.formulas;
    own = contains_here f c.formulas;
    parts = λ x b k i. elim (contains_cases f c.formulas x k) as (λ _. Contains (f ∷ c.formulas) b) [
      | inl q ↦
          let r : a ≡ b = contains_one a b (subst (λ (w : List Formula). Contains w b) e (subst (λ (w : Formula). Contains (parts_of w) b) (sym q) i)) in
          contains_later f c.formulas b (subst (Contains c.formulas) r c.own)
      | inr l ↦ contains_later f c.formulas b (c.parts x b l i)
    ];
    all = (h, c.all);
  }

  two : (f a b : Formula) → parts_of f ≡ a ∷ b ∷ [] → P f → Parts a → Parts b → Parts f
  two f a b e h c d = record {
    formulas = f ∷ c.formulas ++ d.formulas;
    own = contains_here f (c.formulas ++ d.formulas);
    parts = λ x y k i. elim (contains_cases f (c.formulas ++ d.formulas) x k) as (λ _. Contains (f ∷ c.formulas ++ d.formulas) y) [
      | inl q ↦ contains_later f (c.formulas ++ d.formulas) y
          (elim (contains_cases a (b ∷ []) y (subst (λ (w : List Formula). Contains w y) e (subst (λ (w : Formula). Contains (parts_of w) y) (sym q) i))) as (λ _. Contains (c.formulas ++ d.formulas) y) [
            | inl r ↦ Contains-append_left c.formulas d.formulas y (subst (Contains c.formulas) r c.own)
            | inr r ↦ Contains-append_right c.formulas d.formulas y (subst (Contains d.formulas) (contains_one b y r) d.own)
          ])
      | inr l ↦ contains_later f (c.formulas ++ d.formulas) y (joined c.formulas d.formulas c.parts d.parts x y l i)
    ];
    all = (h, all_append P c.formulas d.formulas c.all d.all);
  }

  both : (f a b : Formula) → parts_of f ≡ a ∷ b ∷ [] → (P a → Parts a) → (P b → Parts b) → P f → Parts f
  both f a b e c d h =
      two f a b e h (c (passes f a h (subst (λ (w : List Formula). Contains w a) (sym e) (contains_here a (b ∷ [])))))
      (d (passes f b h (subst (λ (w : List Formula). Contains w b) (sym e) (contains_later a (b ∷ []) b (contains_here b [])))))

  with_parts : (f : Formula) → P f → Parts f
  with_parts =
      by_formulas (λ f. P f → Parts f) (λ q. Unit {0})
      (λ h. none True (ap parts_by outs-True) h)
      (λ h. none False (ap parts_by outs-False) h)
      (λ a b h. none (Eq a b) (ap parts_by (outs-Eq a b)) h)
      (λ a b h. none (Lt a b) (ap parts_by (outs-Lt a b)) h)
      (λ a b h. none (Le a b) (ap parts_by (outs-Le a b)) h)
      (λ n ss us h. none (Pred n ss us) (ap parts_by (outs-Pred n ss us)) h)
      (λ a c h. one (Not a) a (ap parts_by (outs-Not a)) h (c (passes (Not a) a h (subst (λ (w : List Formula). Contains w a) (sym (ap parts_by (outs-Not a))) (contains_here a [])))))
      (λ a b c d. both (And a b) a b (ap parts_by (outs-And a b)) c d)
      (λ a b c d. both (Or a b) a b (ap parts_by (outs-Or a b)) c d)
      (λ a b c d. both (Xor a b) a b (ap parts_by (outs-Xor a b)) c d)
      (λ a b c d. both (Iff a b) a b (ap parts_by (outs-Iff a b)) c d)
      (λ q c h. none (All q) (ap parts_by (outs-All q)) h)
      (λ q c h. none (Ex q) (ap parts_by (outs-Ex q)) h)
      (λ q c. tt)

  -- of all literals of a clause, and of all clauses
  pub record Covers (has : Lit → Type 0) : Type 0 where
    pub formulas : List Formula
    pub own : (l : Lit) → has l → Contains formulas l.formula
    pub parts : HasAllParts formulas
    pub all : AllByRecursion P formulas

  clause_covered : (c : Clause) → ((l : Lit) → Contains c l → P l.formula) → Covers (Contains c)
  clause_covered [] h = record { formulas = []; own = λ l k. absurd (let i = k.1 in omega (arith, i)); parts = λ x a k i. absurd (let j = k.1 in omega (arith, j)); all = tt }
  clause_covered (m ∷ c) h =
      let a = with_parts m.formula (h m (contains_here m c)) in
      let b = clause_covered c (λ l k. h l (contains_later m c l k)) in
      record {
        formulas = a.formulas ++ b.formulas;
        own = λ l k. elim (contains_cases m c l k) as (λ _. Contains (a.formulas ++ b.formulas) l.formula) [
          | inl e ↦ subst (λ (w : Lit). Contains (a.formulas ++ b.formulas) w.formula) e (Contains-append_left a.formulas b.formulas m.formula a.own)
          | inr r ↦ Contains-append_right a.formulas b.formulas l.formula (b.own l r)
        ];
        parts = joined a.formulas b.formulas a.parts b.parts;
        all = all_append P a.formulas b.formulas a.all b.all;
      }

  -- a literal of one of the clauses
  abbrev pub InSome : List Clause → Lit → Type 0
  InSome cs l = (k : ℕ) × (k < length cs) × Contains (clause cs k) l

  pub all_covered : (cs : List Clause) → ((l : Lit) → InSome cs l → P l.formula) → Covers (InSome cs)
  all_covered [] h = record { formulas = []; own = λ l k. absurd (let i = k.1 in omega (arith, i)); parts = λ x a k i. absurd (let j = k.1 in omega (arith, j)); all = tt }
  all_covered (c ∷ cs) h =
      let a = clause_covered c (λ l k. h l (0, omega arith, k)) in
      let b = all_covered cs (λ l k. h l (suc k.0, (let i = k.1 in omega (arith, i)), k.2)) in
      record {
        formulas = a.formulas ++ b.formulas;
        own = λ l k. in_either c cs a.formulas b.formulas l (a.own l) (b.own l) k;
        parts = joined a.formulas b.formulas a.parts b.parts;
        all = all_append P a.formulas b.formulas a.all b.all;
      }
    where
      in_either : (c : Clause) (cs : List Clause) (xs ys : List Formula) (l : Lit) → (Contains c l → Contains xs l.formula) → (InSome cs l → Contains ys l.formula) → InSome (c ∷ cs) l → Contains (xs ++ ys) l.formula
      in_either c cs xs ys l x y (zero, lt, k) = Contains-append_left xs ys l.formula (x k)
      in_either c cs xs ys l x y (suc n, lt, k) = Contains-append_right xs ys l.formula (y (n, omega (arith, lt), k))

  -- what clauses over no other formulas than these and their parts have
  pub keeps_to : (first clauses : List Clause) → ((c : Clause) (l : Lit) → IsOneOf first c → Contains c l → P l.formula) → ((fs : List Formula) → HasParts fs → AllAmong fs first → AllAmong fs clauses)
      → (c : Clause) (l : Lit) → IsOneOf clauses c → Contains c l → P l.formula
  keeps_to first clauses h among c l o k =
      let w = all_covered first (λ m i. h (clause first i.0) m (i.0, i.1, refl) i.2) in
      let a = among w.formulas (parts_said w.formulas w.parts) (λ d m i j. w.own m (i.0, i.1, subst (λ (x : Clause). Contains x m) (sym i.2) j)) in
      all_contained P w.formulas l.formula w.all (a c l o k)

module _ (p : Problem) (g : ℕ) (reach : IsInReach p g) where
  over_part : (f h : Formula) → IsGroundOrGoal p g f → Contains (parts_of f) h → IsGroundOrGoal p g h
  over_part f h (ground e) i = ground (simple_part f h e i)
  over_part f h (the_goal q e) i = no_part (All q) h (ap parts_by (outs-All q)) i

  over_literal : (sign : Bool) (f : Formula) → IsGroundOrGoal p g f → IsGroundOrGoal p g (literal sign f).formula
  over_literal sign f h = literal_part (IsGroundOrGoal p g) over_part f h sign

  over_goal : (f : Formula) → goal_body p g ≡ Some f → IsGroundOrGoal p g f
  over_goal f e =
      let same : reach.goal ≡ f = same_Some reach.goal f (sym reach.is ∙ e) in
      elim (goal_cases p.signature reach.goal reach.ground) as (λ _. IsGroundOrGoal p g f) [
        | inl s ↦ ground (ap is_simple (sym same) ∙ s)
        | inr w ↦ subst (IsGroundOrGoal p g) (sym w.1 ∙ same) (the_goal w.0 (reach.is ∙ ap (λ (x : Formula). Some x) w.1))
      ]

  simple_body : (q : Quant) → goal_body p g ≡ Some (All q) → is_simple q.body ≡ true
  simple_body q e =
      let same : reach.goal ≡ All q = same_Some reach.goal (All q) (sym reach.is ∙ e) in
      elim (goal_cases p.signature reach.goal reach.ground) as (λ _. is_simple q.body ≡ true) [
        | inl s ↦ absurd (all_not_simple q (ap is_simple (sym same) ∙ s))
        | inr w ↦ ap (λ (x : Quant). is_simple x.body) (one_block q w.0 (sym same ∙ w.1)) ∙ w.2
      ]

  first_over : (l : ClauseLine) (c : Clause) → IsFirstLine p g l c → (m : Lit) → Contains c m → IsGroundOrGoal p g m.formula
  first_over _ _ (a_hypothesis k f e) m h = subst (λ (x : Lit). IsGroundOrGoal p g x.formula) (contains_one (yes_of f) m h) (over_literal _ f (ground (reach.hypotheses k f e).simple))
  first_over _ _ (goal_line f e) m h = subst (λ (x : Lit). IsGroundOrGoal p g x.formula) (contains_one (no_of f) m h) (over_literal _ f (over_goal f e))
  first_over _ _ (the_block q e) m h =
      elim (contains_cases (is_true (All q)) (no_of (put_formula (count_from 0 q.sorts) q.body) ∷ []) m h) as (λ _. IsGroundOrGoal p g m.formula) [
        | inl i ↦ subst (λ (x : Lit). IsGroundOrGoal p g x.formula) i (the_goal q e)
        | inr i ↦
            subst (λ (x : Lit). IsGroundOrGoal p g x.formula) (contains_one (no_of (put_formula (count_from 0 q.sorts) q.body)) m i)
            (over_literal _ (put_formula (count_from 0 q.sorts) q.body) (ground (simple_put (count_from 0 q.sorts) q.body 0 ∙ simple_body q e)))
      ]

  -- the clauses that a search begins with are over the goal and simple formulas
  pub firsts_over : (firsts : List ClauseLine) (first : List Clause) → AreFirst p g firsts first → (c : Clause) (l : Lit) → IsOneOf first c → Contains c l → IsGroundOrGoal p g l.formula
  firsts_over firsts first are c l o k =
      let w = line_of p g firsts first are.states o.0 o.1 in first_over w.0 (clause first o.0) w.1.0 l (subst (λ (x : Clause). Contains x l) (sym o.2) k)

  -- and so are those that it goes on to
  pub over_from : (lines : List ClauseLine) (first clauses : List Clause) (places : List ℕ) → ((c : Clause) (l : Lit) → IsOneOf first c → Contains c l → IsGroundOrGoal p g l.formula)
      → ((fs : List Formula) → HasParts fs → AllAmong fs first → AllAmong fs clauses) → IsStated p g lines clauses places → AreOverGround p g clauses
  over_from lines first clauses places over among stated = record {
    ground = keeps_to (IsGroundOrGoal p g) over_part first clauses over among;
    sorted = λ c l o k.
        sorted_one (λ (m : Lit). formula_ok p.signature m.formula) (clause clauses o.0) l (clause_sorted p g lines clauses places stated o.0 o.1)
        (subst (λ (x : Clause). Contains x l) (sym o.2) k);
  }

  pub goes_on_over : (firsts lines : List ClauseLine) (first clauses : List Clause) (places : List ℕ) → AreFirst p g firsts first → ((fs : List Formula) → HasParts fs → AllAmong fs first → AllAmong fs clauses)
      → IsStated p g lines clauses places → AreOverGround p g clauses
  goes_on_over firsts lines first clauses places are among stated = over_from lines first clauses places (firsts_over firsts first are) among stated
