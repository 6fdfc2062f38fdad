-- Line after line.
use Rattle.std.specs.Prelude.{ℕ, ◌+◌, ◌<◌, ◌^◌, Bool, true, false, nat_lt, List, [], ◌∷◌, ◌++◌, ◌≡◌, length, slice_get, Option, Some, None}
use Rattle.std.proofs.Common.{refl, sym, ap, ◌∙◌, subst, arith, inl, inr}
use Rattle.std.proofs.lemmas.Bool.{cases_eq, ltb-true}
use Rattle.std.proofs.lemmas.Option.{same_Some}
use Rattle.ae_base.proofs.AllOf.{all_push}
use Rattle.ae_base.specs.Options.{only, ◌>>=◌}
use Rattle.ae_base.proofs.Options.{never_some, bind_some, only_some}
use Rattle.ae_base.proofs.Relations.{pairwise_push}
use Rattle.ae_base.proofs.Tests.{false_true}
use Rattle.ae_core.specs.Signatures.{IsLawfulProblem}
use Rattle.ae_core.specs.declared.formulas.Formula.{Formula, Formula-F, All, out-Formula, roll-Formula, roll-out-Formula}
use Rattle.ae_core.specs.declared.formulas.Formula.TheOpen as layer
use Rattle.ae_core.specs.declared.formulas.Formula.TheVariants.{outs-All, rolls-All}
use Rattle.ae_core.specs.declared.formulas.Quant.{Quant}
use Rattle.ae_core.specs.declared.problems.Item.{Item}
use Rattle.ae_core.specs.declared.problems.Item.TheVariants.{Axiom, Goal as GoalItem}
use Rattle.ae_core.specs.declared.problems.Problem.{Problem}
use Rattle.ae_core.specs.declared.proofs.ClauseLine.{ClauseLine}
use Rattle.ae_core.specs.declared.proofs.ClauseLine.TheVariants.{Hyp, Goal, Fresh}
use Rattle.ae_new_constants.specs.Below.{IsLineBelow}
use Rattle.ae_new_constants.proofs.Clauses.{goal_below}
use Rattle.ae_new_constants.proofs.Lines.{hypothesis_line, goal_line, fresh_allowed}
use Rattle.ae_rules.specs.Clauses.{Clause, yes_of, no_of}
use Rattle.ae_rules.specs.Instances.{hypothesis, block_sorts, fresh_clause}
use Rattle.ae_rules.specs.Derivations.{conclusion, clause_of, line_ok, goal_body}
use Rattle.ae_reach.proofs.Blocks.{one_block}
use Rattle.ae_sat.specs.Standing.{IsOneOf}
use Rattle.ae_sat.proofs.Deriving.{allowed_join}
use Rattle.ae_sat.proofs.Learnt.{still_one, new_one}
use Rattle.ae_sorted_items.proofs.Items.{hypothesis_ok, goal_ok}
use Rattle.ae_first_clauses.specs.First.{States, AreFirst, a_hypothesis, the_goal, the_block}
use Rattle.ae_first_clauses.specs.Inner.Begun.{is_forall, IsAdded, left_out, with_clause, IsBegun, HasGoal}
use Rattle.ae_first_clauses.proofs.Concluding.{hyp_concludes, hyp_states, goal_concludes, goal_states, block_concludes, block_clause}

only_none : (b : Bool) → ◌≡◌ {A = Option Clause} (only b None) None
only_none true = refl
only_none false = refl

pub put_behind : (p : Problem) (g : ℕ) (l : ClauseLine) (c : Clause) (ls ls2 : List ClauseLine) (cs cs2 : List Clause) → conclusion p g l ≡ Some c → ls2 ≡ ls ++ l ∷ [] → cs2 ≡ cs ++ c ∷ [] → IsAdded p g l ls cs ls2 cs2
put_behind p g l c ls ls2 cs cs2 e a b = subst (λ (x : List ClauseLine × List Clause). IsAdded p g l ls cs x.0 x.1) (λ i. (sym a i, sym b i)) (with_clause c e)

pub item_none : (p : Problem) (g : ℕ) → slice_get p.items g ≡ None → goal_body p g ≡ None
item_none p g e = ap (λ (o : Option Item). o >>= λ i. elim i as (λ _. Option Formula) [ Axiom n v f ↦ None | GoalItem n v f ↦ Some f ]) e

pub item_axiom : (p : Problem) (g : ℕ) (m : List ℕ) (w : ℕ) (h : Formula) → slice_get p.items g ≡ Some (Axiom m w h) → goal_body p g ≡ None
item_axiom p g m w h e = ap (λ (o : Option Item). o >>= λ i. elim i as (λ _. Option Formula) [ Axiom n v f ↦ None | GoalItem n v f ↦ Some f ]) e

pub item_goal : (p : Problem) (g : ℕ) (m : List ℕ) (w : ℕ) (h : Formula) → slice_get p.items g ≡ Some (GoalItem m w h) → goal_body p g ≡ Some h
item_goal p g m w h e = ap (λ (o : Option Item). o >>= λ i. elim i as (λ _. Option Formula) [ Axiom n v f ↦ None | GoalItem n v f ↦ Some f ]) e

-- ---- blocks
pub forall_is : (f : Formula) → is_forall (out-Formula f) ≡ true → (q : Quant) × (f ≡ All q)
forall_is f t = go (out-Formula f) refl t
  where
    go : (o : Formula-F Formula Quant) → out-Formula f ≡ o → is_forall o ≡ true → (q : Quant) × (f ≡ All q)
    go (layer.All q) i t = (q, sym (roll-out-Formula f) ∙ ap roll-Formula i ∙ rolls-All q)
    go _ i t = false_true t

pub forall_not : (f : Formula) (q : Quant) → is_forall (out-Formula f) ≡ false → f ≡ All q → ⊥
forall_not f q n e = false_true (sym n ∙ ap (λ (h : Formula). is_forall (out-Formula h)) e ∙ ap is_forall (outs-All q))

module _ (p : Problem) (g : ℕ) where
  pub none_begun : IsBegun p g 0 [] []
  none_begun = record { allowed = tt; states = tt; unmarked = tt; hypotheses = λ k f lt e. absurd (omega (arith, lt)) }

  hypothesis_before : (k : ℕ) (f : Formula) → hypothesis p g k [] ≡ Some f → k < g
  hypothesis_before k f e =
      let x = bind_some (only (nat_lt k g) (slice_get p.items k)) _ f e in
      ltb-true k g (only_some (nat_lt k g) (slice_get p.items k) x.0 x.1).0

  -- there may be no goal
  pub without_goal : (ls : List ClauseLine) (cs : List Clause) → goal_body p g ≡ None → IsBegun p g g ls cs → AreFirst p g ls cs
  without_goal ls cs none b = record {
    allowed = b.allowed;
    states = b.states;
    firsts = record {
      hypotheses = λ k f e. b.hypotheses k f (hypothesis_before k f e) e;
      goal = λ f e. never_some f (sym none ∙ e);
      block = λ q e. never_some (All q) (sym none ∙ e);
    };
  }

  -- a goal that is no block
  pub no_block : (f : Formula) (ls : List ClauseLine) (cs : List Clause) → goal_body p g ≡ Some f → is_forall (out-Formula f) ≡ false → HasGoal p g ls cs → AreFirst p g ls cs
  no_block f ls cs is none h = record {
    allowed = h.begun.allowed;
    states = h.begun.states;
    firsts = record {
      hypotheses = λ k f e. h.begun.hypotheses k f (hypothesis_before k f e) e;
      goal = h.goal;
      block = λ q e. absurd (forall_not f q none (same_Some f (All q) (sym is ∙ e)));
    };
  }

  module _ (lawful : IsLawfulProblem p) where
    pub hyp_none : (n : ℕ) → None ≡ clause_of p g (Hyp n []) → conclusion p g (Hyp n []) ≡ None
    hyp_none n e = ap (only (line_ok p g (Hyp n []))) (sym e) ∙ only_none (line_ok p g (Hyp n []))

    pub hyp_some : (n : ℕ) (c : Clause) → Some c ≡ clause_of p g (Hyp n []) → conclusion p g (Hyp n []) ≡ Some c
    hyp_some n c e =
        let b = bind_some (hypothesis p g n []) (λ f. Some (yes_of f ∷ [])) c (sym e) in
        hyp_concludes p g n b.0 b.1 (hypothesis_ok p lawful g n b.0 b.1) ∙ b.2

    pub goal_added : (f : Formula) (ls ls2 : List ClauseLine) (cs cs2 : List Clause) → goal_body p g ≡ Some f → ls2 ≡ ls ++ Goal ∷ [] → cs2 ≡ cs ++ (no_of f ∷ []) ∷ [] → IsAdded p g Goal ls cs ls2 cs2
    goal_added f ls ls2 cs cs2 is a b = put_behind p g Goal (no_of f ∷ []) ls ls2 cs cs2 (goal_concludes p g f is (goal_ok p lawful g f is)) a b

    pub fresh_none : (f : Formula) → None ≡ fresh_clause f 0 (out-Formula f) → conclusion p g (Fresh f 0) ≡ None
    fresh_none f e = ap (only (line_ok p g (Fresh f 0))) (sym e) ∙ only_none (line_ok p g (Fresh f 0))

    pub fresh_some : (f : Formula) (c : Clause) → goal_body p g ≡ Some f → Some c ≡ fresh_clause f 0 (out-Formula f) → conclusion p g (Fresh f 0) ≡ Some c
    fresh_some f c is e = ap (λ (b : Bool). only b (fresh_clause f 0 (out-Formula f))) (goal_ok p lawful g f is) ∙ sym e

    pub hyp_begun : (n : ℕ) (ls ls2 : List ClauseLine) (cs cs2 : List Clause) → n < g → IsBegun p g n ls cs → IsAdded p g (Hyp n []) ls cs ls2 cs2 → IsBegun p g (n + 1) ls2 cs2
    hyp_begun n ls _ cs _ lt b (left_out e) = record {
      allowed = b.allowed;
      states = b.states;
      unmarked = b.unmarked;
      hypotheses = λ k f small h. elim (cases_eq k n) as (λ _. IsOneOf cs (yes_of f ∷ [])) [
        | inl q ↦
            let at : hypothesis p g n [] ≡ Some f = ap (λ (m : ℕ). hypothesis p g m []) (sym q) ∙ h in
            never_some (yes_of f ∷ []) (sym e ∙ hyp_concludes p g n f at (hypothesis_ok p lawful g n f at))
        | inr d ↦ b.hypotheses k f (omega (arith, small, d)) h
      ];
    }
    hyp_begun n ls _ cs _ lt b (with_clause c e) =
        let s = hyp_states p g n c e in
        let w : conclusion p g (Hyp n []) ≡ Some (yes_of s.0 ∷ []) = e ∙ ap (λ (d : Clause). Some d) (sym s.2) in
        record {
          allowed = allowed_join p g [] ls (Hyp n []) b.allowed ((c, e), tt);
          states = pairwise_push (States p g) ls cs (Hyp n []) c b.states (subst (States p g (Hyp n [])) s.2 (a_hypothesis n s.0 s.1, w));
          unmarked = all_push (IsLineBelow p g 0) ls (Hyp n []) b.unmarked (hypothesis_line 0 p g n [] lawful);
          hypotheses = λ k f small h. elim (cases_eq k n) as (λ _. IsOneOf (cs ++ c ∷ []) (yes_of f ∷ [])) [
            | inl q ↦
                let at : hypothesis p g n [] ≡ Some f = ap (λ (m : ℕ). hypothesis p g m []) (sym q) ∙ h in
                let one : s.0 ≡ f = same_Some s.0 f (sym s.1 ∙ at) in
                subst (IsOneOf (cs ++ c ∷ [])) (sym s.2 ∙ ap (λ (x : Formula). yes_of x ∷ []) one) (new_one cs c)
            | inr d ↦ still_one cs c (yes_of f ∷ []) (b.hypotheses k f (omega (arith, small, d)) h)
          ];
        }

    pub goal_begun : (f : Formula) → goal_body p g ≡ Some f → (ls ls2 : List ClauseLine) (cs cs2 : List Clause) → IsBegun p g g ls cs → IsAdded p g Goal ls cs ls2 cs2 → HasGoal p g ls2 cs2
    goal_begun f is ls _ cs _ b (left_out e) = never_some (no_of f ∷ []) (sym e ∙ goal_concludes p g f is (goal_ok p lawful g f is))
    goal_begun f is ls _ cs _ b (with_clause c e) =
        let s = goal_states p g c e in
        let w : conclusion p g Goal ≡ Some (no_of s.0 ∷ []) = e ∙ ap (λ (d : Clause). Some d) (sym s.2) in
        record {
          begun = record {
            allowed = allowed_join p g [] ls Goal b.allowed ((c, e), tt);
            states = pairwise_push (States p g) ls cs Goal c b.states (subst (States p g Goal) s.2 (the_goal s.0 s.1, w));
            unmarked = all_push (IsLineBelow p g 0) ls Goal b.unmarked (goal_line 0 p g lawful);
            hypotheses = λ k f small h. still_one cs c (yes_of f ∷ []) (b.hypotheses k f small h);
          };
          goal = λ f h. subst (IsOneOf (cs ++ c ∷ [])) (sym s.2 ∙ ap (λ (x : Formula). no_of x ∷ []) (same_Some s.0 f (sym s.1 ∙ h))) (new_one cs c);
        }

    -- ---- the goal's block, at last
    pub block_first : (f : Formula) (q : Quant) (ls ls2 : List ClauseLine) (cs cs2 : List Clause) → goal_body p g ≡ Some f → f ≡ All q → length (block_sorts (out-Formula f)) < 2 ^ 64 → HasGoal p g ls cs
        → IsAdded p g (Fresh f 0) ls cs ls2 cs2 → AreFirst p g ls2 cs2
    block_first f q ls ls2 cs cs2 is a few h added = by ls2 cs2 added
      where
        stands : goal_body p g ≡ Some (All q)
        stands = is ∙ ap (λ (x : Formula). Some x) a

        concludes : conclusion p g (Fresh (All q) 0) ≡ Some (block_clause p g q)
        concludes = block_concludes p g q (goal_ok p lawful g (All q) stands) (subst (λ (x : Formula). length (block_sorts (out-Formula x)) < 2 ^ 64) a few)

        by : (ls2 : List ClauseLine) (cs2 : List Clause) → IsAdded p g (Fresh f 0) ls cs ls2 cs2 → AreFirst p g ls2 cs2
        by _ _ (left_out e) = never_some (block_clause p g q) (sym e ∙ ap (λ (x : Formula). conclusion p g (Fresh x 0)) a ∙ concludes)
        by _ _ (with_clause c e) =
            let conc : conclusion p g (Fresh (All q) 0) ≡ Some c = ap (λ (x : Formula). conclusion p g (Fresh x 0)) (sym a) ∙ e in
            let own : block_clause p g q ≡ c = same_Some (block_clause p g q) c (sym concludes ∙ conc) in
            let states : fresh_clause f 0 (out-Formula f) ≡ Some c = (only_some (line_ok p g (Fresh f 0)) (clause_of p g (Fresh f 0)) c e).1 in
            record {
              allowed = allowed_join p g [] ls (Fresh f 0) h.begun.allowed
                  (fresh_allowed p g 0 f (goal_below 0 p g lawful f is) ls c h.begun.unmarked (goal_ok p lawful g f is) states).0;
              states = pairwise_push (States p g) ls cs (Fresh f 0) c h.begun.states
                  (subst (λ (x : Formula). States p g (Fresh x 0) c) (sym a) (subst (States p g (Fresh (All q) 0)) own (the_block q stands, concludes)));
              firsts = record {
                hypotheses = λ k f e. still_one cs c (yes_of f ∷ []) (h.begun.hypotheses k f (hypothesis_before k f e) e);
                goal = λ f e. still_one cs c (no_of f ∷ []) (h.goal f e);
                block = λ r e. (
                  0,
                  subst (λ (x : Quant). IsOneOf (cs ++ c ∷ []) (block_clause p g x)) (one_block q r (same_Some (All q) (All r) (sym stands ∙ e)))
                      (subst (IsOneOf (cs ++ c ∷ [])) (sym own) (new_one cs c)),
                );
              };
            }
