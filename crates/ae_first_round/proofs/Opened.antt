-- The blocks that the first clauses open.
use Rattle.std.specs.Prelude.{ℕ, ◌≡◌, true, false, List, [], ◌∷◌, Some, None}
use Rattle.std.specs.List.{Contains}
use Rattle.std.proofs.Common.{sym, ap, ◌∙◌, subst, arith, inl, inr}
use Rattle.std.proofs.lemmas.Option.{same_Some}
use Rattle.ae_base.proofs.Options.{never_some}
use Rattle.ae_block_constants.specs.Blocks.{AreApart, variables}
use Rattle.ae_block_constants.specs.declared.opened.Opened.{Opened}
use Rattle.ae_core.specs.declared.formulas.Formula.{Formula, All, out-Formula}
use Rattle.ae_core.specs.declared.formulas.Quant.{Quant}
use Rattle.ae_core.specs.declared.problems.Problem.{Problem}
use Rattle.ae_first_clauses.proofs.Begun.{forall_is, forall_not}
use Rattle.ae_first_clauses.specs.Inner.Begun.{is_forall}
use Rattle.ae_first_round.specs.Inner.First.{AreFirstBlocks}
use Rattle.ae_journal.proofs.Splits.{contains_one}
use Rattle.ae_reach.proofs.Blocks.{block_or_not, one_block}
use Rattle.ae_rules.specs.Derivations.{goal_body}

module _ (p : Problem) (g : ℕ) (opened : List Opened) (next : ℕ) where
  pub no_blocks : ((q : Quant) → ¬ (goal_body p g ≡ Some (All q))) → opened ≡ [] → next ≡ 0 → AreFirstBlocks p g opened next
  no_blocks n a b = record { block = λ q e. absurd (n q e); none = λ m. (a, b) }

  pub without_goal : goal_body p g ≡ None → opened ≡ [] → next ≡ 0 → AreFirstBlocks p g opened next
  without_goal none a b = no_blocks (λ q e. never_some (All q) (sym none ∙ e)) a b

  pub other_goal : (f : Formula) → goal_body p g ≡ Some f → is_forall (out-Formula f) ≡ false → opened ≡ [] → next ≡ 0 → AreFirstBlocks p g opened next
  other_goal f is not a b = no_blocks (λ q e. forall_not f q not (same_Some f (All q) (sym is ∙ e))) a b

  pub one_opened : (f : Formula) → goal_body p g ≡ Some f → is_forall (out-Formula f) ≡ true → opened ≡ record { formula = f; first = 0 } ∷ [] → next ≡ variables f → AreFirstBlocks p g opened next
  one_opened f is all a b = record {
    block = λ q e.
        let same : f ≡ All q = same_Some f (All q) (sym is ∙ e) in
        (a ∙ ap (λ (h : Formula). record { formula = h; first = 0 } ∷ []) same, b ∙ ap variables same);
    none = λ n. let w = forall_is f all in absurd (n w.0 (is ∙ ap (λ (h : Formula). Some h) w.1));
  }

  module _ (blocks : AreFirstBlocks p g opened next) where
    -- each of them is the goal's, from constant 0 on
    pub own_block : (o : Opened) → Contains opened o → (q : Quant) × (goal_body p g ≡ Some (All q)) × (o ≡ record { formula = All q; first = 0 }) × (next ≡ variables (All q))
    own_block o h = elim (block_or_not (goal_body p g)) as (λ _. (q : Quant) × (goal_body p g ≡ Some (All q)) × (o ≡ record { formula = All q; first = 0 }) × (next ≡ variables (All q))) [
      | inl w ↦
          let b = blocks.block w.0 w.1 in
          let own : Opened = record { formula = All w.0; first = 0 } in
          (w.0, w.1, sym (contains_one own o (subst (λ (os : List Opened). Contains os o) b.0 h)), b.1)
      | inr n ↦ absurd (let b = blocks.none n in let i : Contains [] o = subst (λ (os : List Opened). Contains os o) b.0 h in let l = i.1 in omega (arith, l))
    ]

    same_block : (o e : Opened) → Contains opened o → Contains opened e → o ≡ e
    same_block o e h k =
        let a = own_block o h in
        let b = own_block e k in
        a.2 ∙ ap (λ (q : Quant). record { formula = All q; first = 0 }) (one_block a.0 b.0 (same_Some (All a.0) (All b.0) (sym a.1 ∙ b.1))) ∙ sym b.2

    pub apart : AreApart next opened
    apart = record {
      below = λ o h.
          let a = own_block o h in
          let first : o.first ≡ 0 = ap (λ (w : Opened). w.first) a.2 in
          let many : variables o.formula ≡ variables (All a.0) = ap (λ (w : Opened). variables w.formula) a.2 in
          let n = a.3 in
          omega (arith, first, many, n);
      once = λ o e h k s. ap (λ (w : Opened). w.first) (same_block o e h k);
      apart = λ o e i j h k a b s. ap (λ (w : Opened). w.formula) (same_block o e h k);
    }
