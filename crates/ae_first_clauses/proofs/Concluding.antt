-- What the first lines state.
use Rattle.std.specs.Prelude.{ℕ, ◌+◌, ◌<◌, ◌^◌, Bool, true, [], ◌∷◌, ◌≡◌, length, slice_get, Option, Some, None}
use Rattle.std.proofs.Common.{ap, ◌∙◌, arith}
use Rattle.std.proofs.lemmas.Bool.{le-leb}
use Rattle.std.proofs.lemmas.Option.{same_Some}
use Rattle.ae_base.specs.Options.{◌>>=◌, only, when}
use Rattle.ae_base.proofs.Options.{bind_some, only_some}
use Rattle.ae_core.specs.Putting.{put_formula}
use Rattle.ae_core.specs.Sorts.{formula_ok}
use Rattle.ae_core.specs.declared.formulas.Formula.{Formula, Formula-F, All, out-Formula}
use Rattle.ae_core.specs.declared.formulas.Formula.TheVariants.{outs-All}
use Rattle.ae_core.specs.declared.formulas.Quant.{Quant}
use Rattle.ae_core.specs.declared.problems.Problem.{Problem}
use Rattle.ae_core.specs.declared.problems.Item.{Item}
use Rattle.ae_core.specs.declared.problems.Item.TheVariants.{Axiom, Goal as GoalItem}
use Rattle.ae_core.specs.declared.proofs.ClauseLine.TheVariants.{Hyp, Goal, Fresh}
use Rattle.ae_rules.specs.Clauses.{Clause, yes_of, no_of, is_true}
use Rattle.ae_rules.specs.Instances.{hypothesis, fresh_clause, are_numbered, count_from, block_sorts}
use Rattle.ae_rules.specs.Derivations.{conclusion, clause_of, line_ok, goal_body, formula_stands}

module _ (p : Problem) (g : ℕ) where
  pub hyp_concludes : (k : ℕ) (f : Formula) → hypothesis p g k [] ≡ Some f → formula_ok p.signature f ≡ true → conclusion p g (Hyp k []) ≡ Some (yes_of f ∷ [])
  hyp_concludes k f e ok =
      (λ i. only (formula_stands p.signature (e i)) (e i >>= λ h. Some (yes_of h ∷ []))) ∙ ap (λ (b : Bool). only b (Some (yes_of f ∷ []))) ok

  pub hyp_states : (k : ℕ) (c : Clause) → conclusion p g (Hyp k []) ≡ Some c → (f : Formula) × (hypothesis p g k [] ≡ Some f) × (yes_of f ∷ [] ≡ c)
  hyp_states k c e =
      let o = only_some (line_ok p g (Hyp k [])) (clause_of p g (Hyp k [])) c e in
      let b = bind_some (hypothesis p g k []) (λ f. Some (yes_of f ∷ [])) c o.1 in
      (b.0, b.1, same_Some (yes_of b.0 ∷ []) c b.2)

  pub goal_concludes : (f : Formula) → goal_body p g ≡ Some f → formula_ok p.signature f ≡ true → conclusion p g Goal ≡ Some (no_of f ∷ [])
  goal_concludes f e ok =
      (λ i. only (formula_stands p.signature (e i)) (e i >>= λ h. Some (no_of h ∷ []))) ∙ ap (λ (b : Bool). only b (Some (no_of f ∷ []))) ok

  pub goal_states : (c : Clause) → conclusion p g Goal ≡ Some c → (f : Formula) × (goal_body p g ≡ Some f) × (no_of f ∷ [] ≡ c)
  goal_states c e =
      let o = only_some (line_ok p g Goal) (clause_of p g Goal) c e in
      let b = bind_some (goal_body p g) (λ f. Some (no_of f ∷ [])) c o.1 in
      (b.0, b.1, same_Some (no_of b.0 ∷ []) c b.2)

  abbrev pub block_clause : Quant → Clause
  block_clause q = is_true (All q) ∷ no_of (put_formula (count_from 0 q.sorts) q.body) ∷ []

  pub block_concludes : (q : Quant) → formula_ok p.signature (All q) ≡ true → length (block_sorts (out-Formula (All q))) < 2 ^ 64 → conclusion p g (Fresh (All q) 0) ≡ Some (block_clause q)
  block_concludes q ok few =
      let many : length q.sorts < 2 ^ 64 = omega (arith, few, ap (λ (o : Formula-F Formula Quant). length (block_sorts o)) (outs-All q)) in
      let numbered : are_numbered 0 q.sorts ≡ true = le-leb (0 + length q.sorts) (2 ^ 64) (omega (arith, many)) in
      (λ i. only (ok i) (fresh_clause (All q) 0 (outs-All q i))) ∙ ap (λ (b : Bool). when b (block_clause q)) numbered

  -- ---- the goal among the items
  pub goal_item : (f : Formula) → goal_body p g ≡ Some f → (i : Item) × (slice_get p.items g ≡ Some i) × (◌≡◌ {A = Option Formula} (elim i as (λ _. Option Formula) [ Axiom n v h ↦ None | GoalItem n v h ↦ Some h ]) (Some f))
  goal_item f e = bind_some (slice_get p.items g) (λ i. elim i as (λ _. Option Formula) [ Axiom n v h ↦ None | GoalItem n v h ↦ Some h ]) f e
