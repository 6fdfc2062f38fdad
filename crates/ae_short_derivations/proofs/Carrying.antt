-- A step stays allowed behind steps that say what its premises say.
use Rattle.std.specs.Prelude.{ℕ, true, List, [], ◌≡◌, map, slice_get, Option, Some}
use Rattle.std.specs.List.{AllByRecursion}
use Rattle.std.proofs.Common.{sym, ap, ◌∙◌, subst, inl, inr}
use Rattle.std.proofs.lemmas.Option.{same_Some}
use Rattle.ae_base.specs.Options.{◌>>=◌}
use Rattle.ae_base.proofs.ListFacts.{get_map}
use Rattle.ae_core.specs.declared.terms.Term.{Term}
use Rattle.ae_core.specs.declared.formulas.Formula.{Eq}
use Rattle.ae_core.specs.declared.problems.Signature.{Signature}
use Rattle.ae_core.specs.declared.proofs.EqLine.{EqLine}
use Rattle.ae_rules.specs.Lines.{equal, states, Stated}
use Rattle.ae_just.specs.declared.steps.Step.{Step}
use Rattle.ae_just.specs.declared.steps.Side.{Side}
use Rattle.ae_just.specs.declared.steps.Rule.{Rule}
use Rattle.ae_just.specs.declared.steps.Rule.TheVariants as rule
use Rattle.ae_just.specs.Sides.{side_term}
use Rattle.ae_just.specs.Steps.{fact_of, literal, own_line, line_by, premises, renamed_rule, AreRuleFactorsWithin, RuleAllowed, IsAllowedStep, IsStepOfNames}
use Rattle.ae_just.proofs.LineLaws.{Carries, rule_carried, rule_factors, own_stated}
use Rattle.ae_short_derivations.specs.Inner.Keeping.{place_of, IsKeepable, MayStand}

-- what a step says is stated by its line
pub stated_of : (ts : List Term) (steps : List Step) (n : ℕ) (s : Step) → slice_get steps n ≡ Some s → Stated (map (own_line ts) steps) n (fact_of ts s)
stated_of ts steps n s e =
    let st : Stated (map (own_line ts) steps) n (states (own_line ts s)) = ap (λ (o : Option EqLine). o >>= λ l. Some (states l)) (get_map (own_line ts) steps n s e) in
    let o = own_stated ts steps n (states (own_line ts s)) st in
    let same : s ≡ o.0 = same_Some s o.0 (sym e ∙ o.1) in
    st ∙ ap Some (sym o.2 ∙ ap (fact_of ts) (sym same))

-- steps that say the same assume the same literal
pub same_literal : (ts : List Term) (x s : Step) → fact_of ts x ≡ fact_of ts s → literal ts x ≡ literal ts s
same_literal ts x s e = λ i. record { positive = true; formula = Eq (e i).left (e i).right }

module _ (xs ys : List EqLine) (v : ℕ → ℕ) (sig : Signature) (l r : Term) where
  pub allowed_renamed : (u : Rule) → AllByRecursion (Carries xs ys v) (premises u) → RuleAllowed sig xs (line_by 0 l r u) u → RuleAllowed sig ys (line_by 0 l r (renamed_rule v u)) (renamed_rule v u)
  allowed_renamed (rule.Hyp tag) c a = tt
  allowed_renamed rule.Refl c a = rule_carried xs ys v sig [] 0 l r rule.Refl c a (λ tag e. absurd (cc e))
  allowed_renamed (rule.Sym k) c a = rule_carried xs ys v sig [] 0 l r (rule.Sym k) c a (λ tag e. absurd (cc e))
  allowed_renamed (rule.Trans j k) c a = rule_carried xs ys v sig [] 0 l r (rule.Trans j k) c a (λ tag e. absurd (cc e))
  allowed_renamed (rule.Cong ks) c a = rule_carried xs ys v sig [] 0 l r (rule.Cong ks) c a (λ tag e. absurd (cc e))
  allowed_renamed rule.Ac c a = rule_carried xs ys v sig [] 0 l r rule.Ac c a (λ tag e. absurd (cc e))
  allowed_renamed (rule.Lin d ps) c a = rule_carried xs ys v sig [] 0 l r (rule.Lin d ps) c a (λ tag e. absurd (cc e))
  allowed_renamed rule.Field c a = rule_carried xs ys v sig [] 0 l r rule.Field c a (λ tag e. absurd (cc e))
  allowed_renamed (rule.Fields ks) c a = rule_carried xs ys v sig [] 0 l r (rule.Fields ks) c a (λ tag e. absurd (cc e))

hyp_renamed : (v : ℕ → ℕ) (u : Rule) (tag : ℕ) → renamed_rule v u ≡ rule.Hyp tag → u ≡ rule.Hyp tag
hyp_renamed v (rule.Hyp t) tag e = e
hyp_renamed v rule.Refl tag e = absurd (cc e)
hyp_renamed v (rule.Sym k) tag e = absurd (cc e)
hyp_renamed v (rule.Trans j k) tag e = absurd (cc e)
hyp_renamed v (rule.Cong ks) tag e = absurd (cc e)
hyp_renamed v rule.Ac tag e = absurd (cc e)
hyp_renamed v (rule.Lin d ps) tag e = absurd (cc e)
hyp_renamed v rule.Field tag e = absurd (cc e)
hyp_renamed v (rule.Fields ks) tag e = absurd (cc e)

module _ (sig : Signature) (ts : List Term) (needed numbers : List ℕ) (kept : List Step) (s : Step) where
  -- a rule that makes the step an assumption is its own
  pub own_assumption : (r : Rule) → MayStand ts needed numbers s r → (tag : ℕ) → r ≡ rule.Hyp tag → s.rule ≡ rule.Hyp tag
  own_assumption r (inl m) tag e = let w : ◌≡◌ {A = Rule} rule.Refl (rule.Hyp tag) = sym m.0 ∙ e in absurd (cc w)
  own_assumption r (inr m) tag e = hyp_renamed (place_of needed numbers) s.rule tag (sym m ∙ e)

  abbrev standing : Rule → Type 0
  standing u = RuleAllowed sig (map (own_line ts) kept) (line_by 0 (side_term ts s.left) (side_term ts s.right) u) u

  stands : IsKeepable sig ts needed numbers kept s → (r : Rule) → MayStand ts needed numbers s r → standing r
  stands k r (inl m) = subst standing (sym m.0) m.1
  stands k r (inr m) = subst standing (sym m)
      (allowed_renamed (map (own_line ts) k.earlier) (map (own_line ts) kept) (place_of needed numbers) sig (side_term ts s.left) (side_term ts s.right) s.rule k.carried k.allowed.allowed)

  abbrev pub with_sides : Side → Side → Rule → Step
  with_sides a b r = record { left = a; right = b; rule = r }

  pub put_allowed : IsKeepable sig ts needed numbers kept s → (a b : Side) (r : Rule) → MayStand ts needed numbers s r → a ≡ s.left → b ≡ s.right → IsAllowedStep sig ts kept (with_sides a b r)
  put_allowed k a b r m p q =
      let own : IsAllowedStep sig ts kept (with_sides s.left s.right r) = record { sorted = k.allowed.sorted; allowed = stands k r m } in
      subst (λ (y : Side). IsAllowedStep sig ts kept (with_sides a y r)) (sym q) (subst (λ (x : Side). IsAllowedStep sig ts kept (with_sides x s.right r)) (sym p) own)

  pub put_built : IsKeepable sig ts needed numbers kept s → (a b : Side) (r : Rule) → a ≡ s.left → b ≡ s.right → IsStepOfNames sig ts (with_sides a b r)
  put_built k a b r p q =
      subst (λ (y : Side). IsStepOfNames sig ts (with_sides a y r)) (sym q) (subst (λ (x : Side). IsStepOfNames sig ts (with_sides x s.right r)) (sym p) k.built)

  pub put_factors : IsKeepable sig ts needed numbers kept s → (r : Rule) → MayStand ts needed numbers s r → AreRuleFactorsWithin r
  put_factors k r (inl m) = subst AreRuleFactorsWithin (sym m.0) tt
  put_factors k r (inr m) = subst AreRuleFactorsWithin (sym m) (rule_factors (place_of needed numbers) s.rule k.factors)

  pub put_says : (a b : Side) (r : Rule) → a ≡ s.left → b ≡ s.right → fact_of ts (with_sides a b r) ≡ fact_of ts s
  put_says a b r p q = λ i. equal (side_term ts (p i)) (side_term ts (q i))
