-- A rule stays allowed where the steps that it rests on have other numbers.
use Rattle.std.specs.Prelude.{ℕ, ℤ, zero, suc, true, ◌<◌, List, [], ◌∷◌, ◌≡◌, map, length, slice_get, Option, Some, None}
use Rattle.std.specs.List.{AllByRecursion}
use Rattle.std.proofs.Common.{refl, sym, ◌∙◌, arith}
use Rattle.ae_base.proofs.AllOf.{all_of_map}
use Rattle.ae_core.specs.Sorts.{within}
use Rattle.ae_rules.specs.Built.{HasFactorsWithin}
use Rattle.ae_rules.specs.Lines.{Fact, equal, states, Stated, Equated, Combined, Allowed}
use Rattle.ae_core.specs.declared.terms.Term.{Term}
use Rattle.ae_core.specs.declared.formulas.Lit.{Lit}
use Rattle.ae_core.specs.declared.problems.Signature.{Signature}
use Rattle.ae_core.specs.declared.proofs.Scaled.{Scaled}
use Rattle.ae_core.specs.declared.proofs.EqLine.{EqLine}
use Rattle.ae_just.specs.declared.steps.Step.{Step}
use Rattle.ae_just.specs.declared.steps.Rule.{Rule}
use Rattle.ae_just.specs.declared.steps.Rule.TheVariants as rule
use Rattle.ae_just.specs.Sides.{side_term}
use Rattle.ae_just.specs.Steps.{AreRuleFactorsWithin, fact_of, renamed, renamed_rule, line_by, own_line, premises, RuleAllowed}

-- what a step of number k states is stated by the line of number v k
abbrev pub Carries : List EqLine → List EqLine → (ℕ → ℕ) → ℕ → Type 0
Carries xs ys v k = (f : Fact) → Stated xs k f → Stated ys (v k) f

module _ (xs ys : List EqLine) (v : ℕ → ℕ) where
  equated_in : (ks : List ℕ) (us vs : List Term) → AllByRecursion (Carries xs ys v) ks → Equated xs ks us vs → Equated ys (map v ks) us vs
  equated_in [] [] [] c e = tt
  equated_in (k ∷ ks) (t ∷ ts) (w ∷ ws) c e = (c.0 (equal t w) e.0, equated_in ks ts ws c.1 e.1)
  equated_in [] [] (w ∷ ws) c e = absurd e
  equated_in [] (t ∷ ts) ws c e = absurd e
  equated_in (k ∷ ks) [] ws c e = absurd e
  equated_in (k ∷ ks) (t ∷ ts) [] c e = absurd e

  combined_in : (ps : List Scaled) (fs : List (ℤ × Fact)) → AllByRecursion (Carries xs ys v) (map (λ p. p.line) ps) → Combined xs ps fs → Combined ys (map (renamed v) ps) fs
  combined_in [] [] q c = tt
  combined_in (p ∷ ps) (f ∷ fs) q c = (c.0, q.0 f.1 c.1, combined_in ps fs q.1 c.2)
  combined_in [] (f ∷ fs) q c = absurd c
  combined_in (p ∷ ps) [] q c = absurd c

  -- a rule that is no assumption
  pub rule_carried : (sig : Signature) (hyps : List Lit) (h : ℕ) (l r : Term) (u : Rule) → AllByRecursion (Carries xs ys v) (premises u) → RuleAllowed sig xs (line_by 0 l r u) u
      → ((tag : ℕ) → u ≡ rule.Hyp tag → Allowed sig hyps ys (line_by h l r (rule.Hyp tag))) → Allowed sig hyps ys (line_by h l r (renamed_rule v u))
  rule_carried sig hyps h l r (rule.Hyp tag) c a given = given tag refl
  rule_carried sig hyps h l r rule.Refl c a given = a
  rule_carried sig hyps h l r (rule.Sym k) c a given = c.0 (equal r l) a
  rule_carried sig hyps h l r (rule.Trans j k) c a given = (a.0, c.0 (equal l a.0) a.1, c.1.0 (equal a.0 r) a.2)
  rule_carried sig hyps h l r (rule.Cong ks) c (hd, ss, us, vs, p, q, e) given = (hd, ss, us, vs, p, q, equated_in ks us vs c e)
  rule_carried sig hyps h l r rule.Ac c a given = a
  rule_carried sig hyps h l r (rule.Lin d ps) c (m, fs, e, q, z) given = (m, fs, combined_in ps fs c e, q, z)
  rule_carried sig hyps h l r rule.Field c a given = a
  rule_carried sig hyps h l r (rule.Fields ks) c (m, ss, e, fs, p, q, s, z) given = (m, ss, e, fs, p, q, s, equated_in ks _ _ c z)

-- ---- what a rule rests on stands earlier
stated_within : (xs : List EqLine) (k : ℕ) (f : Fact) → Stated xs k f → k < length xs
stated_within [] k f e = absurd (let w : ◌≡◌ {A = Option Fact} None (Some f) = e in cc w)
stated_within (x ∷ xs) zero f e = omega arith
stated_within (x ∷ xs) (suc k) f e = let h = stated_within xs k f e in omega (arith, h)

equated_within : (xs : List EqLine) (ks : List ℕ) (us vs : List Term) → Equated xs ks us vs → AllByRecursion (λ k. k < length xs) ks
equated_within xs [] us vs e = tt
equated_within xs (k ∷ ks) (t ∷ ts) (w ∷ ws) e = (stated_within xs k (equal t w) e.0, equated_within xs ks ts ws e.1)
equated_within xs (k ∷ ks) [] ws e = absurd e
equated_within xs (k ∷ ks) (t ∷ ts) [] e = absurd e

combined_within : (xs : List EqLine) (ps : List Scaled) (fs : List (ℤ × Fact)) → Combined xs ps fs → AllByRecursion (λ k. k < length xs) (map (λ p. p.line) ps)
combined_within xs [] fs c = tt
combined_within xs (p ∷ ps) (f ∷ fs) c = (stated_within xs p.line f.1 c.1, combined_within xs ps fs c.2)
combined_within xs (p ∷ ps) [] c = absurd c

pub premises_within : (sig : Signature) (xs : List EqLine) (l r : Term) (u : Rule) → RuleAllowed sig xs (line_by 0 l r u) u → AllByRecursion (λ k. k < length xs) (premises u)
premises_within sig xs l r (rule.Hyp tag) a = tt
premises_within sig xs l r rule.Refl a = tt
premises_within sig xs l r (rule.Sym k) a = (stated_within xs k (equal r l) a, tt)
premises_within sig xs l r (rule.Trans j k) a = (stated_within xs j (equal l a.0) a.1, (stated_within xs k (equal a.0 r) a.2, tt))
premises_within sig xs l r (rule.Cong ks) (hd, ss, us, vs, p, q, e) = equated_within xs ks us vs e
premises_within sig xs l r rule.Ac a = tt
premises_within sig xs l r (rule.Lin d ps) (m, fs, e, q, z) = combined_within xs ps fs e
premises_within sig xs l r rule.Field a = tt
premises_within sig xs l r (rule.Fields ks) (m, ss, e, fs, p, q, s, z) = equated_within xs ks _ _ z

-- ---- what the lines of steps state
pub states_line : (v : ℕ → ℕ) (h : ℕ) (l r : Term) (u : Rule) → states (line_by h l r (renamed_rule v u)) ≡ equal l r
states_line v h l r (rule.Hyp tag) = refl
states_line v h l r rule.Refl = refl
states_line v h l r (rule.Sym k) = refl
states_line v h l r (rule.Trans j k) = refl
states_line v h l r (rule.Cong ks) = refl
states_line v h l r rule.Ac = refl
states_line v h l r (rule.Lin d ps) = refl
states_line v h l r rule.Field = refl
states_line v h l r (rule.Fields ks) = refl

-- and their factors are those of the rules
pub rule_factors : (v : ℕ → ℕ) (u : Rule) → AreRuleFactorsWithin u → AreRuleFactorsWithin (renamed_rule v u)
rule_factors v (rule.Hyp tag) f = tt
rule_factors v rule.Refl f = tt
rule_factors v (rule.Sym k) f = tt
rule_factors v (rule.Trans j k) f = tt
rule_factors v (rule.Cong ks) f = tt
rule_factors v rule.Ac f = tt
rule_factors v (rule.Lin d ps) f = (f.0, all_of_map (λ (p : Scaled). within p.factor ≡ true) (renamed v) ps f.1)
rule_factors v rule.Field f = tt
rule_factors v (rule.Fields ks) f = tt

pub line_factors : (h : ℕ) (l r : Term) (u : Rule) → AreRuleFactorsWithin u → HasFactorsWithin (line_by h l r u)
line_factors h l r (rule.Hyp tag) f = tt
line_factors h l r rule.Refl f = tt
line_factors h l r (rule.Sym k) f = tt
line_factors h l r (rule.Trans j k) f = tt
line_factors h l r (rule.Cong ks) f = tt
line_factors h l r rule.Ac f = tt
line_factors h l r (rule.Lin d ps) f = f
line_factors h l r rule.Field f = tt
line_factors h l r (rule.Fields ks) f = tt

states_own : (l r : Term) (u : Rule) → states (line_by 0 l r u) ≡ equal l r
states_own l r (rule.Hyp tag) = refl
states_own l r rule.Refl = refl
states_own l r (rule.Sym k) = refl
states_own l r (rule.Trans j k) = refl
states_own l r (rule.Cong ks) = refl
states_own l r rule.Ac = refl
states_own l r (rule.Lin d ps) = refl
states_own l r rule.Field = refl
states_own l r (rule.Fields ks) = refl

-- a step's own line states its equation alone
pub own_stated : (ts : List Term) (steps : List Step) (k : ℕ) (f : Fact) → Stated (map (own_line ts) steps) k f → (s : Step) × (slice_get steps k ≡ Some s) × (fact_of ts s ≡ f)
own_stated ts [] k f e = absurd (let w : ◌≡◌ {A = Option Fact} None (Some f) = e in cc w)
own_stated ts (s ∷ ss) zero f e =
    let e' : Some (states (own_line ts s)) ≡ Some f = e in
    let g : states (own_line ts s) ≡ f = cc e' in
    (s, refl, sym (states_own (side_term ts s.left) (side_term ts s.right) s.rule) ∙ g)
own_stated ts (s ∷ ss) (suc k) f e = own_stated ts ss k f e
