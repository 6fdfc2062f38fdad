-- The hypotheses of what a step rests on, and their tags.
use Rattle.std.specs.Prelude.{ℕ, suc, ◌<◌, true, List, [], ◌∷◌, ◌++◌, ◌≡◌, length, slice_get, Option, Some, None}
use Rattle.std.specs.List.{Contains}
use Rattle.std.proofs.Common.{refl, sym, ap, ◌∙◌, subst, arith, length-append}
use Rattle.std.proofs.lemmas.Bool.{and_from}
use Rattle.std.proofs.lemmas.Option.{same_Some}
use Rattle.ae_base.specs.Options.{or_else, ◌>>=◌}
use Rattle.ae_core.specs.Sorts.{formula_ok, is_closed_sort}
use Rattle.ae_core.specs.declared.terms.Term.{Term}
use Rattle.ae_core.specs.declared.formulas.Formula.{Eq}
use Rattle.ae_core.specs.declared.formulas.Lit.{Lit}
use Rattle.ae_core.specs.declared.problems.Signature.{Signature}
use Rattle.ae_core.specs.declared.proofs.Deriv.{Deriv}
use Rattle.ae_core.specs.declared.proofs.EqLine.{EqLine}
use Rattle.ae_core.proofs.SortLaws.{formula_in_eq}
use Rattle.ae_rules.specs.Derivations.{clause_ok}
use Rattle.ae_rules.specs.Lines.{Fact, equal, states, Stated, fact_ok}
use Rattle.ae_store.specs.Parts.{IsIn}
use Rattle.ae_store.proofs.Gets.{get_last}
use Rattle.ae_just.specs.declared.steps.Step.{Step}
use Rattle.ae_just.specs.declared.steps.Rule.{Rule}
use Rattle.ae_just.specs.declared.steps.Rule.TheVariants as rule
use Rattle.ae_just.specs.Sides.{side_term}
use Rattle.ae_just.specs.Steps.{fact_of, literal, assumed, tag_of, Fits}
use Rattle.ae_just.specs.Needed.{literals, tags, AreTags, Derives}
use Rattle.ae_just.proofs.OneNeeded.{needed_same}
use Rattle.ae_theory.specs.Tagged.{Tagged}
use Rattle.ae_theory.specs.Noting.{IsBlockOf}
use Rattle.ae_conflicts.specs.declared.assumed.Assumed.{Assumed}
use Rattle.ae_conflicts.specs.Saying.{tagged, RestsOnAssumed, EndsWith}
use Rattle.ae_conflicts.proofs.Assumptions.{assumed_contains}

-- ---- tags
rule_block : (held : List Tagged) (l : Lit) (u : Rule) → ((tag : ℕ) → u ≡ rule.Hyp tag → Contains held (record { lit = l; tag = tag })) → (ls : List Lit) (ns : List ℕ) → IsBlockOf held ls ns
    → IsBlockOf held (assumed l u ++ ls) (tag_of u ++ ns)
rule_block held l (rule.Hyp tag) c ls ns b = (c tag refl, b)
rule_block held l rule.Refl c ls ns b = b
rule_block held l (rule.Sym k) c ls ns b = b
rule_block held l (rule.Trans j k) c ls ns b = b
rule_block held l (rule.Cong ks) c ls ns b = b
rule_block held l rule.Ac c ls ns b = b
rule_block held l (rule.Lin d ps) c ls ns b = b
rule_block held l rule.Field c ls ns b = b
rule_block held l (rule.Fields ks) c ls ns b = b

module _ (ts : List Term) (steps : List Step) (held : List Tagged) where
  step_block : (o : Option Step) → ((tag : ℕ) (s : Step) → o ≡ Some s → s.rule ≡ rule.Hyp tag → Contains held (record { lit = literal ts s; tag = tag })) → (ls : List Lit) (ns : List ℕ) → IsBlockOf held ls ns
      → IsBlockOf held (or_else (o >>= λ s. Some (assumed (literal ts s) s.rule)) [] ++ ls) (or_else (o >>= λ s. Some (tag_of s.rule)) [] ++ ns)
  step_block None c ls ns b = b
  step_block (Some s) c ls ns b = rule_block held (literal ts s) s.rule (λ tag e. c tag s refl e) ls ns b

  steps_block : (ks : List ℕ) → ((k tag : ℕ) (s : Step) → IsIn k ks → slice_get steps k ≡ Some s → s.rule ≡ rule.Hyp tag → Contains held (record { lit = literal ts s; tag = tag }))
      → IsBlockOf held (literals ts steps ks) (tags steps ks)
  steps_block [] c = tt
  steps_block (k ∷ ks) c =
      step_block (slice_get steps k) (λ tag s e r. c k tag s (record { place = 0; is = refl }) e r) (literals ts steps ks) (tags steps ks)
      (steps_block ks (λ j tag s i e r. c j tag s (record { place = suc i.place; is = i.is }) e r))

-- ---- sorts
pub equation_sorted : (sig : Signature) (a b : Term) → fact_ok sig (equal a b) ≡ true → formula_ok sig (Eq a b) ≡ true
equation_sorted sig a b o = formula_in_eq sig (is_closed_sort sig) [] a b ∙ o

module _ (sig : Signature) where
  rule_sorted : (l : Lit) (u : Rule) → formula_ok sig l.formula ≡ true → (ls : List Lit) → clause_ok sig ls ≡ true → clause_ok sig (assumed l u ++ ls) ≡ true
  rule_sorted l (rule.Hyp tag) c ls e = and_from (formula_ok sig l.formula) (clause_ok sig ls) c e
  rule_sorted l rule.Refl c ls e = e
  rule_sorted l (rule.Sym k) c ls e = e
  rule_sorted l (rule.Trans j k) c ls e = e
  rule_sorted l (rule.Cong ks) c ls e = e
  rule_sorted l rule.Ac c ls e = e
  rule_sorted l (rule.Lin d ps) c ls e = e
  rule_sorted l rule.Field c ls e = e
  rule_sorted l (rule.Fields ks) c ls e = e

module _ (sig : Signature) (ts : List Term) (steps : List Step) (fits : Fits sig ts steps) where
  -- the literal that a step would assume is well sorted
  pub literal_sorted : (k : ℕ) (s : Step) → slice_get steps k ≡ Some s → formula_ok sig (literal ts s).formula ≡ true
  literal_sorted k s e = equation_sorted sig (side_term ts s.left) (side_term ts s.right) (fits.allowed.each k s e).sorted

  step_sorted : (o : Option Step) → ((s : Step) → o ≡ Some s → formula_ok sig (literal ts s).formula ≡ true) → (ls : List Lit) → clause_ok sig ls ≡ true
      → clause_ok sig (or_else (o >>= λ s. Some (assumed (literal ts s) s.rule)) [] ++ ls) ≡ true
  step_sorted None c ls e = e
  step_sorted (Some s) c ls e = rule_sorted sig (literal ts s) s.rule (c s refl) ls e

  steps_sorted : (ks : List ℕ) → clause_ok sig (literals ts steps ks) ≡ true
  steps_sorted [] = refl
  steps_sorted (k ∷ ks) = step_sorted (slice_get steps k) (literal_sorted k) (literals ts steps ks) (steps_sorted ks)

  -- ---- a derivation
  module _ (id : ℕ) (d : Deriv) (by : Derives sig ts steps id d) where
    pub hyps_sorted : clause_ok sig d.hyps ≡ true
    hyps_sorted = subst (λ ls. clause_ok sig ls ≡ true) (sym by.hyps) (steps_sorted by.needed)

    ends : (lines front : List EqLine) (last : EqLine) (f : Fact) → lines ≡ front ++ last ∷ [] → states last ≡ f → EndsWith lines f
    ends lines front last f e g =
        record {
          last = length front;
          long = (let n = ap length e ∙ length-append front (last ∷ []) in omega (arith, n));
          is = subst (λ ls. Stated ls (length front) f) (sym e) (ap (λ (o : Option EqLine). o >>= λ l. Some (states l)) (get_last front last) ∙ ap Some g);
        }

    pub ends_with : (s : Step) → slice_get steps id ≡ Some s → EndsWith d.lines (fact_of ts s)
    ends_with s e =
        let same : by.step ≡ s = same_Some by.step s (sym by.is ∙ e) in
        ends d.lines by.front by.last (fact_of ts s) by.lines (by.derived ∙ ap (fact_of ts) same)

    pub some_lines : 0 < length d.lines
    some_lines = let e = ends_with by.step by.is in omega (arith, e.long)

    pub block_of : (found : List ℕ) → AreTags steps id found → (held : List (ℕ × Assumed)) → RestsOnAssumed ts steps held id → IsBlockOf (tagged held) d.hyps found
    block_of found t held r =
        let same : found ≡ tags steps by.needed = t.tags_are ∙ ap (tags steps) (needed_same steps id t.needed by.needed t.are_needed by.are_needed) in
        let all : IsBlockOf (tagged held) (literals ts steps by.needed) (tags steps by.needed) =
        steps_block ts steps (tagged held) by.needed (λ k tag s i e q. let a = r.each k tag s (by.are_needed.sound k i) e q in assumed_contains held a.0 (literal ts s) tag a.1) in
        subst (λ ls. IsBlockOf (tagged held) ls found) (sym by.hyps) (subst (λ ns. IsBlockOf (tagged held) (literals ts steps by.needed) ns) (sym same) all)
