-- The lines of steps, and when a step is allowed.
use Rattle.std.specs.Prelude.{ℕ, true, List, [], ◌∷◌, ◌≡◌, ◌⊎◌, map, take, length, slice_get, Some}
use Rattle.ae_rules.specs.Lines.{Fact, equal, Allowed, IsAc, fact_ok}
use Rattle.ae_rules.specs.Built.{HasApplied, HasIntegers, HasUnplain, AreFactorsWithin}
use Rattle.ae_core.specs.declared.terms.Sort.{Sort}
use Rattle.ae_core.specs.declared.terms.Head.{Head}
use Rattle.ae_core.specs.declared.terms.Head.TheVariants as head
use Rattle.ae_core.specs.declared.terms.Term.{Term}
use Rattle.ae_core.specs.declared.formulas.Formula.{Eq}
use Rattle.ae_core.specs.declared.formulas.Lit.{Lit}
use Rattle.ae_core.specs.declared.problems.Signature.{Signature}
use Rattle.ae_core.specs.declared.proofs.Scaled.{Scaled}
use Rattle.ae_core.specs.declared.proofs.EqLine.{EqLine}
use Rattle.ae_core.specs.declared.proofs.EqLine.TheVariants.{EqHyp, EqRefl, EqSym, EqTrans, EqCong, EqAc, EqLin, EqField, EqFields}
use Rattle.ae_just.specs.declared.steps.Side.{Side}
use Rattle.ae_just.specs.declared.steps.Side.TheVariants as side
use Rattle.ae_just.specs.declared.steps.Step.{Step}
use Rattle.ae_just.specs.declared.steps.Rule.{Rule}
use Rattle.ae_just.specs.declared.steps.Rule.TheVariants as rule
use Rattle.ae_just.specs.Sides.{side_term, IsWithin}

-- the equation of a step
abbrev pub fact_of : List Term → Step → Fact
fact_of ts s = equal (side_term ts s.left) (side_term ts s.right)

abbrev pub renamed : (ℕ → ℕ) → Scaled → Scaled
renamed v p = record { factor = p.factor; line = v p.line }

-- a rule, where earlier steps have the numbers v
abbrev pub renamed_rule : (ℕ → ℕ) → Rule → Rule
renamed_rule v (rule.Hyp tag) = rule.Hyp tag
renamed_rule v rule.Refl = rule.Refl
renamed_rule v (rule.Sym k) = rule.Sym (v k)
renamed_rule v (rule.Trans j k) = rule.Trans (v j) (v k)
renamed_rule v (rule.Cong ks) = rule.Cong (map v ks)
renamed_rule v rule.Ac = rule.Ac
renamed_rule v (rule.Lin d ps) = rule.Lin d (map (renamed v) ps)
renamed_rule v rule.Field = rule.Field
renamed_rule v (rule.Fields ks) = rule.Fields (map v ks)

-- the line of a rule, where an assumption has the number h
abbrev pub line_by : ℕ → Term → Term → Rule → EqLine
line_by h l r (rule.Hyp tag) = EqHyp l r h
line_by h l r rule.Refl = EqRefl l r
line_by h l r (rule.Sym k) = EqSym l r k
line_by h l r (rule.Trans j k) = EqTrans l r j k
line_by h l r (rule.Cong ks) = EqCong l r ks
line_by h l r rule.Ac = EqAc l r
line_by h l r (rule.Lin d ps) = EqLin l r d ps
line_by h l r rule.Field = EqField l r
line_by h l r (rule.Fields ks) = EqFields l r ks

abbrev pub line_of : List Term → (ℕ → ℕ) → ℕ → Step → EqLine
line_of ts v h s = line_by h (side_term ts s.left) (side_term ts s.right) (renamed_rule v s.rule)

-- the line of a step with the steps' own numbers
abbrev pub own_line : List Term → Step → EqLine
own_line ts s = line_by 0 (side_term ts s.left) (side_term ts s.right) s.rule

-- the steps that a rule rests on
abbrev pub premises : Rule → List ℕ
premises (rule.Hyp tag) = []
premises rule.Refl = []
premises (rule.Sym k) = k ∷ []
premises (rule.Trans j k) = j ∷ k ∷ []
premises (rule.Cong ks) = ks
premises rule.Ac = []
premises (rule.Lin d ps) = map (λ p. p.line) ps
premises rule.Field = []
premises (rule.Fields ks) = ks

-- an assumption may always stand; another step is an allowed line after the earlier ones
abbrev pub RuleAllowed : Signature → List EqLine → EqLine → Rule → Type 0
RuleAllowed sig earlier l (rule.Hyp tag) = Unit {0}
RuleAllowed sig earlier l _ = Allowed sig [] earlier l

pub record IsAllowedStep (sig : Signature) (ts : List Term) (earlier : List Step) (s : Step) : Type 0 where
  pub sorted : fact_ok sig (fact_of ts s) ≡ true
  pub allowed : RuleAllowed sig (map (own_line ts) earlier) (own_line ts s) s.rule

-- each step is allowed after those before it
pub record AreAllowed (sig : Signature) (ts : List Term) (steps : List Step) : Type 0 where
  pub each : (i : ℕ) (s : Step) → slice_get steps i ≡ Some s → IsAllowedStep sig ts (take i steps) s

-- the literal that a step assumes, and its tag
abbrev pub literal : List Term → Step → Lit
literal ts s = record { positive = true; formula = Eq (side_term ts s.left) (side_term ts s.right) }

abbrev pub assumed : Lit → Rule → List Lit
assumed l (rule.Hyp tag) = l ∷ []
assumed l _ = []

abbrev pub tag_of : Rule → List ℕ
tag_of (rule.Hyp tag) = tag ∷ []
tag_of _ = []

-- the names in a step's sides are below n
abbrev pub IsStepWithin : ℕ → Step → Type 0
IsStepWithin n s = IsWithin n s.left × IsWithin n s.right

pub record AreWithin (n : ℕ) (steps : List Step) : Type 0 where
  pub each : (i : ℕ) (s : Step) → slice_get steps i ≡ Some s → IsStepWithin n s

-- a declared AC symbol, no product, that one of the terms applies with these sorts
abbrev pub IsDeclaredAc : Signature → List Term → Head → List Sort → Type 0
IsDeclaredAc sig ts h ss = (k : ℕ) × (h ≡ head.Symbol k) × IsAc sig (head.Symbol k) × HasApplied ts k ss

-- the symbol of a multiset is declared and one of the terms applies it, or one of the terms isn't plain
abbrev pub IsSymbolOfNames : Signature → List Term → Head → List Sort → Type 0
IsSymbolOfNames sig ts h ss = IsDeclaredAc sig ts h ss ⊎ HasUnplain ts

-- a side has integers only where a name is one, and the factors of a product only where a name isn't plain
abbrev pub IsOfNames : Signature → List Term → Side → Type 0
IsOfNames sig ts (side.Name n) = Unit {0}
IsOfNames sig ts (side.Sum ps c real) = (real ≡ true) ⊎ HasIntegers sig ts
IsOfNames sig ts (side.Many u ns) = IsSymbolOfNames sig ts u.head u.sorts

abbrev pub IsStepOfNames : Signature → List Term → Step → Type 0
IsStepOfNames sig ts s = IsOfNames sig ts s.left × IsOfNames sig ts s.right

pub record AreOfNames (sig : Signature) (ts : List Term) (steps : List Step) : Type 0 where
  pub each : (i : ℕ) (s : Step) → slice_get steps i ≡ Some s → IsStepOfNames sig ts s

-- each factor of a combination has 127 bits beside its sign
abbrev pub AreRuleFactorsWithin : Rule → Type 0
AreRuleFactorsWithin (rule.Lin d ps) = AreFactorsWithin d ps
AreRuleFactorsWithin _ = Unit {0}

pub record AreFactorsKept (steps : List Step) : Type 0 where
  pub each : (i : ℕ) (s : Step) → slice_get steps i ≡ Some s → AreRuleFactorsWithin s.rule

-- the steps fit the terms: each is allowed after those before it, and has names of the store alone, of which its sides are made, and factors within
-- their limits
pub record Fits (sig : Signature) (ts : List Term) (steps : List Step) : Type 0 where
  pub allowed : AreAllowed sig ts steps
  pub within : AreWithin (length ts) steps
  pub built : AreOfNames sig ts steps
  pub factors : AreFactorsKept steps
