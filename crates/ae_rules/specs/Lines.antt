-- The derived lines of a block: what each states, when it is allowed after the earlier ones, and what follows from hypotheses.
use Rattle.std.specs.Prelude.{ℕ, zero, suc, ℤ, pos, ◌<ℤ◌, ◌≤ℤ◌, ◌+ℤ◌, ◌-ℤ◌, ◌*ℤ◌, ◌⊎◌, Bool, true, false, ◌&&◌, List, [], ◌∷◌, ◌++◌, ◌≡◌, ◌≢◌, ◌↔◌, map, length, slice_get, Some}
use Rattle.std.specs.List.{AllByRecursion}
use Rattle.std.specs.List.Sorted.{IsPermutation}
use Rattle.ae_math.specs.Fractions.{zero_ℚ, whole, ◌*ℚ◌}
use Rattle.ae_math.specs.Forms.{plus, minus, scale, number}
use Rattle.ae_base.specs.Decided.{pick}
use Rattle.ae_core.specs.Decided.{Head_discrete, Sorts_discrete}
use Rattle.ae_rules.specs.Linear.{Linear, form, factor_of, IsSame, is_plain}
use Rattle.ae_core.specs.Sorts.{sort_of, same_known, same_numeric}
use Rattle.ae_base.specs.Options.{◌>>=◌}
use Rattle.ae_core.specs.declared.terms.Sort.{Sort, Int, Real, Named}
use Rattle.ae_core.specs.declared.terms.Term.{Term, Term-F, Bound, Num, Fresh, Apply, para-Term}
use Rattle.ae_core.specs.declared.terms.Term.TheOpen as layer
use Rattle.ae_core.specs.declared.terms.Head.{Head}
use Rattle.ae_core.specs.declared.terms.Head.TheVariants as head
use Rattle.ae_core.specs.declared.terms.Op.TheVariants as op
use Rattle.ae_core.specs.declared.formulas.Formula.{Formula, Eq, Lt, Le}
use Rattle.ae_core.specs.declared.formulas.Lit.{Lit}
use Rattle.ae_core.specs.declared.problems.Signature.{Signature}
use Rattle.ae_core.specs.declared.problems.SymbolEntry.{SymbolEntry}
use Rattle.ae_core.specs.declared.problems.Nature.TheVariants.{Ac}
use Rattle.ae_core.specs.declared.problems.Kind.TheVariants.{Fields}
use Rattle.ae_core.specs.declared.proofs.EqLine.{EqLine}
use Rattle.ae_core.specs.declared.proofs.EqLine.TheVariants.{EqHyp, EqRefl, EqSym, EqTrans, EqCong, EqAc, EqLin, EqField, EqFields, LeHyp, LtHyp, LeSum, LtSum, LeRound}
use Rattle.ae_core.specs.declared.proofs.Scaled.{Scaled}
use Rattle.std.specs.Int.{◌∣◌}
use Rattle.ae_core.specs.declared.problems.TypeEntry.{TypeEntry}
use Rattle.ae_core.specs.declared.problems.FieldEntry.{FieldEntry}
use Rattle.ae_core.specs.declared.proofs.Relation.{Relation}
use Rattle.ae_core.specs.declared.proofs.Relation.TheVariants.{Equal, AtMost, Below}

-- what a line states: two terms that are equal, or the first at most or below the second
pub record Fact : Type 0 where
  pub relation : Relation
  pub left : Term
  pub right : Term

abbrev pub equal : Term → Term → Fact
equal s t = record { relation = Equal; left = s; right = t }

abbrev pub at_most : Term → Term → Fact
at_most s t = record { relation = AtMost; left = s; right = t }

abbrev pub below : Term → Term → Fact
below s t = record { relation = Below; left = s; right = t }

abbrev pub states : EqLine → Fact
states (EqHyp s t i) = equal s t
states (EqRefl s t) = equal s t
states (EqSym s t k) = equal s t
states (EqTrans s t j k) = equal s t
states (EqCong s t ks) = equal s t
states (EqAc s t) = equal s t
states (EqLin s t d ps) = equal s t
states (EqField s t) = equal s t
states (EqFields s t ks) = equal s t
states (LeHyp s t i) = at_most s t
states (LtHyp s t i) = below s t
states (LeSum s t d ps) = at_most s t
states (LtSum s t d ps) = below s t
states (LeRound s t k) = at_most s t

-- the earlier line of this number states the fact
abbrev pub Stated : List EqLine → ℕ → Fact → Type 0
Stated earlier k f = (slice_get earlier k >>= λ l. Some (states l)) ≡ Some f

-- the hypothesis of this number is the literal
abbrev pub Given : List Lit → ℕ → Bool → Formula → Type 0
Given hyps i sign f = slice_get hyps i ≡ Some (record { positive = sign; formula = f })

-- the earlier lines of these numbers equate the terms of two lists, one by one
abbrev pub Equated : List EqLine → List ℕ → List Term → List Term → Type 0
Equated earlier [] [] [] = Unit {0}
Equated earlier (k ∷ ks) (u ∷ us) (v ∷ vs) = Stated earlier k (equal u v) × Equated earlier ks us vs
Equated earlier _ _ _ = ⊥

-- ---- associative and commutative symbols
-- a declared symbol of that nature, or the product of a numeric sort
abbrev pub IsAc : Signature → Head → Type 0
IsAc sig (head.Symbol n) = (e : SymbolEntry) × (slice_get sig.symbols n ≡ Some e) × (e.nature ≡ Ac)
IsAc sig (head.Int op.Mul) = Unit {0}
IsAc sig (head.Real op.Mul) = Unit {0}
IsAc sig _ = ⊥

-- a term flattened under a symbol of two arguments: the arguments of nested applications of it with these sorts, from left to right
abbrev pub flat_step : Head → List Sort → Term-F (Term × List Term) → List Term
flat_step h ss (layer.Apply h' ss' (a ∷ b ∷ [])) =
    pick (Head_discrete h h') (pick (Sorts_discrete ss ss') (a.1 ++ b.1) (Apply h' ss' (a.0 ∷ b.0 ∷ []) ∷ [])) (Apply h' ss' (a.0 ∷ b.0 ∷ []) ∷ [])
flat_step h ss (layer.Apply h' ss' args) = Apply h' ss' (map (λ a. a.0) args) ∷ []
flat_step h ss (layer.Bound n) = Bound n ∷ []
flat_step h ss (layer.Num a b r) = Num a b r ∷ []
flat_step h ss (layer.Fresh n s) = Fresh n s ∷ []

unfoldable pub flat : Head → List Sort → Term → List Term
flat h ss = para-Term (List Term) (flat_step h ss)

-- ---- sums of earlier lines
-- the right side minus the left side
abbrev pub gap : Fact → Linear
gap f = minus (form f.right) (form f.left)

-- the parts name earlier lines: each fact is what its line states, with the part's factor
abbrev pub Combined : List EqLine → List Scaled → List (ℤ × Fact) → Type 0
Combined earlier [] [] = Unit {0}
Combined earlier (p ∷ ps) (f ∷ fs) = (p.factor ≡ f.0) × Stated earlier p.line f.1 × Combined earlier ps fs
Combined earlier _ _ = ⊥

-- the sum of the facts' gaps, each times its factor
abbrev pub total : List (ℤ × Fact) → Linear
total [] = number zero_ℚ
total (f ∷ fs) = plus (scale (whole f.0) (gap f.1)) (total fs)

-- both terms are closed and have the sort
abbrev pub HaveSort : Signature → Sort → Fact → Type 0
HaveSort sig s f = (sort_of sig f.left ≡ Some s) × (sort_of sig f.right ≡ Some s)

abbrev pub IsNumeric : Sort → Type 0
IsNumeric s = (s ≡ Int) ⊎ (s ≡ Real)

-- both terms are of one numeric sort
abbrev pub AreNumbers : Signature → Fact → Type 0
AreNumbers sig f = (s : Sort) × IsNumeric s × HaveSort sig s f

-- an equation counts any number of times, an inequality a positive number of times
abbrev pub MayCount : ℤ × Fact → Type 0
MayCount f = elim (f.1).relation [ Equal ↦ Unit {0} | AtMost ↦ pos 0 <ℤ f.0 | Below ↦ pos 0 <ℤ f.0 ]

-- one of the lines is strict
abbrev pub SomeBelow : List (ℤ × Fact) → Type 0
SomeBelow [] = ⊥
SomeBelow (f ∷ fs) = ((f.1).relation ≡ Below) ⊎ SomeBelow fs

abbrev pub IsEqual : ℤ × Fact → Type 0
IsEqual f = (f.1).relation ≡ Equal

-- d times the gap of the fact is the sum, and all terms are of one numeric sort
pub record SumsTo (sig : Signature) (d : ℤ) (fact : Fact) (fs : List (ℤ × Fact)) : Type 0 where
  pub sort : Sort
  pub numeric : IsNumeric sort
  pub sorted : HaveSort sig sort fact
  pub all_sorted : AllByRecursion (λ f. HaveSort sig sort f.1) fs
  pub sums : IsSame (scale (whole d) (gap fact)) (total fs)

-- ---- records
-- the fields of a record t of type n, those from number i on, k of them
abbrev pub fields_from : ℕ → List Sort → Term → ℕ → ℕ → List Term
fields_from n ss t i zero = []
fields_from n ss t i (suc k) = Apply (head.Field n i) ss (t ∷ []) ∷ fields_from n ss t (suc i) k

-- two terms of one record sort, each of whose fields the lines equate
abbrev pub AllowedFields : Signature → List EqLine → Term → Term → List ℕ → Type 0
AllowedFields sig earlier s t ks =
    (n : ℕ) × (ss : List Sort) × (e : TypeEntry) × (fs : List FieldEntry) × (slice_get sig.types n ≡ Some e) × (e.kind ≡ Fields fs)
    × HaveSort sig (Named n ss) (equal s t) × Equated earlier ks (fields_from n ss s 0 (length fs)) (fields_from n ss t 0 (length fs))

-- ---- rounding of integers
-- each factor is an integer times d
abbrev pub AreMultiples : Linear → ℕ → Type 0
AreMultiples f d = (u : Term) → (z : ℤ) × (factor_of f u ≡ whole (z *ℤ pos d))

-- p < q of integers says p ≤ q - 1
abbrev pub slack : Relation → ℤ → ℤ
slack Below k = k -ℤ pos 1
slack _ k = k

-- r is the greatest integer whose product with d isn't above k
pub record IsFloor (k : ℤ) (d : ℕ) (r : ℤ) : Type 0 where
  pub at_least : (r *ℤ pos d) ≤ℤ k
  pub less : k <ℤ ((r +ℤ pos 1) *ℤ pos d)

-- the inequality of integers `from` says that a sum of terms with integer factors, and an integer, isn't negative. Divided by the greatest
-- common divisor of the factors and rounded down, it says the same of `t - s`.
pub record Rounds (sig : Signature) (from : Fact) (s t : Term) : Type 0 where
  pub inequality : from.relation ≢ Equal
  pub sorted : HaveSort sig Int from × HaveSort sig Int (at_most s t)
  pub occurs : (u : Term) × (factor_of (gap from) u ≢ zero_ℚ)
  pub divisor : ℕ
  pub divides : AreMultiples (gap from) divisor
  pub greatest : (d : ℕ) → AreMultiples (gap from) d → d ∣ divisor
  pub factors : (u : Term) → whole (pos divisor) *ℚ factor_of (gap (at_most s t)) u ≡ factor_of (gap from) u
  pub constant : ℤ
  pub is : (gap from).constant ≡ whole constant
  pub rounded : ℤ
  pub floor : IsFloor (slack from.relation constant) divisor rounded
  pub down : (gap (at_most s t)).constant ≡ whole rounded

-- ---- when a line is allowed
-- line j is `s = m` and line k is `m = t`, for some m
abbrev pub AllowedTrans : List EqLine → Term → Term → ℕ → ℕ → Type 0
AllowedTrans earlier s t j k = (m : Term) × Stated earlier j (equal s m) × Stated earlier k (equal m t)

-- two applications of one head with one list of sorts, whose arguments the lines equate
abbrev pub AllowedCong : List EqLine → Term → Term → List ℕ → Type 0
AllowedCong earlier s t ks =
    (h : Head) × (ss : List Sort) × (us : List Term) × (vs : List Term) × (s ≡ Apply h ss us) × (t ≡ Apply h ss vs) × Equated earlier ks us vs

-- two applications of one associative and commutative symbol that are the same multiset, flattened under it
abbrev pub AllowedAc : Signature → Term → Term → Type 0
AllowedAc sig s t =
    (h : Head) × (ss : List Sort) × IsAc sig h × (us : List Term) × (vs : List Term) × (s ≡ Apply h ss us) × (t ≡ Apply h ss vs) × IsPermutation (flat h ss s) (flat h ss t)

abbrev pub AllowedLin : Signature → List EqLine → Term → Term → ℤ → List Scaled → Type 0
AllowedLin sig earlier s t d ps = (d ≢ pos 0) × (fs : List (ℤ × Fact)) × Combined earlier ps fs × AllByRecursion IsEqual fs × SumsTo sig d (equal s t) fs

-- a field of a written record, and what stands in that field
abbrev pub AllowedField : Term → Term → Type 0
AllowedField s t =
    (n : ℕ) × (place : ℕ) × (ss : List Sort) × (args : List Term) × (s ≡ Apply (head.Field n place) ss (Apply (head.Build n) ss args ∷ [])) × (slice_get args place ≡ Some t)

abbrev pub AllowedLeSum : Signature → List EqLine → Term → Term → ℤ → List Scaled → Type 0
AllowedLeSum sig earlier s t d ps = (pos 0 <ℤ d) × (fs : List (ℤ × Fact)) × Combined earlier ps fs × AllByRecursion MayCount fs × SumsTo sig d (at_most s t) fs

abbrev pub AllowedLtSum : Signature → List EqLine → Term → Term → ℤ → List Scaled → Type 0
AllowedLtSum sig earlier s t d ps =
    (pos 0 <ℤ d) × (fs : List (ℤ × Fact)) × Combined earlier ps fs × AllByRecursion MayCount fs × SomeBelow fs × SumsTo sig d (below s t) fs

abbrev pub AllowedRound : Signature → List EqLine → Term → Term → ℕ → Type 0
AllowedRound sig earlier s t k = (from : Fact) × Stated earlier k from × Rounds sig from s t

-- the rule of a line allows it after the earlier ones
abbrev pub Allowed : Signature → List Lit → List EqLine → EqLine → Type 0
Allowed sig hyps earlier (EqHyp s t i) = Given hyps i true (Eq s t)
Allowed sig hyps earlier (EqRefl s t) = s ≡ t
Allowed sig hyps earlier (EqSym s t k) = Stated earlier k (equal t s)
Allowed sig hyps earlier (EqTrans s t j k) = AllowedTrans earlier s t j k
Allowed sig hyps earlier (EqCong s t ks) = AllowedCong earlier s t ks
Allowed sig hyps earlier (EqAc s t) = AllowedAc sig s t
Allowed sig hyps earlier (EqLin s t d ps) = AllowedLin sig earlier s t d ps
Allowed sig hyps earlier (EqField s t) = AllowedField s t
Allowed sig hyps earlier (EqFields s t ks) = AllowedFields sig earlier s t ks
Allowed sig hyps earlier (LeHyp s t i) = Given hyps i true (Le s t) ⊎ Given hyps i false (Lt t s)
Allowed sig hyps earlier (LtHyp s t i) = Given hyps i true (Lt s t) ⊎ Given hyps i false (Le t s)
Allowed sig hyps earlier (LeSum s t d ps) = AllowedLeSum sig earlier s t d ps
Allowed sig hyps earlier (LtSum s t d ps) = AllowedLtSum sig earlier s t d ps
Allowed sig hyps earlier (LeRound s t k) = AllowedRound sig earlier s t k

-- the two terms are closed and have one sort, which is numeric where they are compared
abbrev pub fact_ok : Signature → Fact → Bool
fact_ok sig f =
    elim f.relation [
      | Equal ↦ same_known (sort_of sig f.left) (sort_of sig f.right)
      | AtMost ↦ same_numeric (sort_of sig f.left) (sort_of sig f.right)
      | Below ↦ same_numeric (sort_of sig f.left) (sort_of sig f.right)
    ]

-- each line states a fact that is `ok`, and is allowed after those before it
abbrev pub AllAllowed : Signature → (Fact → Bool) → List Lit → List EqLine → List EqLine → Type 0
AllAllowed sig ok hyps earlier [] = Unit {0}
AllAllowed sig ok hyps earlier (l ∷ ls) = ((ok (states l) ≡ true) × Allowed sig hyps earlier l) × AllAllowed sig ok hyps (earlier ++ l ∷ []) ls

-- the facts that follow from literals, one case for each rule; every fact on the way is `ok`
mutual
  pub data Follows (sig : Signature) (ok : Fact → Bool) (hyps : Lit → Type 0) : Fact → Type 0 where
    by_hyp : {s t : Term} → hyps (record { positive = true; formula = Eq s t }) → ok (equal s t) ≡ true → Follows sig ok hyps (equal s t)
    by_refl : {s : Term} → ok (equal s s) ≡ true → Follows sig ok hyps (equal s s)
    by_sym : {s t : Term} → Follows sig ok hyps (equal t s) → ok (equal s t) ≡ true → Follows sig ok hyps (equal s t)
    by_trans : {s m t : Term} → Follows sig ok hyps (equal s m) → Follows sig ok hyps (equal m t) → ok (equal s t) ≡ true → Follows sig ok hyps (equal s t)
    by_cong : (h : Head) (ss : List Sort) {us vs : List Term} → FollowAll sig ok hyps us vs → ok (equal (Apply h ss us) (Apply h ss vs)) ≡ true → Follows sig ok hyps (equal (Apply h ss us) (Apply h ss vs))
    by_ac : {s t : Term} (h : Head) (ss : List Sort) (us vs : List Term) → IsAc sig h → s ≡ Apply h ss us → t ≡ Apply h ss vs → IsPermutation (flat h ss s) (flat h ss t) → ok (equal s t) ≡ true → Follows sig ok hyps (equal s t)
    by_lin : {s t : Term} (d : ℤ) (fs : List (ℤ × Fact)) → d ≢ pos 0 → AllByRecursion IsEqual fs → SumsTo sig d (equal s t) fs → FollowEach sig ok hyps fs → ok (equal s t) ≡ true → Follows sig ok hyps (equal s t)
    by_field : (n place : ℕ) (ss : List Sort) (args : List Term) {t : Term} → slice_get args place ≡ Some t → ok (equal (Apply (head.Field n place) ss (Apply (head.Build n) ss args ∷ [])) t) ≡ true → Follows sig ok hyps (equal (Apply (head.Field n place) ss (Apply (head.Build n) ss args ∷ [])) t)
    by_le_hyp : {s t : Term} → hyps (record { positive = true; formula = Le s t }) ⊎ hyps (record { positive = false; formula = Lt t s }) → ok (at_most s t) ≡ true → Follows sig ok hyps (at_most s t)
    by_lt_hyp : {s t : Term} → hyps (record { positive = true; formula = Lt s t }) ⊎ hyps (record { positive = false; formula = Le t s }) → ok (below s t) ≡ true → Follows sig ok hyps (below s t)
    by_le_sum : {s t : Term} (d : ℤ) (fs : List (ℤ × Fact)) → pos 0 <ℤ d → AllByRecursion MayCount fs → SumsTo sig d (at_most s t) fs → FollowEach sig ok hyps fs → ok (at_most s t) ≡ true → Follows sig ok hyps (at_most s t)
    by_fields : {s t : Term} (n : ℕ) (ss : List Sort) (e : TypeEntry) (fs : List FieldEntry) → slice_get sig.types n ≡ Some e → e.kind ≡ Fields fs → HaveSort sig (Named n ss) (equal s t) → FollowAll sig ok hyps (fields_from n ss s 0 (length fs)) (fields_from n ss t 0 (length fs)) → ok (equal s t) ≡ true → Follows sig ok hyps (equal s t)
    by_round : {s t : Term} (from : Fact) → Rounds sig from s t → Follows sig ok hyps from → ok (at_most s t) ≡ true → Follows sig ok hyps (at_most s t)
    by_lt_sum : {s t : Term} (d : ℤ) (fs : List (ℤ × Fact)) → pos 0 <ℤ d → AllByRecursion MayCount fs → SomeBelow fs → SumsTo sig d (below s t) fs → FollowEach sig ok hyps fs → ok (below s t) ≡ true → Follows sig ok hyps (below s t)

  -- two lists of terms that are equal one by one
  pub data FollowAll (sig : Signature) (ok : Fact → Bool) (hyps : Lit → Type 0) : List Term → List Term → Type 0 where
    none : FollowAll sig ok hyps [] []
    more : {u v : Term} {us vs : List Term} → Follows sig ok hyps (equal u v) → FollowAll sig ok hyps us vs → FollowAll sig ok hyps (u ∷ us) (v ∷ vs)

  -- facts that follow, each with a factor that means nothing here
  pub data FollowEach (sig : Signature) (ok : Fact → Bool) (hyps : Lit → Type 0) : List (ℤ × Fact) → Type 0 where
    no_fact : FollowEach sig ok hyps []
    a_fact : {f : ℤ × Fact} {fs : List (ℤ × Fact)} → Follows sig ok hyps f.1 → FollowEach sig ok hyps fs → FollowEach sig ok hyps (f ∷ fs)

abbrev pub Among : List Lit → Lit → Type 0
Among hs l = (k : ℕ) × (slice_get hs k ≡ Some l)

-- the literal is one of the equations
abbrev pub Equations : (Term → Term → Type 0) → Lit → Type 0
Equations E l = (u : Term) × (v : Term) × E u v × (l ≡ record { positive = true; formula = Eq u v })

-- equational consequence: the pairs of terms that are equal where the equations E hold
abbrev pub Conseq : Signature → (Term → Term → Type 0) → Term → Term → Type 0
Conseq sig E s t = Follows sig (fact_ok sig) (Equations E) (equal s t)

-- the two terms are plain too
abbrev pub plain_ok : Signature → Fact → Bool
plain_ok sig f = fact_ok sig f && is_plain f.left && is_plain f.right

-- consequence within the plain fragment: plain terms alone on the way
abbrev pub PlainConseq : Signature → (Term → Term → Type 0) → Term → Term → Type 0
PlainConseq sig E s t = Follows sig (plain_ok sig) (Equations E) (equal s t)

-- allowed lines that state a fact
pub record Shown (sig : Signature) (ok : Fact → Bool) (hyps : List Lit) (f : Fact) : Type 0 where
  pub lines : List EqLine
  pub all : AllAllowed sig ok hyps [] lines
  pub at : ℕ
  pub is : Stated lines at f

-- what follows is what allowed lines state
abbrev pub FollowsAsWritten : Type 0
FollowsAsWritten = (sig : Signature) (ok : Fact → Bool) (hyps : List Lit) (f : Fact) → Follows sig ok (Among hyps) f ↔ Shown sig ok hyps f
