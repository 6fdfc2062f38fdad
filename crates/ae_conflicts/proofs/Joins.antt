-- Derivations from assumed literals, one behind the other.
use Rattle.std.specs.Prelude.{ℕ, zero, suc, ◌+◌, ◌-◌, ◌<◌, true, List, [], ◌∷◌, ◌++◌, ◌≡◌, length, take, slice_get, Option, Some}
use Rattle.std.specs.List.{AllByRecursion}
use Rattle.std.proofs.Common.{refl, sym, ap, ◌∙◌, subst, arith, inl, inr}
use Rattle.std.proofs.lemmas.Bool.{and_from, cases_lt}
use Rattle.std.proofs.lemmas.List.{take_more}
use Rattle.std.proofs.lemmas.List.Folds.{list_all-append}
use Rattle.std.proofs.lemmas.Option.{slice_get_within, get_or_from_slice_get, same_Some}
use Rattle.ae_base.specs.Options.{◌>>=◌}
use Rattle.ae_base.proofs.AllOf.{all_at, all_from_places, all_weaker}
use Rattle.ae_base.proofs.ListFacts.{value_at}
use Rattle.ae_core.specs.Sorts.{formula_ok}
use Rattle.ae_core.specs.declared.terms.Term.{Term}
use Rattle.ae_core.specs.declared.formulas.Lit.{Lit}
use Rattle.ae_core.specs.declared.problems.Signature.{Signature}
use Rattle.ae_core.specs.declared.proofs.EqLine.{EqLine}
use Rattle.ae_rules.specs.Built.{HasFactorsWithin, IsBuilt, IsBuiltEquation}
use Rattle.ae_rules.specs.Derivations.{clause_ok}
use Rattle.ae_rules.specs.Lines.{Fact, equal, states, Stated, Equated, AllAllowed, fact_ok}
use Rattle.ae_just.specs.declared.steps.Step.{Step}
use Rattle.ae_theory.specs.Tagged.{Tagged}
use Rattle.ae_theory.specs.Noting.{IsBlockOf}
use Rattle.ae_theory.specs.declared.theory.Derived.{Derived}
use Rattle.ae_conflicts.specs.declared.assumed.Assumed.{Assumed}
use Rattle.ae_conflicts.specs.Saying.{tagged, IsAssumedAt, SaysEqual, SayEqual}
use Rattle.ae_conflicts.specs.Inner.Joining.{IsJoined, IsFrom}
use Rattle.ae_conflicts.proofs.Assumptions.{assumed_contains}

block_append : (held : List Tagged) (ls ms : List Lit) (ns os : List ℕ) → IsBlockOf held ls ns → IsBlockOf held ms os → IsBlockOf held (ls ++ ms) (ns ++ os)
block_append held [] ms [] os a b = b
block_append held [] ms (n ∷ ns) os a b = absurd a
block_append held (l ∷ ls) ms [] os a b = absurd a
block_append held (l ∷ ls) ms (n ∷ ns) os a b = (a.0, block_append held ls ms ns os a.1 b)

-- ---- terms that are built of the names
stated_at : (xs : List EqLine) (i : ℕ) (x : EqLine) → slice_get xs i ≡ Some x → Stated xs i (states x)
stated_at xs i x e = ap (λ (o : Option EqLine). o >>= λ y. Some (states y)) e

-- a line that states what another does, which is built
built_as : (sig : Signature) (ts : List Term) (zs : List EqLine) (i : ℕ) (z x : EqLine) → AllByRecursion HasFactorsWithin zs → slice_get zs i ≡ Some z → Stated zs i (states x) → IsBuiltEquation sig ts x → IsBuiltEquation sig ts z
built_as sig ts zs i z x f e s b =
    let is : states z ≡ states x = same_Some (states z) (states x) (sym (stated_at zs i z e) ∙ s) in
    record {
      equation = ap (λ (f : Fact). f.relation) is ∙ b.equation;
      left = subst (λ (f : Fact). IsBuilt sig ts f.left) (sym is) b.left;
      right = subst (λ (f : Fact). IsBuilt sig ts f.right) (sym is) b.right;
      factors = all_at HasFactorsWithin zs i z f e;
    }

built_joined : (sig : Signature) (ts : List Term) (xs ys zs : List EqLine) → length zs ≡ length xs + length ys → ((k : ℕ) (f : Fact) → Stated xs k f → Stated zs k f) → ((k : ℕ) (f : Fact) → Stated ys k f → Stated zs (length xs + k) f)
    → AllByRecursion HasFactorsWithin zs → AllByRecursion (IsBuiltEquation sig ts) xs → AllByRecursion (IsBuiltEquation sig ts) ys → AllByRecursion (IsBuiltEquation sig ts) zs
built_joined sig ts xs ys zs long before after f a b = all_from_places (IsBuiltEquation sig ts) zs line
  where
    line : (i : ℕ) (z : EqLine) → slice_get zs i ≡ Some z → IsBuiltEquation sig ts z
    line i z e = elim (cases_lt i (length xs)) [
      | inl l ↦ let x = value_at xs i l in built_as sig ts zs i z x.0 f e (before i (states x.0) (stated_at xs i x.0 x.1)) (all_at (IsBuiltEquation sig ts) xs i x.0 a x.1)
      | inr l ↦
          let j = i - length xs in
          let w = slice_get_within zs i z e in
          let y = value_at ys j (omega (arith, long, l, w)) in
          let here : length xs + j ≡ i = omega (arith, l) in
          built_as sig ts zs i z y.0 f e (subst (λ (k : ℕ). Stated zs k (states y.0)) here (after j (states y.0) (stated_at ys j y.0 y.1))) (all_at (IsBuiltEquation sig ts) ys j y.0 b y.1)
    ]

built_factors : (sig : Signature) (ts : List Term) (xs : List EqLine) → AllByRecursion (IsBuiltEquation sig ts) xs → AllByRecursion HasFactorsWithin xs
built_factors sig ts xs a = all_weaker (IsBuiltEquation sig ts) HasFactorsWithin (λ l b. b.factors) xs a

-- both are from assumed literals
pub joined_from : (sig : Signature) (ts : List Term) (held : List (ℕ × Assumed)) (first second both : Derived) → IsFrom sig ts held first → IsFrom sig ts held second → IsJoined first second both → IsFrom sig ts held both
joined_from sig ts held first second both a b j =
    let x = first.deriv.hyps in
    let y = second.deriv.hyps in
    record {
      allowed = j.allowed sig a.allowed b.allowed;
      sorted = ap (clause_ok sig) j.hyps ∙ list_all-append (λ (l : Lit). formula_ok sig l.formula) x y ∙ and_from (clause_ok sig x) (clause_ok sig y) a.sorted b.sorted;
      tags = subst (λ ls. IsBlockOf (tagged held) ls both.tags) (sym j.hyps) (subst (λ ns. IsBlockOf (tagged held) (x ++ y) ns) (sym j.tags) (block_append (tagged held) x y first.tags second.tags a.tags b.tags));
      built = built_joined sig ts first.deriv.lines second.deriv.lines both.deriv.lines j.long j.before j.after
          (j.factors (built_factors sig ts first.deriv.lines a.built) (built_factors sig ts second.deriv.lines b.built)) a.built b.built;
    }

-- a literal alone
pub alone_from : (sig : Signature) (ts : List Term) (held : List (ℕ × Assumed)) (place : ℕ) (lit : Lit) (tag : ℕ) (d : Derived) → IsAssumedAt held place lit tag → formula_ok sig lit.formula ≡ true → d.deriv.hyps ≡ lit ∷ [] → d.tags ≡ tag ∷ []
    → d.deriv.lines ≡ [] → IsFrom sig ts held d
alone_from sig ts held place lit tag d a o hyps tags lines =
    record {
      allowed = subst (λ ls. AllAllowed sig (fact_ok sig) d.deriv.hyps [] ls) (sym lines) tt;
      sorted = ap (clause_ok sig) hyps ∙ and_from (formula_ok sig lit.formula) true o refl;
      tags = subst (λ ls. IsBlockOf (tagged held) ls d.tags) (sym hyps) (subst (λ ns. IsBlockOf (tagged held) (lit ∷ []) ns) (sym tags) (assumed_contains held place lit tag a, tt));
      built = subst (AllByRecursion (IsBuiltEquation sig ts)) (sym lines) tt;
    }

-- ---- what lines equate
pub equated_more : (xs ys : List EqLine) → ((k : ℕ) (f : Fact) → Stated xs k f → Stated ys k f) → (ks : List ℕ) (us vs : List Term) → Equated xs ks us vs → Equated ys ks us vs
equated_more xs ys m [] [] [] e = tt
equated_more xs ys m (k ∷ ks) (u ∷ us) (v ∷ vs) e = (m k (equal u v) e.0, equated_more xs ys m ks us vs e.1)
equated_more xs ys m [] [] (v ∷ vs) e = absurd e
equated_more xs ys m [] (u ∷ us) vs e = absurd e
equated_more xs ys m (k ∷ ks) [] vs e = absurd e
equated_more xs ys m (k ∷ ks) (u ∷ us) [] e = absurd e

pub equated_push : (xs : List EqLine) (ks : List ℕ) (us vs : List Term) (k : ℕ) (u v : Term) → Equated xs ks us vs → Stated xs k (equal u v) → Equated xs (ks ++ k ∷ []) (us ++ u ∷ []) (vs ++ v ∷ [])
equated_push xs [] [] [] k u v e s = (s, tt)
equated_push xs (j ∷ ks) (a ∷ us) (b ∷ vs) k u v e s = (e.0, equated_push xs ks us vs k u v e.1 s)
equated_push xs [] [] (b ∷ vs) k u v e s = absurd e
equated_push xs [] (a ∷ us) vs k u v e s = absurd e
equated_push xs (j ∷ ks) [] vs k u v e s = absurd e
equated_push xs (j ∷ ks) (a ∷ us) [] k u v e s = absurd e

-- ---- what steps say of two lists
pub say_length : (ts : List Term) (steps : List Step) (held : List (ℕ × Assumed)) (ids : List ℕ) (us vs : List Term) → SayEqual ts steps held ids us vs → (length us ≡ length ids) × (length vs ≡ length ids)
say_length ts steps held [] [] [] s = (refl, refl)
say_length ts steps held (k ∷ ks) (u ∷ us) (v ∷ vs) s = let e = say_length ts steps held ks us vs s.1 in (omega (arith, e.0), omega (arith, e.1))
say_length ts steps held [] [] (v ∷ vs) s = absurd s
say_length ts steps held [] (u ∷ us) vs s = absurd s
say_length ts steps held (k ∷ ks) [] vs s = absurd s
say_length ts steps held (k ∷ ks) (u ∷ us) [] s = absurd s

-- what the step at a place says
pub record SaysAt (ts : List Term) (steps : List Step) (held : List (ℕ × Assumed)) (id at : ℕ) (us vs : List Term) : Type 0 where
  pub left : Term
  pub right : Term
  pub left_at : slice_get us at ≡ Some left
  pub right_at : slice_get vs at ≡ Some right
  pub says : SaysEqual ts steps held id left right

pub say_at : (ts : List Term) (steps : List Step) (held : List (ℕ × Assumed)) (ids : List ℕ) (us vs : List Term) → SayEqual ts steps held ids us vs → (at id : ℕ) → slice_get ids at ≡ Some id → SaysAt ts steps held id at us vs
say_at ts steps held [] us vs s at id e = absurd (let w : at < 0 = slice_get_within [] at id e in omega (arith, w))
say_at ts steps held (k ∷ ks) (u ∷ us) (v ∷ vs) s zero id e =
    let same : k ≡ id = cc e in
    record { left = u; right = v; left_at = refl; right_at = refl; says = subst (λ n. SaysEqual ts steps held n u v) same s.0 }
say_at ts steps held (k ∷ ks) (u ∷ us) (v ∷ vs) s (suc at) id e =
    let r = say_at ts steps held ks us vs s.1 at id e in record { left = r.left; right = r.right; left_at = r.left_at; right_at = r.right_at; says = r.says }
say_at ts steps held (k ∷ ks) [] vs s at id e = absurd s
say_at ts steps held (k ∷ ks) (u ∷ us) [] s at id e = absurd s

pub take_next : (us : List Term) (at : ℕ) (u : Term) → slice_get us at ≡ Some u → take (at + 1) us ≡ take at us ++ u ∷ []
take_next us at u e = take_more us at u (slice_get_within us at u e) ∙ ap (λ x. take at us ++ x ∷ []) (get_or_from_slice_get us at u u e)
