-- Laws of the conditions of arithmetic, by the sort of an operand as it stands.
use Rattle.std.proofs.Common.{◌≡◌, ℕ, ◌↔◌, inl, inr, true, false, List, ◌∷◌, map, refl, ap, sym, ◌∙◌, subst, arith, true≢false}
use Rattle.ae_core.specs.Inner.Induction.{by_sorts}
use Rattle.ae_core.specs.declared.terms.Sort.{Sort, Sort-F, Var, Rigid, Int, Real, Bool as BoolSort, Unit as UnitSort, Named, out-Sort}
use Rattle.ae_core.specs.declared.terms.Sort.TheOpen as layer
use Rattle.ae_core.specs.declared.terms.Sort.TheVariants.{outs-Var, outs-Rigid, outs-Int, outs-Real, outs-Bool, outs-Unit, outs-Named}
use Rattle.ae_types.specs.Substitutions.{put, MakesEqual, Respects, IsIdempotent}
use Rattle.ae_syntax.specs.declared.spans.Span.{Span}
use Rattle.ae_elab.specs.declared.numbers.Numbers.{Numbers}
use Rattle.ae_elab.specs.declared.numbers.Numbers.TheVariants.{IntAlone, IntOrReal}
use Rattle.ae_elab.specs.declared.faults.TypeFault.{TypeFault}
use Rattle.ae_elab.specs.Conditions.{Possible, First, IsOneOf, sorts_among, Demand, demands, shown, mismatch, or_int, has_operand_sort, may_be, becomes}
use Rattle.ae_elab.specs.Steps.{IsMet, IsNotMet, may_stand, is_open, operand_fault}
use Rattle.ae_elab.proofs.PutLaws.{put_rigid, put_real, put_bool, put_unit, put_named}
use Rattle.ae_elab.proofs.StepLaws.{Best, as_best, met, possible_open, possible_int, possible_real, possible_none, first_open, first_int, first_real, first_none, open_is_taken, shown_unchanged, same_refused, shows_mismatch}

pub ruleset stand_rules = (outs-Var, outs-Rigid, outs-Int, outs-Real, outs-Bool, outs-Unit, outs-Named)

-- ---- how a sort stands
pub data Stands (n : Numbers) (t : Sort) : Type 0 where
  open_ : (x : ℕ) → t ≡ Var x → may_stand n (out-Sort t) ≡ true → Stands n t
  at_int : t ≡ Int → may_stand n (out-Sort t) ≡ true → Stands n t
  at_real : n ≡ IntOrReal → t ≡ Real → may_stand n (out-Sort t) ≡ true → Stands n t
  never : ((g : ℕ → Sort) → IsOneOf (put g t) (sorts_among n) → ⊥) → may_stand n (out-Sort t) ≡ false → Stands n t

-- a sort that is neither an unknown nor a number, by its layer
abbrev kind : Sort-F Sort → ℕ
kind (layer.Var i) = 0
kind layer.Int = 1
kind layer.Real = 2
kind _ = 3

abbrev kind_of : Sort → ℕ
kind_of t = kind (out-Sort t)

three_one : (a : ℕ) → a ≡ 3 → a ≡ 1 → ⊥
three_one a e f = omega arith

three_two : (a : ℕ) → a ≡ 3 → a ≡ 2 → ⊥
three_two a e f = omega arith

two_one : (a : ℕ) → a ≡ 2 → a ≡ 1 → ⊥
two_one a e f = omega arith

no_sort : (n : Numbers) (t : Sort) → kind_of t ≡ 3 → IsOneOf t (sorts_among n) → ⊥
no_sort IntAlone t k (inl e) = three_one (kind_of t) k (ap kind_of e ∙ ap kind outs-Int)
no_sort IntOrReal t k (inl e) = three_one (kind_of t) k (ap kind_of e ∙ ap kind outs-Int)
no_sort IntAlone t k (inr h) = h
no_sort IntOrReal t k (inr h) = elim h [ inl e ↦ three_two (kind_of t) k (ap kind_of e ∙ ap kind outs-Real) | inr z ↦ z ]

-- a sort of which the layer stays whatever is put
stays_other : (n : Numbers) (t : Sort) → may_stand n (out-Sort t) ≡ false → ((g : ℕ → Sort) → kind_of (put g t) ≡ 3) → Stands n t
stays_other n t e k = never (λ g h. no_sort n (put g t) (k g) h) e

real_alone : (g : ℕ → Sort) → IsOneOf (put g Real) (sorts_among IntAlone) → ⊥
real_alone g (inl e) = two_one (kind_of (put g Real)) (ap kind_of (put_real g) ∙ ap kind outs-Real) (ap kind_of e ∙ ap kind outs-Int)
real_alone g (inr h) = h

at_real_sort : (n : Numbers) → Stands n Real
at_real_sort IntAlone = never real_alone (ap (may_stand IntAlone) outs-Real)
at_real_sort IntOrReal = at_real refl refl (ap (may_stand IntOrReal) outs-Real)

pub stands : (n : Numbers) (t : Sort) → Stands n t
stands n = by_sorts (Stands n)
    (λ i. open_ i refl (ap (may_stand n) (outs-Var i)))
    (λ i. stays_other n (Rigid i) (ap (may_stand n) (outs-Rigid i)) (λ g. ap kind_of (put_rigid g i) ∙ ap kind (outs-Rigid i)))
    (at_int refl (ap (may_stand n) outs-Int))
    (at_real_sort n)
    (stays_other n BoolSort (ap (may_stand n) outs-Bool) (λ g. ap kind_of (put_bool g) ∙ ap kind outs-Bool))
    (stays_other n UnitSort (ap (may_stand n) outs-Unit) (λ g. ap kind_of (put_unit g) ∙ ap kind outs-Unit))
    (λ h ss a. stays_other n (Named h ss) (ap (may_stand n) (outs-Named h ss)) (λ g. ap kind_of (put_named g h ss) ∙ ap kind (outs-Named h (map (put g) ss))))

-- ---- an operand that may be a number
possible_at : (n : Numbers) (m : ℕ → Sort) (s : Sort) (before : List Demand) → Best before m → Stands n (put m s) → may_stand n (out-Sort (put m s)) ≡ true → Best (Possible n s ∷ before) m
possible_at n m s before b (open_ x e k) h = possible_open before m n s x b e
possible_at n m s before b (at_int e k) h = possible_int before m n s b e
possible_at n m s before b (at_real i e k) h = subst (λ z. Best (Possible z s ∷ before) m) (sym i) (possible_real before m s b e)
possible_at n m s before b (never f k) h = absurd (true≢false (sym h ∙ k))

pub possible_met : (p : Span) (n : Numbers) (m : ℕ → Sort) (s t : Sort) → t ≡ put m s → may_stand n (out-Sort t) ≡ true → IsMet (may_be p n s) m m
possible_met p n m s t e h cs pr =
    met cs (may_be p n s) m (possible_at n m s (demands cs) (as_best cs m pr) (stands n (put m s)) (subst (λ x. may_stand n (out-Sort x) ≡ true) e h))

never_at : (n : Numbers) (t : Sort) → Stands n t → may_stand n (out-Sort t) ≡ false → (g : ℕ → Sort) → IsOneOf (put g t) (sorts_among n) → ⊥
never_at n t (open_ x e k) h = absurd (true≢false (sym k ∙ h))
never_at n t (at_int e k) h = absurd (true≢false (sym k ∙ h))
never_at n t (at_real i e k) h = absurd (true≢false (sym k ∙ h))
never_at n t (never f k) h = f

pub possible_not_met : (p : Span) (n : Numbers) (m : ℕ → Sort) (s t : Sort) (e : TypeFault) → t ≡ put m s → may_stand n (out-Sort t) ≡ false
    → e ≡ mismatch p Int (put (shown m) s) → IsNotMet (may_be p n s) m e
possible_not_met p n m s t e i h k =
    shows_mismatch (may_be p n s) m p Int (put (shown m) s) e k refl
    (λ cs pr f. possible_none (demands cs) m n s (as_best cs m pr) (never_at n (put m s) (stands n (put m s)) (subst (λ x. may_stand n (out-Sort x) ≡ false) i h)) f)

-- ---- an operand that becomes a number
closed_off : (t : Sort) (k : Sort-F Sort) → out-Sort t ≡ k → is_open k ≡ false → is_open (out-Sort t) ≡ true → ⊥
closed_off t k a b h = true≢false (sym h ∙ ap is_open a ∙ b)

open_var : (t : Sort) → is_open (out-Sort t) ≡ true → (x : ℕ) × (t ≡ Var x)
open_var = by_sorts (λ t. is_open (out-Sort t) ≡ true → (x : ℕ) × (t ≡ Var x))
    (λ i h. (i, refl))
    (λ i h. absurd (closed_off (Rigid i) (layer.Rigid i) (outs-Rigid i) refl h))
    (λ h. absurd (closed_off Int layer.Int outs-Int refl h))
    (λ h. absurd (closed_off Real layer.Real outs-Real refl h))
    (λ h. absurd (closed_off BoolSort layer.Bool outs-Bool refl h))
    (λ h. absurd (closed_off UnitSort layer.Unit outs-Unit refl h))
    (λ k ss a h. absurd (closed_off (Named k ss) (layer.Named k ss) (outs-Named k ss) refl h))

pub int_met : (p : Span) (n : Numbers) (m u : ℕ → Sort) (s : Sort) → is_open (out-Sort (put m s)) ≡ true → IsIdempotent u
    → ((f : ℕ → Sort) → Respects f u ↔ (Respects f m × MakesEqual f s Int)) → IsMet (becomes p n s) m u
int_met p n m u s h i r cs pr =
    let v = open_var (put m s) h in
    met cs (becomes p n s) u (first_open (demands cs) m u n s v.0 (as_best cs m pr) v.1 i r)

-- it is never refused
pub int_not_met : (p : Span) (n : Numbers) (m u : ℕ → Sort) (s : Sort) (e : TypeFault) → is_open (out-Sort (put m s)) ≡ true
    → ((f : ℕ → Sort) × Respects f m × MakesEqual f s Int → ⊥) → ((x : ℕ) → u x ≡ m x) → e ≡ mismatch p Int (put (shown u) s) → IsNotMet (becomes p n s) m e
int_not_met p n m u s e h none b k =
    let v = open_var (put m s) h in
    shows_mismatch (becomes p n s) m p Int (put (shown m) s) e (k ∙ ap (λ f. mismatch p Int (put f s)) (shown_unchanged u m b)) refl
    (λ cs pr f a. none (open_is_taken (demands cs) m s v.0 (as_best cs m pr) v.1))

first_at : (n : Numbers) (m : ℕ → Sort) (s : Sort) (before : List Demand) → Best before m → Stands n (put m s) → may_stand n (out-Sort (put m s)) ≡ true
    → is_open (out-Sort (put m s)) ≡ false → Best (First n s ∷ before) m
first_at n m s before b (open_ x e k) h z = absurd (true≢false (sym (ap (λ y. is_open (out-Sort y)) e ∙ ap is_open (outs-Var x)) ∙ z))
first_at n m s before b (at_int e k) h z = first_int before m n s b e
first_at n m s before b (at_real i e k) h z = subst (λ y. Best (First y s ∷ before) m) (sym i) (first_real before m s b e)
first_at n m s before b (never f k) h z = absurd (true≢false (sym h ∙ k))

pub first_met : (p : Span) (n : Numbers) (m : ℕ → Sort) (s t : Sort) → t ≡ put m s → may_stand n (out-Sort t) ≡ true → is_open (out-Sort t) ≡ false → IsMet (becomes p n s) m m
first_met p n m s t e h z cs pr =
    met cs (becomes p n s) m
    (first_at n m s (demands cs) (as_best cs m pr) (stands n (put m s)) (subst (λ x. may_stand n (out-Sort x) ≡ true) e h) (subst (λ x. is_open (out-Sort x) ≡ false) e z))

pub first_not_met : (p : Span) (n : Numbers) (m : ℕ → Sort) (s t : Sort) (e : TypeFault) → t ≡ put m s → may_stand n (out-Sort t) ≡ false
    → e ≡ mismatch p Int (put (shown m) s) → IsNotMet (becomes p n s) m e
first_not_met p n m s t e i h k =
    shows_mismatch (becomes p n s) m p Int (put (shown m) s) e k refl
    (λ cs pr f. first_none (demands cs) m n s (as_best cs m pr) (never_at n (put m s) (stands n (put m s)) (subst (λ x. may_stand n (out-Sort x) ≡ false) i h)) f)

-- ---- the second operand
pub operands_differ : (m u : ℕ → Sort) (p : Span) (s t : Sort) (e : TypeFault) → e ≡ operand_fault p (put (shown u) s) (put (shown u) t) → ((n : ℕ) → u n ≡ m n)
    → ((f : ℕ → Sort) × Respects f m × MakesEqual f s t → ⊥) → IsNotMet (has_operand_sort p s t) m e
operands_differ m u p s t e a b x =
    shows_mismatch (has_operand_sort p s t) m p (or_int (put (shown m) s) (out-Sort (put (shown m) s))) (put (shown m) t) e
    (a ∙ ap (λ f. operand_fault p (put f s) (put f t)) (shown_unchanged u m b)) refl
    (λ cs h f. same_refused (demands cs) m s t (as_best cs m h) x f)
