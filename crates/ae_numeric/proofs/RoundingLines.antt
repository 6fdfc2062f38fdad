-- Lines that round, and the ending by a common divisor: what they state, and when they are allowed.
use Rattle.std.specs.Prelude.{ℕ, ◌≡◌, ◌≢◌, ◌⊎◌, Bool, true, false, ◌&&◌, ◌<◌, List, [], length, get_or, Option, Some, None}
use Rattle.std.proofs.Common.{refl, sym, ap, ◌∙◌, subst, inl, inr}
use Rattle.std.proofs.lemmas.Option.{slice_get_read, same_Some}
use Rattle.std.proofs.lemmas.Bool.{and_right}
use Rattle.ae_num.specs.Forms.{Step}
use Rattle.ae_core.specs.Decided.{Sort_discrete}
use Rattle.ae_core.specs.Sorts.{sort_of, same_sort, same_numeric}
use Rattle.ae_base.specs.Options.{known, only, when, ◌>>=◌}
use Rattle.ae_base.proofs.Decided.{decided_yes, decided_of}
use Rattle.ae_base.proofs.Tests.{false_true, three_parts}
use Rattle.ae_core.proofs.SortFacts.{same_numeric_is}
use Rattle.ae_rules.specs.Lines.{Fact, equal, at_most, states, HaveSort, Rounds, AllowedRound, gap}
use Rattle.ae_rules.specs.Derivations.{EndsGcd, HasNoSolution}
use Rattle.ae_core.specs.declared.terms.Sort.{Sort, Int}
use Rattle.ae_core.specs.declared.terms.Term.{Term}
use Rattle.ae_core.specs.declared.problems.Signature.{Signature}
use Rattle.ae_core.specs.declared.proofs.EqLine.{EqLine}
use Rattle.ae_core.specs.declared.proofs.EqLine.TheVariants.{LeRound}
use Rattle.ae_core.specs.declared.proofs.Ending.TheVariants.{Gcd}
use Rattle.ae_core.specs.declared.proofs.Relation.{Relation}
use Rattle.ae_core.specs.declared.proofs.Relation.TheVariants.{Equal, AtMost, Below}
use Rattle.ae_numeric.specs.Stated.{fact_at, is_inequality, is_equation, of_one_sort, steps_of, line_steps, ending_steps, round_steps, forward}
use Rattle.ae_numeric.specs.Computing.{IsSorted}
use Rattle.ae_numeric.specs.Inner.Rounding.{IsRounded}

-- ---- sorts
pub is_int : (s : Sort) → same_sort s Int ≡ true → s ≡ Int
is_int s e = decided_yes (Sort_discrete s Int) e

pub of_int : (s : Sort) → s ≡ Int → same_sort s Int ≡ true
of_int s e = decided_of (Sort_discrete s Int) e

only_true : (b : Bool) (o : Option Sort) (s : Sort) → Some s ≡ only b o → (b ≡ true) × (o ≡ Some s)
only_true true o s e = (refl, sym e)
only_true false o s e = absurd (apart e)
  where
    apart : Some s ≡ None → ⊥
    apart e = cc

only_none : (b : Bool) (s : Sort) → None ≡ only b (Some s) → b ≡ false
only_none false s e = refl
only_none true s e = absurd (apart e)
  where
    apart : None ≡ Some s → ⊥
    apart e = cc

pub sorted : (sig : Signature) (t : Term) (s : Sort) → sort_of sig t ≡ Some s → IsSorted t
sorted sig t s e = (sig, ap known e)

-- the sort of two facts, from that of one
module _ (l r f t s : Option Sort) (e : s ≡ only (same_numeric l r) l) where
  pub shared_yes : same_numeric s f ≡ true → same_numeric s t ≡ true → s ≡ only (same_numeric l r && same_numeric l f && same_numeric l t) l
  shared_yes p q = by_test (same_numeric l r) refl
    where
      by_test : (b : Bool) → same_numeric l r ≡ b → s ≡ only (same_numeric l r && same_numeric l f && same_numeric l t) l
      by_test true h =
          let same : s ≡ l = e ∙ ap (λ b. only b l) h in
          let first = ap (λ x. same_numeric x f) (sym same) ∙ p in
          let second = ap (λ x. same_numeric x t) (sym same) ∙ q in
          same ∙ (λ i. only (sym h i && sym first i && sym second i) l)
      by_test false h = false_true (sym (ap (λ x. same_numeric x f) (e ∙ ap (λ b. only b l) h)) ∙ p)

  pub shared_no : (same_numeric s f ≡ false) ⊎ (same_numeric s t ≡ false) → None ≡ only (same_numeric l r && same_numeric l f && same_numeric l t) l
  shared_no d = by_test (same_numeric l r) refl d
    where
      third : (a b c : Bool) → c ≡ false → (a && b && c) ≡ false
      third true true c e = e
      third true false c e = refl
      third false b c e = refl

      second : (a b c : Bool) → b ≡ false → (a && b && c) ≡ false
      second true true c e = false_true (sym e)
      second true false c e = refl
      second false b c e = refl

      by_test : (b : Bool) → same_numeric l r ≡ b → (same_numeric s f ≡ false) ⊎ (same_numeric s t ≡ false) → None ≡ only (same_numeric l r && same_numeric l f && same_numeric l t) l
      by_test false h d = λ i. only (sym h i && same_numeric l f && same_numeric l t) l
      by_test true h (inl p) =
          let same : s ≡ l = e ∙ ap (λ b. only b l) h in
          ap (λ b. only b l) (sym (second (same_numeric l r) (same_numeric l f) (same_numeric l t) (ap (λ x. same_numeric x f) (sym same) ∙ p)))
      by_test true h (inr p) =
          let same : s ≡ l = e ∙ ap (λ b. only b l) h in
          ap (λ b. only b l) (sym (third (same_numeric l r) (same_numeric l f) (same_numeric l t) (ap (λ x. same_numeric x t) (sym same) ∙ p)))

-- ---- facts
pub fact_there : (lines : List EqLine) (k : ℕ) (l : EqLine) (f : Fact) → k < length lines → l ≡ get_or lines k l → states l ≡ f → fact_at lines k ≡ Some f
fact_there lines k l f b e s = ap (λ o. o >>= λ l. Some (states l)) (slice_get_read lines (length lines) k l refl b e) ∙ ap Some s

steps_there : (o : Option Fact) (f : Fact) (test : Fact → Bool) (steps : Fact → List Step) → o ≡ Some f → test f ≡ true → steps_of (o >>= λ f. when (test f) f) steps ≡ steps f
steps_there o f test steps e t = ap (λ x. steps_of (x >>= λ f. when (test f) f) steps) e ∙ ap (λ b. steps_of (when b f) steps) t

steps_none : (o : Option Fact) (f : Fact) (test : Fact → Bool) (steps : Fact → List Step) → o ≡ Some f → test f ≡ false → steps_of (o >>= λ f. when (test f) f) steps ≡ []
steps_none o f test steps e t = ap (λ x. steps_of (x >>= λ f. when (test f) f) steps) e ∙ ap (λ b. steps_of (when b f) steps) t

inequality_test : (f : Fact) → f.relation ≢ Equal → is_inequality f ≡ true
inequality_test f n = by_relation f.relation n
  where
    by_relation : (r : Relation) → r ≢ Equal → elim r as (λ x. Bool) [ Equal ↦ false | AtMost ↦ true | Below ↦ true ] ≡ true
    by_relation Equal n = absurd (n refl)
    by_relation AtMost n = refl
    by_relation Below n = refl

equation_test : (f : Fact) → f.relation ≡ Equal → is_equation f ≡ true
equation_test f e = ap (λ r. elim r as (λ x. Bool) [ Equal ↦ true | AtMost ↦ false | Below ↦ false ]) e

-- ---- a line that rounds
pub all_sorted : (sig : Signature) (s t p q : Term) (x : Sort) → Some x ≡ only (of_one_sort sig (at_most s t) (at_most p q)) (sort_of sig s)
    → (sort_of sig s ≡ Some x) × (sort_of sig t ≡ Some x) × (sort_of sig p ≡ Some x) × (sort_of sig q ≡ Some x) × (of_one_sort sig (at_most s t) (at_most p q) ≡ true)
all_sorted sig s t p q x e =
    let own = sort_of sig s in
    let o = only_true (of_one_sort sig (at_most s t) (at_most p q)) own x e in
    let each = three_parts (same_numeric own (sort_of sig t)) (same_numeric own (sort_of sig p)) (same_numeric own (sort_of sig q)) o.0 in (
      o.1,
      sym (same_numeric_is own (sort_of sig t) each.0) ∙ o.1,
      sym (same_numeric_is own (sort_of sig p) each.1) ∙ o.1,
      sym (same_numeric_is own (sort_of sig q) each.2) ∙ o.1,
      o.0,
    )

pub not_shared : (l r f t : Option Sort) → None ≡ only (same_numeric l r && same_numeric l f && same_numeric l t) l → (same_numeric l r && same_numeric l f && same_numeric l t) ≡ false
not_shared None r f t e = refl
not_shared (Some s) r f t e = only_none (same_numeric (Some s) r && same_numeric (Some s) f && same_numeric (Some s) t) s e

module _ (sig : Signature) (lines : List EqLine) (s t : Term) (k : ℕ) (f : Fact) (there : fact_at lines k ≡ Some f) where
  pub round_none : of_one_sort sig (at_most s t) f ≡ false → line_steps sig lines (LeRound s t k) ≡ []
  round_none e =
      steps_none (fact_at lines k) f (λ g. is_inequality g && of_one_sort sig (at_most s t) g) (λ g. round_steps g (at_most s t)) there
      (and_right (is_inequality f) (of_one_sort sig (at_most s t) f) e)

  pub round_states : f.relation ≢ Equal → of_one_sort sig (at_most s t) f ≡ true → line_steps sig lines (LeRound s t k) ≡ round_steps f (at_most s t)
  round_states n e =
      steps_there (fact_at lines k) f (λ g. is_inequality g && of_one_sort sig (at_most s t) g) (λ g. round_steps g (at_most s t)) there
      (let i = inequality_test f n in λ j. sym (sym i) j && sym (sym e) j)

  stated_rounds : AllowedRound sig lines s t k → Rounds sig f s t
  stated_rounds a = subst (λ g. Rounds sig g s t) (same_Some a.0 f (sym a.1 ∙ there)) a.2

  pub allowed_rounded : AllowedRound sig lines s t k → IsRounded f.relation (gap f) (gap (at_most s t))
  allowed_rounded a =
      let r = stated_rounds a in
      record {
        occurs = r.occurs;
        divisor = r.divisor;
        divides = r.divides;
        greatest = r.greatest;
        factors = r.factors;
        constant = r.constant;
        is = r.is;
        rounded = r.rounded;
        floor = r.floor;
        down = r.down;
      }

  pub allowed_int : (x : Sort) → AllowedRound sig lines s t k → sort_of sig s ≡ Some x → x ≡ Int
  allowed_int x a e = same_Some x Int (sym e ∙ (stated_rounds a).sorted.1.0)

  pub rounded_allowed : f.relation ≢ Equal → HaveSort sig Int f × HaveSort sig Int (at_most s t) → IsRounded f.relation (gap f) (gap (at_most s t)) → AllowedRound sig lines s t k
  rounded_allowed n h r = (
    f,
    there,
    record {
      inequality = n;
      sorted = h;
      occurs = r.occurs;
      divisor = r.divisor;
      divides = r.divides;
      greatest = r.greatest;
      factors = r.factors;
      constant = r.constant;
      is = r.is;
      rounded = r.rounded;
      floor = r.floor;
      down = r.down;
    },
  )

-- ---- the ending by a common divisor
pub both_sorted : (sig : Signature) (s t : Term) (x : Sort) → Some x ≡ only (same_numeric (sort_of sig s) (sort_of sig t)) (sort_of sig s) → (sort_of sig s ≡ Some x) × (sort_of sig t ≡ Some x) × (of_one_sort sig (equal s t) (equal s t) ≡ true)
both_sorted sig s t x e =
    let own = sort_of sig s in
    let o = only_true (same_numeric own (sort_of sig t)) own x e in
    let same = same_numeric_is own (sort_of sig t) o.0 in
    let itself : same_numeric own own ≡ true = ap (same_numeric own) same ∙ o.0 in
    (o.1, sym same ∙ o.1, λ i. sym (sym o.0) i && sym (sym itself) i && sym (sym o.0) i)

not_both : (l r : Option Sort) → None ≡ only (same_numeric l r) l → same_numeric l r ≡ false
not_both None r e = refl
not_both (Some s) r e = only_none (same_numeric (Some s) r) s e

pub not_sorted : (sig : Signature) (s t : Term) → None ≡ only (same_numeric (sort_of sig s) (sort_of sig t)) (sort_of sig s) → of_one_sort sig (equal s t) (equal s t) ≡ false
not_sorted sig s t e =
    let n = not_both (sort_of sig s) (sort_of sig t) e in
    ap (λ b. b && same_numeric (sort_of sig s) (sort_of sig s) && b) n

module _ (sig : Signature) (lines : List EqLine) (s t : Term) (k : ℕ) (there : fact_at lines k ≡ Some (equal s t)) where
  pub gcd_none : of_one_sort sig (equal s t) (equal s t) ≡ false → ending_steps sig lines (Gcd k) ≡ []
  gcd_none e = steps_none (fact_at lines k) (equal s t) (λ g. is_equation g && of_one_sort sig g g) (λ g. (forward g []).steps) there e

  pub gcd_states : of_one_sort sig (equal s t) (equal s t) ≡ true → ending_steps sig lines (Gcd k) ≡ (forward (equal s t) []).steps
  gcd_states e = steps_there (fact_at lines k) (equal s t) (λ g. is_equation g && of_one_sort sig g g) (λ g. (forward g []).steps) there e

  pub ends_unsolvable : EndsGcd sig lines k → HasNoSolution (gap (equal s t))
  ends_unsolvable a =
      subst (λ f. HasNoSolution (gap f)) (same_Some (equal a.0 a.1) (equal s t) (sym a.2 ∙ there))
      a.4

  pub ends_int : (x : Sort) → EndsGcd sig lines k → sort_of sig s ≡ Some x → x ≡ Int
  ends_int x a e = same_Some x Int (sym e ∙ (subst (HaveSort sig Int) (same_Some (equal a.0 a.1) (equal s t) (sym a.2 ∙ there)) a.3).0)

  pub unsolvable_ends : HaveSort sig Int (equal s t) → HasNoSolution (gap (equal s t)) → EndsGcd sig lines k
  unsolvable_ends h u = (s, t, there, h, u)
