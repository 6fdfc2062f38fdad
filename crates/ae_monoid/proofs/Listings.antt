-- Lists of different numbers.
use Rattle.std.specs.Prelude.{◌≡◌, ◌≢◌, ℕ, ◌+◌, ◌-◌, ◌<◌, ◌≤◌, ◌⊎◌, ◌↔◌, List, [], ◌∷◌, ◌++◌, length, slice_index_or, Option, Some, None, Ok, Err, IfOk, OnOk}
use Rattle.std.specs.declared.result.Result.{Result}
use Rattle.std.specs.List.{Contains, AllByRecursion}
use Rattle.std.proofs.Common.{sym, ap, ◌∙◌, subst, arith, inl, inr}
use Rattle.std.proofs.lemmas.List.Elements.{Contains-push, Contains-push_cases, Contains-append_left}
use native.Mathlib.Decide.{ℕ_discrete}
use Rattle.ae_base.specs.Relations.{Pairwise}
use Rattle.ae_base.proofs.AllOf.{all_from_places}
use Rattle.ae_base.proofs.ListFacts.{get_read}
use Rattle.ae_monoid.specs.declared.chains.Link.{Link}
use Rattle.ae_monoid.specs.declared.rules.Kept.{Kept}
use Rattle.ae_monoid.specs.declared.pending.PendingPair.{PendingPair}
use Rattle.ae_monoid.specs.Reductions.{AreDifferent}
use Rattle.ae_monoid.specs.Changes.{AreTakenOut, IsEquationOf, IsReducible}
use Rattle.ae_monoid.specs.Rules.{AreRules, Contents, rule_at}
use Rattle.ae_monoid.specs.Inner.Chains.{AreLinked, IsOn}
use Rattle.ae_monoid.specs.Inner.Indexes.{StandsOn}
use Rattle.ae_monoid.proofs.ChainLaws.{none_on, on_next, first_on_chain, after_on, after_lower, next_before}
use Rattle.ae_monoid.proofs.Seeking.{different_append}

pub nothing_in : (n : ℕ) → Contains [] n → ⊥
nothing_in n t = let l = t.1 in absurd (omega (arith, l))

pub different_push : (ns : List ℕ) (n : ℕ) → AreDifferent ns → ((m : ℕ) → Contains ns m → m ≢ n) → AreDifferent (ns ++ n ∷ [])
different_push ns n d h =
    different_append ns (n ∷ []) d (tt, tt) (all_from_places (λ x. AllByRecursion (λ y. x ≢ y) (n ∷ [])) ns (λ k x e. let r = get_read ns k x x e in (h x (k, r.1, r.0), tt)))

-- ---- those below a number that meet `P`
pub record AreListed (P : ℕ → Type 0) (i : ℕ) (ns : List ℕ) : Type 0 where
  pub different : AreDifferent ns
  pub each : (n : ℕ) → Contains ns n → P n × (n < i)
  pub all : (n : ℕ) → n < i → P n → Contains ns n

pub listed_none : (P : ℕ → Type 0) → AreListed P 0 []
listed_none P = record { different = tt; each = λ n t. absurd (nothing_in n t); all = λ n l. absurd (omega (arith, l)) }

module _ (P : ℕ → Type 0) (i : ℕ) (ns : List ℕ) (a : AreListed P i ns) where
  pub listed_with : (more : List ℕ) → more ≡ ns ++ i ∷ [] → P i → AreListed P (i + 1) more
  listed_with more e p =
      subst (AreListed P (i + 1)) (sym e)
      (record { different = different_push ns i a.different (λ m t s. let l = (a.each m t).1 in omega (arith, l, s)); each = λ n t. by_part n (Contains-push_cases ns i n t); all = λ n l q. by_place n l q (ℕ_discrete n i) })
    where
      by_part : (n : ℕ) → Contains ns n ⊎ (i ≡ n) → P n × (n < i + 1)
      by_part n (inl t) = let r = a.each n t in let l = r.1 in (r.0, omega (arith, l))
      by_part n (inr s) = (subst P s p, omega (arith, s))

      by_place : (n : ℕ) → n < i + 1 → P n → Dec (n ≡ i) → Contains (ns ++ i ∷ []) n
      by_place n l q (yes s) = subst (Contains (ns ++ i ∷ [])) (sym s) (Contains-push ns i)
      by_place n l q (no d) = Contains-append_left ns (i ∷ []) n (a.all n (omega (arith, l, d)) q)

  pub listed_without : (P i → ⊥) → AreListed P (i + 1) ns
  listed_without no-p = record { different = a.different; each = λ n t. let r = a.each n t in let l = r.1 in (r.0, omega (arith, l)); all = λ n l q. by_place n l q (ℕ_discrete n i) }
    where
      by_place : (n : ℕ) → n < i + 1 → P n → Dec (n ≡ i) → Contains ns n
      by_place n l q (yes s) = absurd (no-p (subst P s q))
      by_place n l q (no d) = a.all n (omega (arith, l, d)) q

  pub listed_all : ((n : ℕ) → P n → n < i) → (n : ℕ) → Contains ns n ↔ P n
  listed_all below n = (λ t. (a.each n t).0, λ p. a.all n (below n p) p)

-- ---- the rules of a chain that stand
pub record AreStanding (kept : ℕ → Option Kept) (links : List Link) (head at : ℕ) (ns : List ℕ) : Type 0 where
  pub within : at ≤ length links
  pub different : AreDifferent ns
  pub below : (m : ℕ) → IsOn links at m → IsOn links head m
  pub each : (n : ℕ) → Contains ns n → StandsOn kept links head n
  pub higher : (n : ℕ) → Contains ns n → (m : ℕ) → IsOn links at m → m < n
  pub all : (n : ℕ) → StandsOn kept links head n → Contains ns n ⊎ IsOn links at n

pub standing_none : (kept : ℕ → Option Kept) (links : List Link) (head : ℕ) → head ≤ length links → AreStanding kept links head head []
standing_none kept links head w = record {
  within = w;
  different = tt;
  below = λ m o. o;
  each = λ n t. absurd (nothing_in n t);
  higher = λ n t. absurd (nothing_in n t);
  all = λ n s. inr s.on;
}

module _ (kept : ℕ → Option Kept) (links : List Link) (head at : ℕ) (d : Link) (ns : List ℕ) (l : AreLinked links) (p : 0 < at) (a : AreStanding kept links head at ns) where
  abbrev link : Link
  link = slice_index_or links (at - 1) d

  next_within : link.next ≤ length links
  next_within = let b = next_before links at d l p a.within in let w = a.within in omega (arith, b, w)

  next_on : (m : ℕ) → IsOn links link.next m → IsOn links at m
  next_on m o = after_on links at d m p a.within o

  pub standing_with : (more : List ℕ) (rule : Kept) → more ≡ ns ++ (slice_index_or links (at - 1) d).number ∷ [] → kept (slice_index_or links (at - 1) d).number ≡ Some rule
      → AreStanding kept links head (slice_index_or links (at - 1) d).next more
  standing_with more rule e there =
      subst (AreStanding kept links head link.next) (sym e)
      (record {
        within = next_within;
        different = different_push ns link.number a.different (λ m t s. let h = a.higher m t link.number (first_on_chain links at d p a.within) in omega (arith, h, s));
        below = λ m o. a.below m (next_on m o);
        each = λ n t. each_by n (Contains-push_cases ns link.number n t);
        higher = λ n t m o. higher_by n m o (Contains-push_cases ns link.number n t);
        all = λ n s. all_by n s (a.all n s);
      })
    where
      each_by : (n : ℕ) → Contains ns n ⊎ (link.number ≡ n) → StandsOn kept links head n
      each_by n (inl t) = a.each n t
      each_by n (inr s) = subst (StandsOn kept links head) s (record { rule = rule; there = there; on = a.below link.number (first_on_chain links at d p a.within) })

      higher_by : (n m : ℕ) → IsOn links link.next m → Contains ns n ⊎ (link.number ≡ n) → m < n
      higher_by n m o (inl t) = a.higher n t m (next_on m o)
      higher_by n m o (inr s) = let h = after_lower links at d m l p a.within o in omega (arith, h, s)

      next_by : (n : ℕ) → (link.number ≡ n) ⊎ IsOn links link.next n → Contains (ns ++ link.number ∷ []) n ⊎ IsOn links link.next n
      next_by n (inl s) = inl (subst (Contains (ns ++ link.number ∷ [])) s (Contains-push ns link.number))
      next_by n (inr o) = inr o

      all_by : (n : ℕ) → StandsOn kept links head n → Contains ns n ⊎ IsOn links at n → Contains (ns ++ link.number ∷ []) n ⊎ IsOn links link.next n
      all_by n s (inl t) = inl (Contains-append_left ns (link.number ∷ []) n t)
      all_by n s (inr o) = next_by n (on_next links at n d o)

  pub standing_without : kept (slice_index_or links (at - 1) d).number ≡ None → AreStanding kept links head (slice_index_or links (at - 1) d).next ns
  standing_without gone = record {
    within = next_within;
    different = a.different;
    below = λ m o. a.below m (next_on m o);
    each = a.each;
    higher = λ n t m o. a.higher n t m (next_on m o);
    all = λ n s. all_by n s (a.all n s);
  }
    where
      next_by : (n : ℕ) → StandsOn kept links head n → (link.number ≡ n) ⊎ IsOn links link.next n → Contains ns n ⊎ IsOn links link.next n
      next_by n s (inl e) = let c : None ≡ Some s.rule = sym gone ∙ ap kept e ∙ s.there in cc
      next_by n s (inr o) = inr o

      all_by : (n : ℕ) → StandsOn kept links head n → Contains ns n ⊎ IsOn links at n → Contains ns n ⊎ IsOn links link.next n
      all_by n s (inl t) = inl t
      all_by n s (inr o) = next_by n s (on_next links at n d o)

pub standing_all : (kept : ℕ → Option Kept) (links : List Link) (head at : ℕ) (ns : List ℕ) → AreStanding kept links head at ns → at ≡ 0 → (n : ℕ) → Contains ns n ↔ StandsOn kept links head n
standing_all kept links head at ns a z n = (a.each n, λ s. by_part (a.all n s))
  where
    by_part : Contains ns n ⊎ IsOn links at n → Contains ns n
    by_part (inl t) = t
    by_part (inr o) = absurd (none_on links n (subst (λ (x : ℕ). IsOn links x n) z o))

-- ---- those of a list are taken out
pub taken_out : (old new : ℕ → Option Kept) (P : ℕ → Type 0) (numbers : List ℕ) (pairs : List PendingPair) → AreDifferent numbers → ((n : ℕ) → Contains numbers n ↔ P n)
    → Pairwise (λ n pair. IsEquationOf (old n) pair) numbers pairs → ((n : ℕ) → Contains numbers n → new n ≡ None) → ((n : ℕ) → (Contains numbers n → ⊥) → new n ≡ old n) → AreTakenOut old new P pairs
taken_out old new P numbers pairs d are equations gone others = record {
  numbers = numbers;
  different = d;
  are = are;
  equations = equations;
  gone = λ n p. gone n ((are n).1 p);
  others = λ n q. others n (λ t. q ((are n).0 t));
}

-- what is reducible has a number that was given
pub reducible_given : (now inside : Contents) → inside ≡ now → AreRules (λ n. rule_at inside n) inside.next → (i : ℕ) → inside.next ≤ i → (n : ℕ) → IsReducible (λ m. rule_at now m) n → n < i
reducible_given now inside e r i over n p =
    let b = r.below n p.rule (subst (λ (c : Contents). rule_at c n ≡ Some p.rule) (sym e) p.there) in
    omega (arith, b, over)

pub stands : {A : Type 0} {o : Option A} {x : A} → o ≡ Some x → o ≡ None → ⊥
stands {A} {o} {x} e f = let c : Some x ≡ None = sym e ∙ f in cc

pub taken_from : {E : Type 0} (old new : ℕ → Option Kept) (P : ℕ → Type 0) (numbers view : List ℕ) (r : Result (List PendingPair) E) → view ≡ numbers → AreDifferent numbers → ((n : ℕ) → Contains numbers n ↔ P n)
    → IfOk r (λ pairs. Pairwise (λ n pair. IsEquationOf (old n) pair) view pairs) → OnOk r ((n : ℕ) → Contains view n → new n ≡ None) → OnOk r ((n : ℕ) → (Contains view n → ⊥) → new n ≡ old n)
    → IfOk r (λ pairs. AreTakenOut old new P pairs)
taken_from old new P numbers view (Ok pairs) e d are equations gone others =
    taken_out old new P view pairs (subst AreDifferent (sym e) d) (subst (λ (ns : List ℕ). (n : ℕ) → Contains ns n ↔ P n) (sym e) are) equations gone others
taken_from old new P numbers view (Err refused) e d are equations gone others = tt
