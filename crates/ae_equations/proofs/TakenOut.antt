-- Rules that are taken out, some after others, and those that stay.
use Rattle.std.specs.Prelude.{ℕ, ◌+◌, ◌<◌, ◌≤◌, ◌≡◌, ◌≢◌, ◌⊎◌, List, [], ◌∷◌, ◌++◌, length, get_or, slice_get, Option, Some, None}
use Rattle.std.specs.List.{Contains, AllByRecursion}
use Rattle.std.proofs.Common.{refl, sym, ◌∙◌, subst, arith, inl, inr}
use Rattle.std.proofs.lemmas.Bool.{cases_lt}
use Rattle.std.proofs.lemmas.List.{get_or_past}
use Rattle.std.proofs.lemmas.List.Elements.{Contains-append_left, Contains-append_right, Contains-append_cases}
use Rattle.std.proofs.lemmas.Option.{none-some}
use native.Mathlib.Decide.{ℕ_discrete}
use Rattle.ae_base.specs.Relations.{Pairwise}
use Rattle.ae_base.proofs.AllOf.{all_append, all_from_places}
use Rattle.ae_base.proofs.ListFacts.{get_read}
use Rattle.ae_base.proofs.Relations.{pairwise_weaker}
use Rattle.ae_multiset.specs.Multisets.{count}
use Rattle.ae_monoid.specs.declared.rules.Kept.{Kept}
use Rattle.ae_monoid.specs.declared.pending.PendingPair.{PendingPair}
use Rattle.ae_monoid.specs.Rules.{Contents, rule_at, AreRules}
use Rattle.ae_monoid.specs.Reductions.{AreDifferent}
use Rattle.ae_monoid.specs.Changes.{AreTakenOut, IsEquationOf, IsReducible, HasName}
use Rattle.ae_monoid.specs.Versions.{Lasts as RulesLast}
use Rattle.ae_equations.specs.Stale.{IsStale}
use Rattle.ae_equations.proofs.ChainLaws.{nothing_in, in_or_not}

-- ---- lists together
different_append : (xs ys : List ℕ) → AreDifferent xs → AreDifferent ys → AllByRecursion (λ x. AllByRecursion (λ y. x ≢ y) ys) xs → AreDifferent (xs ++ ys)
different_append [] ys a b o = b
different_append (x ∷ xs) ys a b o = (all_append (λ y. x ≢ y) xs ys a.0 o.0, different_append xs ys a.1 b o.1)

pairwise_append : {A B : Type 0} (R : A → B → Type 0) (xs us : List A) (ys vs : List B) → Pairwise R xs ys → Pairwise R us vs → Pairwise R (xs ++ us) (ys ++ vs)
pairwise_append R [] us [] vs a b = b
pairwise_append R [] us (y ∷ ys) vs a b = absurd a
pairwise_append R (x ∷ xs) us [] vs a b = absurd a
pairwise_append R (x ∷ xs) us (y ∷ ys) vs a b = (a.0, pairwise_append R xs us ys vs a.1 b)

-- ---- what stays
module _ (old new : ℕ → Option Kept) (P : ℕ → Type 0) (pairs : List PendingPair) (t : AreTakenOut old new P pairs) where
  -- a rule that stays stood, and wasn't to be taken out
  pub stood : (n : ℕ) (rule : Kept) → new n ≡ Some rule → (old n ≡ Some rule) × (P n → ⊥)
  stood n rule e = elim (in_or_not t.numbers n) [
    | inl c ↦ absurd (none-some rule (sym (t.gone n ((t.are n).0 c)) ∙ e))
    | inr h ↦
        let q : P n → ⊥ = λ p. h ((t.are n).1 p) in
        (sym (t.others n q) ∙ e, q)
  ]

  -- the same rules, said in other words
  pub taken_as : (Q : ℕ → Type 0) → ((n : ℕ) → P n → Q n) → ((n : ℕ) → Q n → P n) → AreTakenOut old new Q pairs
  taken_as Q f g =
      record {
        numbers = t.numbers;
        different = t.different;
        are = λ n. (λ c. f n ((t.are n).0 c), λ q. (t.are n).1 (g n q));
        equations = t.equations;
        gone = λ n q. t.gone n (g n q);
        others = λ n h. t.others n (λ p. h (f n p));
      }

-- no rule that stays reduces another's left side
pub alone_after : (old new : ℕ → Option Kept) (pairs : List PendingPair) → AreTakenOut old new (λ n. IsReducible old n) pairs → (n : ℕ) → IsReducible new n → ⊥
alone_after old new pairs t n p =
    let a = stood old new (λ m. IsReducible old m) pairs t n p.rule p.there in
    let b = stood old new (λ m. IsReducible old m) pairs t p.other p.fits.rule p.fits.there in
    a.1 (record { rule = p.rule; there = a.0; other = p.other; is_other = p.is_other; fits = record { rule = p.fits.rule; there = b.0; of = p.fits.of; part = p.fits.part } })

pub taken_none : (old : ℕ → Option Kept) (P : ℕ → Type 0) → ((n : ℕ) → P n → ⊥) → AreTakenOut old old P []
taken_none old P f =
    record {
      numbers = [];
      different = tt;
      are = λ n. (λ t. absurd (nothing_in n t), λ p. absurd (f n p));
      equations = tt;
      gone = λ n p. absurd (f n p);
      others = λ n q. refl;
    }

-- ---- some after others
module _ (old now new : ℕ → Option Kept) (P Q R : ℕ → Type 0) (some more : List PendingPair) (a : AreTakenOut old now P some) (b : AreTakenOut now new Q more) (stand : (n : ℕ) → Q n → (rule : Kept) × (now n ≡ Some rule))
    (first : (n : ℕ) → P n → R n) (second : (n : ℕ) → Q n → R n) (split : (n : ℕ) → R n → P n ⊎ Q n) where
  taken_apart : (n : ℕ) → P n → Q n → ⊥
  taken_apart n p q = let s = stand n q in none-some s.0 (sym (a.gone n p) ∙ s.1)

  all_apart : AllByRecursion (λ x. AllByRecursion (λ y. x ≢ y) b.numbers) a.numbers
  all_apart = all_from_places (λ x. AllByRecursion (λ y. x ≢ y) b.numbers) a.numbers (λ k x e. all_from_places (λ y. x ≢ y) b.numbers (λ j y f. apart x y (in_at a.numbers k x e) (in_at b.numbers j y f)))
    where
      in_at : (ns : List ℕ) (k x : ℕ) → slice_get ns k ≡ Some x → Contains ns x
      in_at ns k x e = let r = get_read ns k x x e in (k, r.1, r.0)

      apart : (x y : ℕ) → Contains a.numbers x → Contains b.numbers y → x ≢ y
      apart x y c d e = taken_apart y (subst P e ((a.are x).0 c)) ((b.are y).0 d)

  equation_before : (n : ℕ) (pair : PendingPair) → IsEquationOf (now n) pair → IsEquationOf (old n) pair
  equation_before n pair e = record { rule = e.rule; there = (stood old now P some a n e.rule e.there).0; symbol = e.symbol; left = e.left; right = e.right; justs = e.justs }

  pub taken_both : AreTakenOut old new R (some ++ more)
  taken_both =
      record {
        numbers = a.numbers ++ b.numbers;
        different = different_append a.numbers b.numbers a.different b.different all_apart;
        are = λ n. (there n, λ r. here n (split n r));
        equations =
            pairwise_append (λ n pair. IsEquationOf (old n) pair) a.numbers b.numbers some more a.equations
            (pairwise_weaker (λ n pair. IsEquationOf (now n) pair) (λ n pair. IsEquationOf (old n) pair) equation_before b.numbers more b.equations);
        gone = λ n r. gone_by n (split n r);
        others = λ n h. b.others n (λ q. h (second n q)) ∙ a.others n (λ p. h (first n p));
      }
    where
      there : (n : ℕ) → Contains (a.numbers ++ b.numbers) n → R n
      there n c = elim (Contains-append_cases a.numbers b.numbers n c) [ inl d ↦ first n ((a.are n).0 d) | inr d ↦ second n ((b.are n).0 d) ]

      here : (n : ℕ) → P n ⊎ Q n → Contains (a.numbers ++ b.numbers) n
      here n (inl p) = Contains-append_left a.numbers b.numbers n ((a.are n).1 p)
      here n (inr q) = Contains-append_right a.numbers b.numbers n ((b.are n).1 q)

      gone_by : (n : ℕ) → P n ⊎ Q n → new n ≡ None
      gone_by n (inl p) = b.others n (λ q. taken_apart n p q) ∙ a.gone n p
      gone_by n (inr q) = b.gone n q

-- ---- rules with stale names, name by name
-- a stale name below this one
pub record IsStaleBelow (reps : List ℕ) (k : ℕ) (o : Option Kept) : Type 0 where
  pub rule : Kept
  pub there : o ≡ Some rule
  pub name : ℕ
  pub below : name < k
  pub stale : get_or reps name name ≢ name
  pub has : 0 < count name rule.entry.left

pub record IsReleasing (old now : Contents) (reps : List ℕ) (k : ℕ) (pairs : List PendingPair) : Type 0 where
  pub taken : AreTakenOut (λ n. rule_at old n) (λ n. rule_at now n) (λ n. IsStaleBelow reps k (rule_at old n)) pairs
  pub len : now.next ≡ old.next
  pub lasts : RulesLast old now

pub releasing_none : (old : Contents) (reps : List ℕ) → IsReleasing old old reps 0 []
releasing_none old reps =
    record { taken = taken_none (λ n. rule_at old n) (λ n. IsStaleBelow reps 0 (rule_at old n)) (λ n s. (let b = s.below in omega (arith, b))); len = refl; lasts = λ shared rules len s. s }

module _ (old now : Contents) (reps : List ℕ) (k : ℕ) (pairs : List PendingPair) (r : IsReleasing old now reps k pairs) where
  later : (n : ℕ) → IsStaleBelow reps k (rule_at old n) → IsStaleBelow reps (k + 1) (rule_at old n)
  later n s = let b = s.below in record { rule = s.rule; there = s.there; name = s.name; below = omega (arith, b); stale = s.stale; has = s.has }

  -- the next name is its own representative
  pub releasing_skip : get_or reps k k ≡ k → IsReleasing old now reps (k + 1) pairs
  releasing_skip own =
      record {
        taken = taken_as (λ n. rule_at old n) (λ n. rule_at now n) (λ n. IsStaleBelow reps k (rule_at old n)) pairs r.taken (λ n. IsStaleBelow reps (k + 1) (rule_at old n)) later (λ n s. sooner n s (ℕ_discrete s.name k));
        len = r.len;
        lasts = r.lasts;
      }
    where
      sooner : (n : ℕ) (s : IsStaleBelow reps (k + 1) (rule_at old n)) → Dec (s.name ≡ k) → IsStaleBelow reps k (rule_at old n)
      sooner n s (yes e) = absurd (s.stale (subst (λ (x : ℕ). get_or reps x x ≡ x) (sym e) own))
      sooner n s (no d) = let b = s.below in record { rule = s.rule; there = s.there; name = s.name; below = omega (arith, b, d); stale = s.stale; has = s.has }

  -- the rules with the next name are taken out
  pub releasing_more : (new : Contents) (more : List PendingPair) → get_or reps k k ≢ k → AreTakenOut (λ n. rule_at now n) (λ n. rule_at new n) (λ n. HasName k (rule_at now n)) more → new.next ≡ now.next
      → RulesLast now new → IsReleasing old new reps (k + 1) (pairs ++ more)
  releasing_more new more stale t len lasts =
      record {
        taken =
            taken_both (λ n. rule_at old n) (λ n. rule_at now n) (λ n. rule_at new n) (λ n. IsStaleBelow reps k (rule_at old n)) (λ n. HasName k (rule_at now n)) (λ n. IsStaleBelow reps (k + 1) (rule_at old n)) pairs more r.taken t
            (λ n h. (h.rule, h.there)) later with_name (λ n s. split n s (ℕ_discrete s.name k) (in_or_not r.taken.numbers n));
        len = len ∙ r.len;
        lasts = λ shared rules size s. lasts shared rules size (r.lasts shared rules size s);
      }
    where
      with_name : (n : ℕ) → HasName k (rule_at now n) → IsStaleBelow reps (k + 1) (rule_at old n)
      with_name n h =
          record {
            rule = h.rule;
            there = (stood (λ m. rule_at old m) (λ m. rule_at now m) (λ m. IsStaleBelow reps k (rule_at old m)) pairs r.taken n h.rule h.there).0;
            name = k;
            below = omega arith;
            stale = stale;
            has = h.has;
          }

      split : (n : ℕ) (s : IsStaleBelow reps (k + 1) (rule_at old n)) → Dec (s.name ≡ k) → Contains r.taken.numbers n ⊎ (Contains r.taken.numbers n → ⊥) → IsStaleBelow reps k (rule_at old n) ⊎ HasName k (rule_at now n)
      split n s d (inl c) = inl ((r.taken.are n).0 c)
      split n s (yes e) (inr h) =
          inr (record { rule = s.rule; there = r.taken.others n (λ p. h ((r.taken.are n).1 p)) ∙ s.there; has = subst (λ (x : ℕ). 0 < count x s.rule.entry.left) e s.has })
      split n s (no d) (inr h) = let b = s.below in inl (record { rule = s.rule; there = s.there; name = s.name; below = omega (arith, b, d); stale = s.stale; has = s.has })

  -- all names of the list were looked at
  pub releasing_all : length reps ≤ k → AreTakenOut (λ n. rule_at old n) (λ n. rule_at now n) (λ n. IsStale reps (rule_at old n)) pairs
  releasing_all l =
      taken_as (λ n. rule_at old n) (λ n. rule_at now n) (λ n. IsStaleBelow reps k (rule_at old n)) pairs r.taken (λ n. IsStale reps (rule_at old n))
      (λ n s. record { rule = s.rule; there = s.there; name = s.name; stale = s.stale; has = s.has })
      (λ n s. record { rule = s.rule; there = s.there; name = s.name; below = within s.name s.stale; stale = s.stale; has = s.has })
    where
      within : (x : ℕ) → get_or reps x x ≢ x → x < k
      within x d = elim (cases_lt x k) [ inl h ↦ h | inr h ↦ absurd (d (get_or_past reps x x (omega (arith, h, l)))) ]

-- ---- numbers that were given
pub number_given : (kept : ℕ → Option Kept) (next : ℕ) → AreRules kept next → (n : ℕ) → (kept n ≡ None → ⊥) → n < next
number_given kept next a n h = by_rule (kept n) refl
  where
    by_rule : (o : Option Kept) → kept n ≡ o → n < next
    by_rule (Some rule) e = a.below n rule e
    by_rule None e = absurd (h e)
