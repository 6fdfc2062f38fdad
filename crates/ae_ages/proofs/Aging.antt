-- Entries of quantified formulas.
use Rattle.std.specs.Prelude.{ℕ, ◌<◌, ◌≤◌, Bool, true, false, ◌||◌, nat_le, nat_lt, List, [], ◌∷◌, ◌++◌, ◌≡◌, ◌⊎◌}
use Rattle.std.specs.List.{Contains, list_any}
use Rattle.std.proofs.Common.{sym, ap, ◌∙◌, subst, arith, inl, inr, lt-ltb}
use Rattle.std.proofs.lemmas.Bool.{and_parts, and_from, leb-true, ltb-true, ltb-false}
use Rattle.std.proofs.lemmas.List.Elements.{Contains-append_left, Contains-append_right, Contains-append_cases}
use Rattle.ae_base.proofs.Decided.{decided_of, decided_yes}
use Rattle.ae_base.proofs.Tests.{by_bool, false_true}
use Rattle.ae_base.specs.Decided.{decided}
use Rattle.ae_core.specs.Decided.{Formula_discrete}
use Rattle.ae_core.specs.declared.formulas.Formula.{Formula}
use Rattle.ae_journal.proofs.Splits.{contains_cases, contains_here, contains_later, contains_one}
use Rattle.ae_ages.specs.Ages.{HasAge, AreAged, gives_age, gives_less}
use Rattle.ae_ages.specs.declared.entries.Aged.{Aged}

-- ---- what a test of the entries says
pub any_entry : (test : Aged → Bool) (es : List Aged) → list_any test es ≡ true → (e : Aged) × Contains es e × (test e ≡ true)
any_entry test [] h = false_true h
any_entry test (e ∷ es) h =
    by_bool (test e) (λ y. (e, contains_here e es, y))
    (λ n. let r = any_entry test es (sym (ap (λ b. b || list_any test es) n) ∙ h) in (r.0, contains_later e es r.0 r.1, r.2))

pub no_entry : (test : Aged → Bool) (es : List Aged) → list_any test es ≡ false → (e : Aged) → Contains es e → test e ≡ true → ⊥
no_entry test [] h e c t = let l = c.1 in omega (arith, l)
no_entry test (x ∷ es) h e c t =
    by_bool (test x) (λ y. absurd (false_true (sym h ∙ ap (λ b. b || list_any test es) y)))
    (λ n. elim (contains_cases x es e c) as (λ _. ⊥) [
      | inl s ↦ false_true (sym n ∙ ap test s ∙ t)
      | inr r ↦ no_entry test es (sym (ap (λ b. b || list_any test es) n) ∙ h) e r t
    ])

pub age_of_any : (es : List Aged) (f : Formula) (n : ℕ) → list_any (gives_age f n) es ≡ true → HasAge es n f
age_of_any es f n h =
    let r = any_entry (gives_age f n) es h in
    let p = and_parts (nat_le r.0.generation n) (decided (Formula_discrete r.0.formula f)) r.2 in
    record { entry = r.0; among = r.1; is = decided_yes (Formula_discrete r.0.formula f) p.1; young = leb-true r.0.generation n p.0 }

-- an entry that gives less has an age, and where there is none no age is less
pub age_of_less : (es : List Aged) (f : Formula) (n : ℕ) (e : Aged) → Contains es e → gives_less f n e ≡ true → HasAge es e.generation f × (e.generation < n)
age_of_less es f n e c t =
    let p = and_parts (nat_lt e.generation n) (decided (Formula_discrete e.formula f)) t in
    (record { entry = e; among = c; is = decided_yes (Formula_discrete e.formula f) p.1; young = omega arith }, ltb-true e.generation n p.0)

pub none_less : (es : List Aged) (f : Formula) (n m : ℕ) → list_any (gives_less f n) es ≡ false → HasAge es m f → n ≤ m
none_less es f n m h a =
    by_bool (nat_lt m n)
    (λ y.
    let lt : m < n = ltb-true m n y in
    let w = a.young in
    absurd (no_entry (gives_less f n) es h a.entry a.among (and_from (nat_lt a.entry.generation n) (decided (Formula_discrete a.entry.formula f)) (lt-ltb a.entry.generation n (omega (arith, lt, w))) (decided_of (Formula_discrete a.entry.formula f) a.is))))
    (λ o. ltb-false m n o)

age_more : (es more : List Aged) (n : ℕ) (f : Formula) → HasAge es n f → HasAge (es ++ more) n f
age_more es more n f a = record { entry = a.entry; among = Contains-append_left es more a.entry a.among; is = a.is; young = a.young }

-- it has the age already
pub already_aged : (g : ℕ) (es : List Aged) (f : Formula) → HasAge es g f → AreAged g es es (f ∷ [])
already_aged g es f a = record { kept = λ n h k. k; aged = λ h c. subst (HasAge es g) (contains_one f h c) a; only = λ n h k. inl k }

-- an entry more
pub newly_aged : (g : ℕ) (es : List Aged) (e : Aged) (f : Formula) → e.formula ≡ f → e.generation ≡ g → AreAged g es (es ++ e ∷ []) (f ∷ [])
newly_aged g es e f is at = record {
  kept = λ n h k. age_more es (e ∷ []) n h k;
  aged = λ h c. record { entry = e; among = Contains-append_right es (e ∷ []) e (contains_here e []); is = is ∙ contains_one f h c; young = omega (arith, at) };
  only = λ n h k. elim (Contains-append_cases es (e ∷ []) k.entry k.among) as (λ _. HasAge es n h ⊎ ((g ≤ n) × Contains (f ∷ []) h)) [
    | inl l ↦ inl (record { entry = k.entry; among = l; is = k.is; young = k.young })
    | inr r ↦
        (let s : e ≡ k.entry = contains_one e k.entry r in
        let v : e.generation ≡ k.entry.generation = ap (λ (z : Aged). z.generation) s in
        let y = k.young in
        let h_is : f ≡ h = sym is ∙ ap (λ (z : Aged). z.formula) s ∙ k.is in
        inr (omega (arith, v, y, at), subst (Contains (f ∷ [])) h_is (contains_here f [])))
  ];
}

pub none_aged : (g : ℕ) (es : List Aged) → AreAged g es es []
none_aged g es = record { kept = λ n h k. k; aged = λ h c. absurd (let l = c.1 in omega (arith, l)); only = λ n h k. inl k }

pub both_aged : (g : ℕ) (es fs gs : List Aged) (hs ks : List Formula) → AreAged g es fs hs → AreAged g fs gs ks → AreAged g es gs (hs ++ ks)
both_aged g es fs gs hs ks x y = record {
  kept = λ n h k. y.kept n h (x.kept n h k);
  aged = λ h c. elim (Contains-append_cases hs ks h c) as (λ _. HasAge gs g h) [ inl l ↦ y.kept g h (x.aged h l) | inr r ↦ y.aged h r ];
  only = λ n h k. elim (y.only n h k) as (λ _. HasAge es n h ⊎ ((g ≤ n) × Contains (hs ++ ks) h)) [
    | inl l ↦ elim (x.only n h l) as (λ _. HasAge es n h ⊎ ((g ≤ n) × Contains (hs ++ ks) h)) [
      | inl o ↦ inl o
      | inr s ↦ inr (s.0, Contains-append_left hs ks h s.1)
    ]
    | inr s ↦ inr (s.0, Contains-append_right hs ks h s.1)
  ];
}
