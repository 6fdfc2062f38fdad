-- Names that occur: none joins terms where no AC symbol occurs; and different terms among others are at most as many.
use Rattle.std.specs.Prelude.{ℕ, suc, ◌+◌, ◌≤◌, Bool, true, false, cond, List, [], ◌∷◌, ◌++◌, ◌≡◌, length, slice_get, count_by, filter, Some}
use Rattle.std.specs.List.{Contains}
use Rattle.std.proofs.Common.{refl, ap, ◌∙◌, subst, arith, inl, inr, length-append}
use Rattle.std.proofs.lemmas.List.Sums.{length-filter}
use Rattle.std.proofs.lemmas.List.Elements.{Contains-append_left, Contains-append_right, Contains-append_cases}
use Rattle.std.proofs.lemmas.Option.{slice_get-get_or}
use Rattle.ae_base.specs.Options.{known}
use Rattle.ae_base.proofs.Options.{known_some}
use Rattle.ae_base.proofs.Tests.{by_either, not_both}
use Rattle.ae_core.specs.Sorts.{sort_of}
use Rattle.ae_core.specs.declared.terms.Sort.{Sort}
use Rattle.ae_core.specs.declared.terms.Term.{Term, Apply}
use Rattle.ae_core.specs.declared.terms.Op.TheVariants as op
use Rattle.ae_core.specs.declared.terms.Head.{Head}
use Rattle.ae_core.specs.declared.terms.Head.TheVariants as head
use Rattle.ae_core.specs.declared.problems.Signature.{Signature}
use Rattle.ae_core.specs.declared.problems.Problem.{Problem}
use Rattle.ae_rules.specs.Linear.{form, is_number, plain_here}
use Rattle.ae_rules.specs.Lines.{IsAc}
use Rattle.ae_journal.specs.Ground.{IsGround}
use Rattle.ae_journal.specs.Systems.{IsJoin}
use Rattle.ae_journal.proofs.Splits.{contains_here, contains_later, contains_cases, cut}
use Rattle.ae_reach.specs.Budget.{Occurs, HasNoSymbols, HoldsTerms}
use Rattle.ae_ground_laws.proofs.Plain.{plain_head, occurs_plain}

-- ---- joins
no_join : (sig : Signature) (h : Head) (a b : Term) → plain_here h (a ∷ b ∷ []) ≡ true → ((n : ℕ) → h ≡ head.Symbol n → ¬ (IsAc sig (head.Symbol n))) → IsJoin sig h a b → ⊥
no_join sig (head.Symbol n) a b p s j = s n refl j
no_join sig (head.Int op.Mul) a b p s j = by_either (is_number (form a)) (is_number (form b)) p (λ e. not_both (is_number (form a)) e j.0) (λ e. not_both (is_number (form b)) e j.1)
no_join sig (head.Real op.Mul) a b p s j = by_either (is_number (form a)) (is_number (form b)) p (λ e. not_both (is_number (form a)) e j.0) (λ e. not_both (is_number (form b)) e j.1)
no_join sig h a b p s j = absurd j

pub occurring_no_joins : (p : Problem) (g : ℕ) (ts : List Term) → IsGround p g → HasNoSymbols p g → ((t : Term) → Contains ts t → Occurs p g t)
    → (h : Head) (ss : List Sort) (a b : Term) → Contains ts (Apply h ss (a ∷ b ∷ [])) → ¬ (IsJoin p.signature h a b)
occurring_no_joins p g ts ground none occurs h ss a b c j =
    let o = occurs (Apply h ss (a ∷ b ∷ [])) c in
    no_join p.signature h a b (plain_head h ss (a ∷ b ∷ []) (occurs_plain p g ground (Apply h ss (a ∷ b ∷ [])) o))
    (λ n e ac. none n ss (a ∷ b ∷ []) (subst (λ (k : Head). Occurs p g (Apply k ss (a ∷ b ∷ []))) e o) ac) j

-- ---- different terms
-- no term stands twice
abbrev IsOnce : List Term → Type 0
IsOnce ts = (i j : ℕ) (t : Term) → slice_get ts i ≡ Some t → slice_get ts j ≡ Some t → i ≡ j

once_more : (t : Term) (ts : List Term) → IsOnce (t ∷ ts) → IsOnce ts
once_more t ts o i j x a b = let e : suc i ≡ suc j = o (suc i) (suc j) x a b in omega (arith, e)

-- another term of the list is another term
not_again : {P : Type 0} (t x : Term) (ts : List Term) → IsOnce (t ∷ ts) → Contains ts x → t ≡ x → P
not_again t x ts o c e =
    let z : 0 ≡ suc c.0 = o 0 (suc c.0) x (ap Some e) (slice_get-get_or ts c.0 x c.1 ∙ ap Some c.2) in
    absurd (omega (arith, z))

tested_at_most : (test : Term → Bool) (ts us : List Term) → IsOnce ts → ((t : Term) → Contains ts t → test t ≡ true → Contains us t) → length (filter test ts) ≤ length us
tested_at_most test [] us o h = omega arith
tested_at_most test (t ∷ ts) us o h = go (test t) refl (λ vs k. tested_at_most test ts vs (once_more t ts o) k)
  where
    -- what is among all is among the others
    among : (a b : List Term) (x : Term) → Contains ts x → Contains (a ++ t ∷ b) x → Contains (a ++ b) x
    among a b x c k = elim (Contains-append_cases a (t ∷ b) x k) as (λ _. Contains (a ++ b) x) [
      | inl l ↦ Contains-append_left a b x l
      | inr r ↦ elim (contains_cases t b x r) as (λ _. Contains (a ++ b) x) [ inl e ↦ not_again t x ts o c e | inr w ↦ Contains-append_right a b x w ]
    ]

    go : (b : Bool) → test t ≡ b → ((vs : List Term) → ((x : Term) → Contains ts x → test x ≡ true → Contains vs x) → length (filter test ts) ≤ length vs)
        → length (cond b (t ∷ filter test ts) (filter test ts)) ≤ length us
    go false e k = k us (λ x c p. h x (contains_later t ts x c) p)
    go true e k =
        let c = cut us t (h t (contains_here t ts) e) in
        let fewer = k (c.0 ++ c.1) (λ x m p. among c.0 c.1 x m (subst (λ (zs : List Term). Contains zs x) c.2 (h x (contains_later t ts x m) p))) in
        let all : length us ≡ length c.0 + length (t ∷ c.1) = ap length c.2 ∙ length-append c.0 (t ∷ c.1) in
        let others : length (c.0 ++ c.1) ≡ length c.0 + length c.1 = length-append c.0 c.1 in
        omega (arith, fewer, all, others)

pub occurring_at_most : (p : Problem) (g : ℕ) (ts us : List Term) → ((i j : ℕ) (t : Term) → slice_get ts i ≡ Some t → slice_get ts j ≡ Some t → i ≡ j) → ((t : Term) → Contains ts t → Occurs p g t)
    → HoldsTerms p g us → count_by (λ t. known (sort_of p.signature t)) ts ≤ length us
occurring_at_most p g ts us once occurs holds =
    subst (λ n. n ≤ length us) (length-filter (λ t. known (sort_of p.signature t)) ts)
    (tested_at_most (λ t. known (sort_of p.signature t)) ts us once (λ t c k. let s = known_some (sort_of p.signature t) k in holds t s.0 (occurs t c) s.1))
