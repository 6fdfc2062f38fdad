-- Clauses of which the first literals of a trail ask nothing.
use Rattle.std.proofs.Common.{◌≡◌, ℕ, ◌+◌, ◌<◌, ◌≤◌, List, [], ◌∷◌, ◌++◌, length, get_or, take, min, refl, sym, ◌∙◌, ap, subst, arith, inl, inr, Option, Some, None, length-append, length-take}
use Rattle.std.specs.Prelude.{MatchOption}
use Rattle.std.specs.List.{Contains}
use Rattle.std.proofs.lemmas.Bool.{cases_lt}
use Rattle.std.proofs.lemmas.List.{get_or-take, get_or_default, take_all, take_at, take_more, take-append-le}
use Rattle.ae_rules.specs.Clauses.{Clause, opposite}
use Rattle.ae_rules.proofs.Standing.{opposite_twice}
use Rattle.ae_core.specs.declared.formulas.Lit.{Lit}
use Rattle.ae_explain.specs.declared.trail.Assigned.{Assigned}
use Rattle.ae_explain.specs.Trail.{at, nothing, clause, Apart, IsFalse, AreFalse}
use Rattle.ae_propagation.specs.Settled.{Holds, HasTrue, AreOpen, IsQuiet, Grown}
use Rattle.ae_propagation.specs.Watched.{IsQuietBy, AreQuietBy}
use Rattle.ae_propagation.specs.Inner.Finding.{holders}
use Rattle.ae_propagation.proofs.Members.{lit_cases, member_cases}
use Rattle.ae_propagation.proofs.Listing.{holder_of}
use Rattle.ae_propagation.proofs.Settling.{open_not_false}
use Rattle.ae_propagation.proofs.Trails.{at_old, at_new, consistent}

-- what is false by the first literals is false
early : (t : List Assigned) (n : ℕ) (m : Lit) → IsFalse (take n t) m → IsFalse t m
early t n m f =
    let s : length (take n t) ≡ min n (length t) = length-take n t in
    let below : f.0 < n = omega (arith, s, f.1) in
    (f.0, omega (arith, s, f.1), ap (λ (a : Assigned). a.lit) (sym (get_or-take n t f.0 nothing below)) ∙ f.2)

-- ---- a clause that was tested
pub quiet_true : (t : List Assigned) (n : ℕ) (c : Clause) → Apart t → HasTrue t c → IsQuietBy (take n t) t c
quiet_true t n c apart y = record {
  not_false = λ all. consistent t apart y.0 y.2 (early t n y.0 (all y.0 y.1));
  unit = λ m k others. elim (lit_cases y.0 m) as (λ _. Holds t m) [
    | inl e ↦ subst (Holds t) e y.2
    | inr d ↦ absurd (consistent t apart y.0 y.2 (early t n y.0 (others y.0 y.1 d)))
  ];
}

pub quiet_open : (t : List Assigned) (n : ℕ) (c : Clause) → Apart t → AreOpen t c → IsQuietBy (take n t) t c
quiet_open t n c apart o = record {
  not_false = λ all. open_not_false t apart o.one o.open_one (early t n o.one (all o.one o.has));
  unit = λ m k others. elim (lit_cases o.one m) as (λ _. Holds t m) [
    | inl e ↦ elim (lit_cases o.other m) as (λ _. Holds t m) [
      | inl q ↦ absurd (o.differ (e ∙ sym q))
      | inr d ↦ absurd (open_not_false t apart o.other o.open_other (early t n o.other (others o.other o.has_other d)))
    ]
    | inr d ↦ absurd (open_not_false t apart o.one o.open_one (early t n o.one (others o.one o.has d)))
  ];
}

-- ---- a longer trail
holds_more : (t more : List Assigned) (m : Lit) → Holds t m → Holds (t ++ more) m
holds_more t more m h = (h.0, omega (arith, h.1, length-append t more), ap (λ (a : Assigned). a.lit) (at_old t more h.0 h.1) ∙ h.2)

pub grown_length : (old new : List Assigned) → Grown old new → length old ≤ length new
grown_length old new g = let q : length new ≡ length old + length g.more = ap length g.is ∙ length-append old g.more in omega (arith, q)

pub quiet_grown : (old new : List Assigned) (n : ℕ) (c : Clause) → Grown old new → n ≤ length old → IsQuietBy (take n old) old c → IsQuietBy (take n new) new c
quiet_grown old new n c g l q =
    subst (λ (t : List Assigned). IsQuietBy (take n t) t c) (sym g.is) (
    subst (λ (w : List Assigned). IsQuietBy w (old ++ g.more) c) (sym (take-append-le n old g.more l))
    (record { not_false = q.not_false; unit = λ m k others. holds_more old g.more m (q.unit m k others) })
    )

-- ---- one literal more
back : (first : List Assigned) (a : Assigned) (c : Clause) (m : Lit) → (Contains c (opposite a.lit) → ⊥) → Contains c m → IsFalse (first ++ a ∷ []) m → IsFalse first m
back first a c m none k f =
    let n : length (first ++ a ∷ []) ≡ length first + 1 = length-append first (a ∷ []) in
    elim (cases_lt f.0 (length first)) as (λ _. IsFalse first m) [
      | inl lt ↦ (f.0, lt, ap (λ (x : Assigned). x.lit) (sym (at_old first (a ∷ []) f.0 lt)) ∙ f.2)
      | inr ge ↦
          let q : length first ≡ f.0 = omega (arith, n, f.1, ge) in
          let is : at (first ++ a ∷ []) f.0 ≡ a = subst (λ (j : ℕ). at (first ++ a ∷ []) j ≡ a) q (at_new first a) in
          let e : opposite a.lit ≡ m = ap opposite (sym (ap (λ (x : Assigned). x.lit) is) ∙ f.2) ∙ opposite_twice m in
          absurd (none (subst (Contains c) (sym e) k))
    ]

-- a clause without its opposite
quiet_next : (t : List Assigned) (n : ℕ) (c : Clause) → n < length t → (Contains c (opposite (at t n).lit) → ⊥) → IsQuietBy (take n t) t c → IsQuietBy (take (n + 1) t) t c
quiet_next t n c l none q =
    subst (λ (w : List Assigned). IsQuietBy w t c) (sym (take_more t n nothing l)) (record {
      not_false = λ all. q.not_false (λ m k. back (take n t) (at t n) c m none k (all m k));
      unit = λ m k others. q.unit m k (λ x h d. back (take n t) (at t n) c x none h (others x h d));
    })

-- all clauses that have it were tested
pub quiet_after : (t : List Assigned) (u : List Clause) (n : ℕ) → n < length t → AreQuietBy (take n t) t u
    → ((i : ℕ) → i < length (holders u (opposite (at t n).lit)) → IsQuietBy (take (n + 1) t) t (clause u (get_or (holders u (opposite (at t n).lit)) i 0))) → AreQuietBy (take (n + 1) t) t u
quiet_after t u n within before tested k h = elim (member_cases (clause u k) (opposite (at t n).lit)) as (λ _. IsQuietBy (take (n + 1) t) t (clause u k)) [
  | inl has ↦
      let xs : List ℕ = holders u (opposite (at t n).lit) in
      let o = holder_of u (opposite (at t n).lit) k h has in
      subst (λ (j : ℕ). IsQuietBy (take (n + 1) t) t (clause u j)) (get_or_default xs o.0 0 k o.1 ∙ o.2) (tested o.0 o.1)
  | inr none ↦ quiet_next t n (clause u k) within none (before k h)
]

-- what is known after the clauses of some numbers were tested, and after all were that have the opposite of the literal at n
abbrev pub LookedAt : List Assigned → List Assigned → List Clause → List ℕ → Option ℕ → Type 0
LookedAt old new u numbers o =
    MatchOption o ((n : ℕ) → n ≤ length old → (i : ℕ) → i < length numbers → IsQuietBy (take n new) new (clause u (get_or numbers i 0))) (λ k. (k < length u) × AreFalse new (clause u k))

abbrev pub LookedAgainst : List Assigned → List Clause → ℕ → Option ℕ → Type 0
LookedAgainst new u n o = MatchOption o (AreQuietBy (take (n + 1) new) new u) (λ k. (k < length u) × AreFalse new (clause u k))

pub looked : (old new : List Assigned) (u v : List Clause) (numbers : List ℕ) (n : ℕ) → v ≡ u → numbers ≡ holders u (opposite (at old n).lit) → n < length old → Grown old new → AreQuietBy (take n old) old u
    → (o : Option ℕ) → LookedAt old new v numbers o → LookedAgainst new u n o
looked old new u v numbers n s e w g before None h =
    let same : at new n ≡ at old n = ap (λ (t : List Assigned). at t n) g.is ∙ at_old old g.more n w in
    let here : numbers ≡ holders u (opposite (at new n).lit) = e ∙ ap (λ (a : Assigned). holders u (opposite a.lit)) (sym same) in
    let tested : (i : ℕ) → i < length numbers → IsQuietBy (take (n + 1) new) new (clause u (get_or numbers i 0)) =
    subst (λ (x : List Clause). (i : ℕ) → i < length numbers → IsQuietBy (take (n + 1) new) new (clause x (get_or numbers i 0))) s (h (n + 1) (omega (arith, w))) in
    quiet_after new u n (omega (arith, w, grown_length old new g)) (λ k l. quiet_grown old new n (clause u k) g (omega (arith, w)) (before k l))
    (subst (λ (xs : List ℕ). (i : ℕ) → i < length xs → IsQuietBy (take (n + 1) new) new (clause u (get_or xs i 0))) here tested)
looked old new u v numbers n s e w g before (Some k) h = subst (λ (x : List Clause). (k < length x) × AreFalse new (clause x k)) s h

-- by all literals of the trail
pub quiet_all : (t : List Assigned) (u : List Clause) (n : ℕ) → length t ≤ n → AreQuietBy (take n t) t u → IsQuiet t u
quiet_all t u n l q =
    let e : take n t ≡ t = take_all n t l in
    let r : AreQuietBy t t u = subst (λ (w : List Assigned). AreQuietBy w t u) e q in
    record { none_false = λ k h f. (r k h).not_false f; units = λ k m h c f. (r k h).unit m c f }

-- behind a quiet trail
pub quiet_ahead : (t more : List Assigned) (u : List Clause) → IsQuiet t u → AreQuietBy (take (length t) (t ++ more)) (t ++ more) u
quiet_ahead t more u q k l =
    subst (λ (w : List Assigned). IsQuietBy w (t ++ more) (clause u k)) (sym (take_at t more (length t) refl))
    (record { not_false = q.none_false k l; unit = λ m c f. holds_more t more m (q.units k m l c f) })
