-- The lists of clauses while a clause comes in or goes.
use Rattle.std.proofs.Common.{◌≡◌, ◌≢◌, ℕ, ◌+◌, ◌<◌, Bool, true, false, cond, List, [], ◌∷◌, ◌++◌, length, get_or, sym, ◌∙◌, ap, subst, arith, ◌⊎◌, inl, inr, append-nil}
use Rattle.std.proofs.lemmas.Bool.{cases_eq}
use Rattle.std.proofs.lemmas.List.{get_or_default, same_from_push}
use Rattle.ae_rules.specs.Clauses.{Clause, stands}
use Rattle.ae_core.specs.declared.formulas.Lit.{Lit}
use Rattle.ae_propagation.specs.Inner.Finding.{IsPut, IsTaken, holders, AreListed, HasBefore, HasFrom, AreEntered, AreLeft}
use Rattle.ae_propagation.proofs.Members.{lit_cases, member_cases, stands_member, stands_no_member}
use Rattle.ae_propagation.proofs.Listing.{holders_last, never_next}

pub none_entered : (f : Lit → List ℕ) (u : List Clause) (c : Clause) → AreListed f u → AreEntered f u c 0
none_entered f u c h l = inl (h l, λ b. omega (arith, b.1))

-- a literal that isn't read next stands elsewhere
elsewhere : (c : Clause) (i j : ℕ) (x l : Lit) → i < length c → x ≡ get_or c i x → l ≢ x → get_or c j l ≡ l → j ≡ i → ⊥
elsewhere c i j x l w e d q same = d (sym q ∙ (ap (λ (k : ℕ). get_or c k l) same ∙ (get_or_default c i l x w ∙ sym e)))

entered_own : (f g : Lit → List ℕ) (u : List Clause) (x : Lit) → ((f x ≡ holders u x) ⊎ (f x ≡ holders u x ++ length u ∷ [])) → IsPut (length u) (f x) (g x) → g x ≡ holders u x ++ length u ∷ []
entered_own f g u x (inl q) (inl p) = absurd (never_next u x p.0.0 (sym q ∙ p.0.1))
entered_own f g u x (inl q) (inr p) = p.1 ∙ ap (λ (w : List ℕ). w ++ length u ∷ []) q
entered_own f g u x (inr q) (inl p) = p.1 ∙ q
entered_own f g u x (inr q) (inr p) = absurd (p.0 (holders u x, q))

pub entered_next : (f g : Lit → List ℕ) (u : List Clause) (c : Clause) (i : ℕ) (x : Lit) → i < length c → x ≡ get_or c i x → IsPut (length u) (f x) (g x) → ((l : Lit) → l ≢ x → g l ≡ f l)
    → AreEntered f u c i → AreEntered g u c (i + 1)
entered_next f g u c i x w e put others h l = elim (lit_cases x l) as (λ _. ((g l ≡ holders u l) × (HasBefore c (i + 1) l → ⊥)) ⊎ ((g l ≡ holders u l ++ length u ∷ []) × HasBefore c (i + 1) l)) [
  | inl same ↦ inr (subst (λ (m : Lit). (g m ≡ holders u m ++ length u ∷ []) × HasBefore c (i + 1) m) same (
    entered_own f g u x (elim (h x) as (λ _. (f x ≡ holders u x) ⊎ (f x ≡ holders u x ++ length u ∷ [])) [ inl q ↦ inl q.0 | inr q ↦ inr q.0 ]) put,
    (i, omega arith, w, sym e),
  ))
  | inr d ↦ elim (h l) as (λ _. ((g l ≡ holders u l) × (HasBefore c (i + 1) l → ⊥)) ⊎ ((g l ≡ holders u l ++ length u ∷ []) × HasBefore c (i + 1) l)) [
    | inl q ↦ inl (
      others l (λ z. d (sym z)) ∙ q.0,
      λ b. elim (cases_eq b.0 i) as (λ _. ⊥) [
        | inl at_i ↦ elsewhere c i b.0 x l w e (λ z. d (sym z)) b.3 at_i
        | inr off ↦ q.1 (b.0, omega (arith, b.1, off), b.2, b.3)
      ],
    )
    | inr q ↦ inr (others l (λ z. d (sym z)) ∙ q.0, (q.1.0, omega (arith, q.1.1), q.1.2, q.1.3))
  ]
]

-- all literals are in
pub entered_all : (f : Lit → List ℕ) (u : List Clause) (c : Clause) → AreEntered f u c (length c) → AreListed f (u ++ c ∷ [])
entered_all f u c h l = elim (h l) as (λ _. f l ≡ holders (u ++ c ∷ []) l) [
  | inl q ↦
      let n : stands c l ≡ false = stands_no_member c l (λ k. q.1 (k.0, k.1, k.1, k.2)) in
      q.0 ∙ sym (holders_last u c l ∙ (ap (λ (b : Bool). holders u l ++ cond b (length u ∷ []) []) n ∙ append-nil (holders u l)))
  | inr q ↦
      let y : stands c l ≡ true = stands_member c l (q.1.0, q.1.2, q.1.3) in
      q.0 ∙ sym (holders_last u c l ∙ ap (λ (b : Bool). holders u l ++ cond b (length u ∷ []) []) y)
]

-- ---- a clause that goes
pub entered_left : (f : Lit → List ℕ) (u : List Clause) (c : Clause) (i : ℕ) → AreEntered f u c i → AreLeft f u c 0
entered_left f u c i h l = elim (h l) as (λ _. (f l ≡ holders u l) ⊎ ((f l ≡ holders u l ++ length u ∷ []) × HasFrom c 0 l)) [
  | inl q ↦ inl q.0
  | inr q ↦ inr (q.0, (q.1.0, omega arith, q.1.2, q.1.3))
]

pub same_left : (f g : Lit → List ℕ) (u : List Clause) (c : Clause) (i : ℕ) → ((l : Lit) → g l ≡ f l) → AreLeft f u c i → AreLeft g u c i
same_left f g u c i s h l = elim (h l) as (λ _. (g l ≡ holders u l) ⊎ ((g l ≡ holders u l ++ length u ∷ []) × HasFrom c i l)) [ inl q ↦ inl (s l ∙ q) | inr q ↦ inr (s l ∙ q.0, q.1) ]

pub listed_left : (f : Lit → List ℕ) (u : List Clause) (c : Clause) → AreListed f (u ++ c ∷ []) → AreLeft f u c 0
listed_left f u c h l = elim (member_cases c l) as (λ _. (f l ≡ holders u l) ⊎ ((f l ≡ holders u l ++ length u ∷ []) × HasFrom c 0 l)) [
  | inl k ↦ inr (
    h l ∙ (holders_last u c l ∙ ap (λ (b : Bool). holders u l ++ cond b (length u ∷ []) []) (stands_member c l k)),
    (k.0, omega arith, k.1, k.2),
  )
  | inr n ↦ inl (h l ∙ (holders_last u c l ∙ (ap (λ (b : Bool). holders u l ++ cond b (length u ∷ []) []) (stands_no_member c l n) ∙ append-nil (holders u l))))
]

left_own : (f g : Lit → List ℕ) (u : List Clause) (x : Lit) → ((f x ≡ holders u x) ⊎ (f x ≡ holders u x ++ length u ∷ [])) → IsTaken (length u) (f x) (g x) → g x ≡ holders u x
left_own f g u x (inl q) (inl p) = absurd (never_next u x (g x) (sym q ∙ p))
left_own f g u x (inl q) (inr p) = p.1 ∙ q
left_own f g u x (inr q) (inl p) = (same_from_push (g x) (holders u x) (length u) (length u) (sym p ∙ q)).0
left_own f g u x (inr q) (inr p) = absurd (p.0 (holders u x, q))

pub left_next : (f g : Lit → List ℕ) (u : List Clause) (c : Clause) (i : ℕ) (x : Lit) → i < length c → x ≡ get_or c i x → IsTaken (length u) (f x) (g x) → ((l : Lit) → l ≢ x → g l ≡ f l)
    → AreLeft f u c i → AreLeft g u c (i + 1)
left_next f g u c i x w e taken others h l = elim (lit_cases x l) as (λ _. (g l ≡ holders u l) ⊎ ((g l ≡ holders u l ++ length u ∷ []) × HasFrom c (i + 1) l)) [
  | inl same ↦ inl (subst (λ (m : Lit). g m ≡ holders u m) same
      (left_own f g u x (elim (h x) as (λ _. (f x ≡ holders u x) ⊎ (f x ≡ holders u x ++ length u ∷ [])) [ inl q ↦ inl q | inr q ↦ inr q.0 ]) taken))
  | inr d ↦ elim (h l) as (λ _. (g l ≡ holders u l) ⊎ ((g l ≡ holders u l ++ length u ∷ []) × HasFrom c (i + 1) l)) [
    | inl q ↦ inl (others l (λ z. d (sym z)) ∙ q)
    | inr q ↦ elim (cases_eq q.1.0 i) as (λ _. (g l ≡ holders u l) ⊎ ((g l ≡ holders u l ++ length u ∷ []) × HasFrom c (i + 1) l)) [
      | inl at_i ↦ absurd (elsewhere c i q.1.0 x l w e (λ z. d (sym z)) q.1.3 at_i)
      | inr off ↦ inr (others l (λ z. d (sym z)) ∙ q.0, (q.1.0, omega (arith, q.1.1, off), q.1.2, q.1.3))
    ]
  ]
]

pub left_all : (f : Lit → List ℕ) (u : List Clause) (c : Clause) → AreLeft f u c (length c) → AreListed f u
left_all f u c h l = elim (h l) as (λ _. f l ≡ holders u l) [
  | inl q ↦ q
  | inr q ↦ absurd (omega (arith, q.1.1, q.1.2))
]
