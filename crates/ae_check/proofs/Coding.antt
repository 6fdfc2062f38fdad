-- Codes say what literals say: tests, what becomes false, and refutations.
use Rattle.std.specs.Prelude.{ℕ, zero, suc, ◌<◌, Bool, true, false, cond, not, nat_eq, ◌&&◌, ◌||◌, List, [], ◌∷◌, ◌++◌, ◌≡◌, length, set, slice_get, Option, Some, None}
use Rattle.std.specs.List.{list_all}
use Rattle.std.proofs.Common.{refl, sym, ap, ◌∙◌, subst, arith, inl, inr, append_assoc, append-nil, get_or-set_same, get_or-set_other, length-set}
use Rattle.std.proofs.lemmas.Bool.{and_parts, and_from, cases_eq, cases_lt, eqb-true, eq-eqb, ne_eqb}
use Rattle.std.proofs.Math.Bool.{or-true, or-false}
use Rattle.std.proofs.lemmas.List.{set_past}
use Rattle.std.proofs.lemmas.List.Folds.{list_any-append}
use Rattle.std.proofs.lemmas.Option.{same_Some}
use Rattle.ae_base.specs.Decided.{decided}
use Rattle.ae_base.specs.Options.{when, or_else, ◌>>=◌}
use Rattle.ae_base.specs.Relations.{Pairwise}
use Rattle.ae_base.proofs.Decided.{decided_yes, decided_of}
use Rattle.ae_base.proofs.Options.{bind_some}
use Rattle.ae_base.proofs.Tests.{by_bool, same_truths, false_true, nat_eq_itself}
use Rattle.ae_core.specs.Decided.{Lit_discrete}
use Rattle.ae_core.specs.declared.formulas.Formula.{Formula}
use Rattle.ae_core.specs.declared.formulas.Lit.{Lit}
use Rattle.ae_core.specs.declared.problems.Problem.{Problem}
use Rattle.ae_core.specs.declared.proofs.ClauseLine.{ClauseLine}
use Rattle.ae_rules.specs.Clauses as rules
use Rattle.ae_rules.specs.Clauses.{Clause, opposite, stands, is_or_stands}
use Rattle.ae_rules.specs.Derivations.{stated_by, hinted, is_refuted}
use Rattle.ae_check.specs.declared.codes.Code.{Code}
use Rattle.ae_check.specs.declared.codes.Stamp.{Stamp}
use Rattle.ae_check.specs.Inner.Coding.{IsTable, IsCode, AreCodes, turned, unstamped, stamp_at, side, with_side, is_false, stamped, AreBefore, AreFalse, has_true, all_false, same_code, is_settled, next_false, all_stamped, advanced, refutes, AreConcluded}

-- ---- signs
same_sign : (a b : Bool) → cond a b (not b) ≡ true → a ≡ b
same_sign true true e = refl
same_sign true false e = false_true e
same_sign false true e = false_true e
same_sign false false e = refl

sign_same : (a b : Bool) → a ≡ b → cond a b (not b) ≡ true
sign_same true true e = refl
sign_same true false e = sym e
sign_same false true e = e
sign_same false false e = refl

-- ---- one literal falls
sides : (now : ℕ) (a b : Bool) (s : Stamp) → nat_eq (side b (with_side a now s)) now ≡ (nat_eq (side b s) now || cond a b (not b))
sides now true true s = nat_eq_itself now ∙ sym (or-true (nat_eq s.positive now))
sides now true false s = sym (or-false (nat_eq s.negative now))
sides now false true s = sym (or-false (nat_eq s.positive now))
sides now false false s = nat_eq_itself now ∙ sym (or-true (nat_eq s.negative now))

false_there : (now : ℕ) (stamps : List Stamp) (k j : Code) → k.number < length stamps → j.number ≡ k.number → is_false now (stamped now stamps k) j ≡ (is_false now stamps j || same_code k j)
false_there now stamps k j b e =
    let sign : Bool = cond k.positive j.positive (not j.positive) in
    let new : stamp_at (stamped now stamps k) j.number ≡ with_side k.positive now (stamp_at stamps k.number) =
    ap (stamp_at (stamped now stamps k)) e ∙ get_or-set_same stamps k.number (with_side k.positive now (stamp_at stamps k.number)) unstamped b in
    let old : nat_eq (side j.positive (stamp_at stamps k.number)) now ≡ is_false now stamps j = ap (λ n. nat_eq (side j.positive (stamp_at stamps n)) now) (sym e) in
    let same : sign ≡ same_code k j = sym (ap (λ b. b && cond k.positive j.positive (not j.positive)) (eq-eqb k.number j.number (sym e))) in
    ap (λ s. nat_eq (side j.positive s) now) new ∙ sides now k.positive j.positive (stamp_at stamps k.number) ∙ (λ i. old i || same i)

false_elsewhere : (now : ℕ) (stamps : List Stamp) (k j : Code) → (j.number ≡ k.number → ⊥) → is_false now (stamped now stamps k) j ≡ (is_false now stamps j || same_code k j)
false_elsewhere now stamps k j d =
    let new : stamp_at (stamped now stamps k) j.number ≡ stamp_at stamps j.number = get_or-set_other stamps k.number j.number (with_side k.positive now (stamp_at stamps k.number)) unstamped d in
    let other : same_code k j ≡ false = ap (λ b. b && cond k.positive j.positive (not j.positive)) (ne_eqb k.number j.number (λ q. d (sym q))) in
    ap (λ s. nat_eq (side j.positive s) now) new ∙ sym (ap (λ b. is_false now stamps j || b) other ∙ or-false (is_false now stamps j))

-- a literal that is false then was false, or is the one that fell
false_stamped : (now : ℕ) (stamps : List Stamp) (k j : Code) → k.number < length stamps → is_false now (stamped now stamps k) j ≡ (is_false now stamps j || same_code k j)
false_stamped now stamps k j b = elim (cases_eq j.number k.number) [
  | inl e ↦ false_there now stamps k j b e
  | inr d ↦ false_elsewhere now stamps k j d
]

-- ---- tables and stamps that grow old
pub table_stamped : (numbers : Formula → Option ℕ) (now : ℕ) (stamps : List Stamp) (k : Code) → IsTable numbers stamps → IsTable numbers (stamped now stamps k)
table_stamped numbers now stamps k t = record {
  within = λ f n e. (let b = t.within f n e in let s = length-set stamps k.number (with_side k.positive now (stamp_at stamps k.number)) in omega (arith, b, s));
  apart = t.apart;
}

pub table_all_stamped : (numbers : Formula → Option ℕ) (now : ℕ) (stamps : List Stamp) (ks : List Code) → IsTable numbers stamps → IsTable numbers (all_stamped now stamps ks)
table_all_stamped numbers now stamps [] t = t
table_all_stamped numbers now stamps (k ∷ ks) t = table_all_stamped numbers now (stamped now stamps k) ks (table_stamped numbers now stamps k t)

side_below : (a b : Bool) (now m : ℕ) (s : Stamp) → now < m → side b s < m → side b (with_side a now s) < m
side_below true true now m s l h = l
side_below true false now m s l h = h
side_below false true now m s l h = h
side_below false false now m s l h = l

pub before_stamped : (now m : ℕ) (stamps : List Stamp) (k : Code) → now < m → AreBefore m stamps → AreBefore m (stamped now stamps k)
before_stamped now m stamps k l a = record { each = each }
  where
    new : Stamp
    new = with_side k.positive now (stamp_at stamps k.number)

    each : (b : Bool) (n : ℕ) → side b (stamp_at (set stamps k.number (with_side k.positive now (stamp_at stamps k.number))) n) < m
    each b n = elim (cases_eq n k.number) [
      | inr d ↦ subst (λ s. side b s < m) (sym (get_or-set_other stamps k.number n (with_side k.positive now (stamp_at stamps k.number)) unstamped d)) (a.each b n)
      | inl e ↦ elim (cases_lt k.number (length stamps)) [
        | inl w ↦ subst (λ s. side b s < m) (sym (ap (stamp_at (stamped now stamps k)) e ∙ get_or-set_same stamps k.number (with_side k.positive now (stamp_at stamps k.number)) unstamped w))
            (side_below k.positive b now m (stamp_at stamps k.number) l (a.each b k.number))
        | inr w ↦ subst (λ z. side b (stamp_at z n) < m) (sym (set_past stamps k.number (with_side k.positive now (stamp_at stamps k.number)) w)) (a.each b n)
      ]
    ]

pub before_all_stamped : (now m : ℕ) (stamps : List Stamp) (ks : List Code) → now < m → AreBefore m stamps → AreBefore m (all_stamped now stamps ks)
before_all_stamped now m stamps [] l a = a
before_all_stamped now m stamps (k ∷ ks) l a = before_all_stamped now m (stamped now stamps k) ks l (before_stamped now m stamps k l a)

pub all_stamped_size : (now : ℕ) (stamps : List Stamp) (ks : List Code) → length (all_stamped now stamps ks) ≡ length stamps
all_stamped_size now stamps [] = refl
all_stamped_size now stamps (k ∷ ks) = all_stamped_size now (stamped now stamps k) ks ∙ length-set stamps k.number (with_side k.positive now (stamp_at stamps k.number))

-- what one literal that falls keeps, a clause keeps that leads further
advanced_keeps : (P : List Stamp → Type 0) (now : ℕ) (stamps : List Stamp) (clauses : List (List Code)) (h : ℕ) (s : List Stamp) → ((k : Code) → P (stamped now stamps k)) → P stamps → advanced now stamps clauses h ≡ Some s → P s
advanced_keeps P now stamps clauses h s f a e =
    let b = bind_some (slice_get clauses h) (λ ks. cond (has_true now stamps ks) (Some stamps) (next_false now stamps ks >>= λ k. Some (stamped now stamps k))) s e in
    by_bool (has_true now stamps b.0)
    (λ y. subst P (same_Some stamps s (sym (ap (λ t. cond t (Some stamps) (next_false now stamps b.0 >>= λ k. Some (stamped now stamps k))) y) ∙ b.2)) a)
    (λ n.
    let c = bind_some (next_false now stamps b.0) (λ k. Some (stamped now stamps k)) s (sym (ap (λ t. cond t (Some stamps) (next_false now stamps b.0 >>= λ k. Some (stamped now stamps k))) n) ∙ b.2) in
    subst P (same_Some (stamped now stamps c.0) s c.2) (f c.0))

pub advanced_size : (now : ℕ) (stamps : List Stamp) (clauses : List (List Code)) (h : ℕ) (s : List Stamp) → advanced now stamps clauses h ≡ Some s → length s ≡ length stamps
advanced_size now stamps clauses h s e = advanced_keeps (λ z. length z ≡ length stamps) now stamps clauses h s (λ k. length-set stamps k.number (with_side k.positive now (stamp_at stamps k.number))) refl e

pub advanced_before : (now m : ℕ) (stamps : List Stamp) (clauses : List (List Code)) (h : ℕ) (s : List Stamp) → now < m → AreBefore m stamps → advanced now stamps clauses h ≡ Some s → AreBefore m s
advanced_before now m stamps clauses h s l a e = advanced_keeps (AreBefore m) now stamps clauses h s (λ k. before_stamped now m stamps k l a) a e

-- nothing has the stamp of now yet
pub none_false : (numbers : Formula → Option ℕ) (now : ℕ) (stamps : List Stamp) → AreBefore now stamps → AreFalse numbers now stamps []
none_false numbers now stamps a = record {
  each = λ l k c. (let b = a.each k.positive k.number in ne_eqb (side k.positive (stamp_at stamps k.number)) now (λ e. absurd (omega (arith, b, e))));
}

-- ---- one code and one literal
module _ (numbers : Formula → Option ℕ) (size : List Stamp) (t : IsTable numbers size) where
  same_lits : (l m : Lit) (j k : Code) → IsCode numbers l j → IsCode numbers m k → same_code j k ≡ decided (Lit_discrete l m)
  same_lits l m j k a b = same_truths (same_code j k) (decided (Lit_discrete l m)) to from
    where
      to : same_code j k ≡ true → decided (Lit_discrete l m) ≡ true
      to e =
          let parts = and_parts (nat_eq j.number k.number) (cond j.positive k.positive (not k.positive)) e in
          let f : l.formula ≡ m.formula = t.apart l.formula m.formula k.number (a.0 ∙ ap Some (eqb-true j.number k.number parts.0)) b.0 in
          let s : l.positive ≡ m.positive = a.1 ∙ same_sign j.positive k.positive parts.1 ∙ sym b.1 in
          decided_of (Lit_discrete l m) (λ i. record { positive = s i; formula = f i })

      from : decided (Lit_discrete l m) ≡ true → same_code j k ≡ true
      from e =
          let q : l ≡ m = decided_yes (Lit_discrete l m) e in
          let n : j.number ≡ k.number = same_Some j.number k.number (sym a.0 ∙ ap (λ (x : Lit). numbers x.formula) q ∙ b.0) in
          let s : j.positive ≡ k.positive = sym a.1 ∙ ap (λ (x : Lit). x.positive) q ∙ b.1 in
          and_from (nat_eq j.number k.number) (cond j.positive k.positive (not k.positive)) (eq-eqb j.number k.number n) (sign_same j.positive k.positive s)

-- a literal more that is false
pub more_false : (numbers : Formula → Option ℕ) (now : ℕ) (stamps : List Stamp) (fs : List Lit) → IsTable numbers stamps → AreFalse numbers now stamps fs → (l : Lit) (k : Code) → IsCode numbers l k → AreFalse numbers now (stamped now stamps k) (fs ++ l ∷ [])
more_false numbers now stamps fs t a l k c = record {
  each = λ m j e.
      false_stamped now stamps k j (t.within l.formula k.number c.0)
      ∙ (λ i. a.each m j e i || same_lits numbers stamps t l m k j c e i)
      ∙ sym (list_any-append (λ x. decided (Lit_discrete x m)) fs (l ∷ []) ∙ ap (λ b. stands fs m || b) (or-false (decided (Lit_discrete l m))));
}

pub all_fall : (numbers : Formula → Option ℕ) (now : ℕ) (stamps : List Stamp) (fs : List Lit) (c : Clause) (ks : List Code) → IsTable numbers stamps → AreFalse numbers now stamps fs → AreCodes numbers c ks → AreFalse numbers now (all_stamped now stamps ks) (fs ++ c)
all_fall numbers now stamps fs [] [] t a p = subst (AreFalse numbers now stamps) (sym (append-nil fs)) a
all_fall numbers now stamps fs [] (k ∷ ks) t a p = absurd p
all_fall numbers now stamps fs (l ∷ c) [] t a p = absurd p
all_fall numbers now stamps fs (l ∷ c) (k ∷ ks) t a p =
    subst (AreFalse numbers now (all_stamped now (stamped now stamps k) ks)) (append_assoc fs (l ∷ []) c)
    (all_fall numbers now (stamped now stamps k) (fs ++ l ∷ []) c ks (table_stamped numbers now stamps k t) (more_false numbers now stamps fs t a l k p.0) p.1)

-- ---- tests
abbrev Alike : (Formula → Option ℕ) → Option Lit → Option Code → Type 0
Alike numbers None None = Unit {0}
Alike numbers (Some l) (Some k) = IsCode numbers l k
Alike numbers _ _ = ⊥

pick_alike : (numbers : Formula → Option ℕ) (b d : Bool) (o : Option Lit) (q : Option Code) (l : Lit) (k : Code) → Alike numbers o q → IsCode numbers l k → Alike numbers (cond b o (when d l)) (cond b q (when d k))
pick_alike numbers true d o q l k a c = a
pick_alike numbers false true o q l k a c = c
pick_alike numbers false false o q l k a c = tt

module _ (numbers : Formula → Option ℕ) (now : ℕ) (stamps : List Stamp) (fs : List Lit) (t : IsTable numbers stamps) (a : AreFalse numbers now stamps fs) where
  opposite_code : (l : Lit) (k : Code) → IsCode numbers l k → IsCode numbers (opposite l) (turned k)
  opposite_code l k c = (c.0, ap not c.1)

  true_same : (c : Clause) (ks : List Code) → AreCodes numbers c ks → has_true now stamps ks ≡ rules.has_true fs c
  true_same [] [] p = refl
  true_same [] (k ∷ ks) p = absurd p
  true_same (l ∷ c) [] p = absurd p
  true_same (l ∷ c) (k ∷ ks) p = λ i. a.each (opposite l) (turned k) (opposite_code l k p.0) i || true_same c ks p.1 i

  false_same : (c : Clause) (ks : List Code) → AreCodes numbers c ks → all_false now stamps ks ≡ list_all (stands fs) c
  false_same [] [] p = refl
  false_same [] (k ∷ ks) p = absurd p
  false_same (l ∷ c) [] p = absurd p
  false_same (l ∷ c) (k ∷ ks) p = λ i. a.each l k p.0 i && false_same c ks p.1 i

  settled_same : (m : Lit) (j : Code) → IsCode numbers m j → (c : Clause) (ks : List Code) → AreCodes numbers c ks → list_all (is_settled now stamps j) ks ≡ list_all (is_or_stands fs m) c
  settled_same m j e [] [] p = refl
  settled_same m j e [] (k ∷ ks) p = absurd p
  settled_same m j e (l ∷ c) [] p = absurd p
  settled_same m j e (l ∷ c) (k ∷ ks) p = λ i. (same_lits numbers stamps t m l j k e p.0 i || a.each l k p.0 i) && settled_same m j e c ks p.1 i

  next_alike : (c : Clause) (ks : List Code) → AreCodes numbers c ks → Alike numbers (rules.next_false fs c) (next_false now stamps ks)
  next_alike [] [] p = tt
  next_alike [] (k ∷ ks) p = absurd p
  next_alike (l ∷ c) [] p = absurd p
  next_alike (l ∷ c) (k ∷ ks) p =
      let falls = a.each l k p.0 in
      let settled = settled_same l k p.0 c ks p.1 in
      subst (λ b. Alike numbers (rules.next_false fs (l ∷ c)) (cond b (next_false now stamps ks) (when (list_all (is_settled now stamps k) ks) (turned k)))) (sym falls)
      (subst (λ d. Alike numbers (rules.next_false fs (l ∷ c)) (cond (stands fs l) (next_false now stamps ks) (when d (turned k)))) (sym settled)
      (pick_alike numbers (stands fs l) (list_all (is_or_stands fs l) c) (rules.next_false fs c) (next_false now stamps ks) (opposite l) (turned k) (next_alike c ks p.1) (opposite_code l k p.0)))

-- ---- refutations
abbrev Found : (Formula → Option ℕ) → Option Clause → Option (List Code) → Type 0
Found numbers None None = Unit {0}
Found numbers (Some c) (Some ks) = AreCodes numbers c ks
Found numbers _ _ = ⊥

find : (p : Problem) (g : ℕ) (numbers : Formula → Option ℕ) (earlier : List ClauseLine) (clauses : List (List Code)) → Pairwise (AreConcluded p g numbers) earlier clauses → (h : ℕ) → Found numbers (stated_by p g earlier h) (slice_get clauses h)
find p g numbers [] [] w h = tt
find p g numbers [] (k ∷ ks) w h = absurd w
find p g numbers (l ∷ ls) [] w h = absurd w
find p g numbers (l ∷ ls) (k ∷ ks) w zero = subst (λ o. Found numbers o (Some k)) (sym w.0.1) w.0.2
find p g numbers (l ∷ ls) (k ∷ ks) w (suc h) = find p g numbers ls ks w.1 h

abbrev and_then : Option Clause → Option (List Clause) → Option (List Clause)
and_then o r = o >>= λ x. r >>= λ xs. Some (x ∷ xs)

module _ (numbers : Formula → Option ℕ) (now : ℕ) (clauses : List (List Code)) where
  abbrev Same : List ℕ → Option (List Clause) → Type 0
  Same hs r = (fs : List Lit) (stamps : List Stamp) → IsTable numbers stamps → AreFalse numbers now stamps fs → refutes now stamps clauses hs ≡ is_refuted r fs

  last_same : (fs : List Lit) (stamps : List Stamp) → IsTable numbers stamps → AreFalse numbers now stamps fs → (o : Option Clause) (q : Option (List Code)) → Found numbers o q
      → or_else (q >>= λ ks. Some (all_false now stamps ks)) false ≡ is_refuted (and_then o (Some [])) fs
  last_same fs stamps t a None None w = refl
  last_same fs stamps t a None (Some ks) w = absurd w
  last_same fs stamps t a (Some c) None w = absurd w
  last_same fs stamps t a (Some c) (Some ks) w = false_same numbers now stamps fs t a c ks w

  skip_step : (fs : List Lit) (c : Clause) (o : Option Clause) (r : Option (List Clause)) → rules.has_true fs c ≡ true → is_refuted (and_then o r) fs ≡ is_refuted (and_then (Some c) (and_then o r)) fs
  skip_step fs c None r e = refl
  skip_step fs c (Some d) None e = refl
  skip_step fs c (Some d) (Some cs) e =
      sym (ap (λ b. cond b (rules.refutes fs (d ∷ cs)) (elim (rules.next_false fs c) [ Some l ↦ rules.refutes (fs ++ l ∷ []) (d ∷ cs) | None ↦ false ])) e)

  stop_step : (fs : List Lit) (c : Clause) (o : Option Clause) (r : Option (List Clause)) → rules.has_true fs c ≡ false → rules.next_false fs c ≡ None → false ≡ is_refuted (and_then (Some c) (and_then o r)) fs
  stop_step fs c None r e n = refl
  stop_step fs c (Some d) None e n = refl
  stop_step fs c (Some d) (Some cs) e n =
      sym (λ j. cond (e j) (rules.refutes fs (d ∷ cs)) (elim (n j) [ Some l ↦ rules.refutes (fs ++ l ∷ []) (d ∷ cs) | None ↦ false ]))

  fall_step : (fs : List Lit) (c : Clause) (l : Lit) (o : Option Clause) (r : Option (List Clause)) → rules.has_true fs c ≡ false → rules.next_false fs c ≡ Some l → is_refuted (and_then o r) (fs ++ l ∷ []) ≡ is_refuted (and_then (Some c) (and_then o r)) fs
  fall_step fs c l None r e n = refl
  fall_step fs c l (Some d) None e n = refl
  fall_step fs c l (Some d) (Some cs) e n =
      sym (λ j. cond (e j) (rules.refutes fs (d ∷ cs)) (elim (n j) [ Some l ↦ rules.refutes (fs ++ l ∷ []) (d ∷ cs) | None ↦ false ]))

  abbrev after : List Stamp → ℕ → List ℕ → Option (List Stamp) → Bool
  after stamps i hs s = or_else (s >>= λ s. Some (refutes now s clauses (i ∷ hs))) false

  open_step : (fs : List Lit) (stamps : List Stamp) → IsTable numbers stamps → AreFalse numbers now stamps fs → (c : Clause) → rules.has_true fs c ≡ false → (n : Option Lit) (q : Option Code) → rules.next_false fs c ≡ n → Alike numbers n q
      → (i : ℕ) (hs : List ℕ) (o : Option Clause) (r : Option (List Clause)) → Same (i ∷ hs) (and_then o r) → after stamps i hs (q >>= λ k. Some (stamped now stamps k)) ≡ is_refuted (and_then (Some c) (and_then o r)) fs
  open_step fs stamps t a c e None None n w i hs o r ih = stop_step fs c o r e n
  open_step fs stamps t a c e None (Some k) n w i hs o r ih = absurd w
  open_step fs stamps t a c e (Some l) None n w i hs o r ih = absurd w
  open_step fs stamps t a c e (Some l) (Some k) n w i hs o r ih =
      ih (fs ++ l ∷ []) (stamped now stamps k) (table_stamped numbers now stamps k t) (more_false numbers now stamps fs t a l k w) ∙ fall_step fs c l o r e n

  step : (fs : List Lit) (stamps : List Stamp) → IsTable numbers stamps → AreFalse numbers now stamps fs → (x : Option Clause) (q : Option (List Code)) → Found numbers x q
      → (i : ℕ) (hs : List ℕ) (o : Option Clause) (r : Option (List Clause)) → Same (i ∷ hs) (and_then o r)
      → after stamps i hs (q >>= λ ks. cond (has_true now stamps ks) (Some stamps) (next_false now stamps ks >>= λ k. Some (stamped now stamps k))) ≡ is_refuted (and_then x (and_then o r)) fs
  step fs stamps t a None None w i hs o r ih = refl
  step fs stamps t a None (Some ks) w i hs o r ih = absurd w
  step fs stamps t a (Some c) None w i hs o r ih = absurd w
  step fs stamps t a (Some c) (Some ks) w i hs o r ih =
      let e = true_same numbers now stamps fs t a c ks w in
      by_bool (rules.has_true fs c)
      (λ y. ap (λ b. after stamps i hs (cond b (Some stamps) (next_false now stamps ks >>= λ k. Some (stamped now stamps k)))) (e ∙ y) ∙ ih fs stamps t a ∙ skip_step fs c o r y)
      (λ y. ap (λ b. after stamps i hs (cond b (Some stamps) (next_false now stamps ks >>= λ k. Some (stamped now stamps k)))) (e ∙ y)
      ∙ open_step fs stamps t a c y (rules.next_false fs c) (next_false now stamps ks) refl (next_alike numbers now stamps fs t a c ks w) i hs o r ih)

  refutes_same : (p : Problem) (g : ℕ) (earlier : List ClauseLine) → Pairwise (AreConcluded p g numbers) earlier clauses → (hs : List ℕ) → Same hs (hinted p g earlier hs)
  refutes_same p g earlier w [] fs stamps t a = refl
  refutes_same p g earlier w (h ∷ []) fs stamps t a = last_same fs stamps t a (stated_by p g earlier h) (slice_get clauses h) (find p g numbers earlier clauses w h)
  refutes_same p g earlier w (h ∷ i ∷ hs) fs stamps t a =
      step fs stamps t a (stated_by p g earlier h) (slice_get clauses h) (find p g numbers earlier clauses w h) i hs (stated_by p g earlier i) (hinted p g earlier hs) (refutes_same p g earlier w (i ∷ hs))

-- the hinted clauses refute by their codes what they refute by their literals
pub refuted_by_codes : (p : Problem) (g : ℕ) (numbers : Formula → Option ℕ) (now : ℕ) (stamps : List Stamp) (earlier : List ClauseLine) (clauses : List (List Code)) (c : Clause) (ks : List Code) (hs : List ℕ)
    → IsTable numbers stamps → AreBefore now stamps → Pairwise (AreConcluded p g numbers) earlier clauses → AreCodes numbers c ks
    → refutes now (all_stamped now stamps ks) clauses hs ≡ is_refuted (hinted p g earlier hs) c
refuted_by_codes p g numbers now stamps earlier clauses c ks hs t b w e =
    refutes_same numbers now clauses p g earlier w hs c (all_stamped now stamps ks) (table_all_stamped numbers now stamps ks t)
    (all_fall numbers now stamps [] c ks t (none_false numbers now stamps b) e)
