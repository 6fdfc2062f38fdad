-- One step of unit propagation by codes.
use Rattle.std.specs.Prelude.{ℕ, zero, suc, ◌+◌, ◌<◌, ◌≤◌, Bool, true, false, cond, List, [], ◌∷◌, ◌≡◌, length, drop, get_or, Option, Some, None}
use Rattle.std.specs.List.{list_all}
use Rattle.std.proofs.Common.{add-one, refl, sym, ap, ◌∙◌, arith}
use Rattle.ae_base.specs.Options.{when, or_else, ◌>>=◌}
use Rattle.ae_check.specs.declared.codes.Code.{Code}
use Rattle.ae_check.specs.declared.codes.Stamp.{Stamp}
use Rattle.ae_check.specs.Inner.Coding.{turned, is_false, stamped, is_settled, next_false, all_stamped, advanced, ends_false, refutes}

module _ (now : ℕ) where
  -- ---- what becomes false with a clause
  abbrev here : List Stamp → List Code → ℕ → Code → ℕ → Bool → Option Code
  here fs c i d k b = cond b (next_false now fs (drop k c)) (when (list_all (is_settled now fs (get_or c i d)) (drop k c)) (turned (get_or c i d)))

  next_go : (fs : List Stamp) (c : List Code) (i : ℕ) (d : Code) → i < length c → next_false now fs (drop i c) ≡ here fs c i d (suc i) (is_false now fs (get_or c i d))
  next_go fs [] i d b = absurd (omega (arith, b))
  next_go fs (x ∷ c) zero d b = refl
  next_go fs (x ∷ c) (suc i) d b = next_go fs c i d (omega (arith, b))

pub next_skip : (now : ℕ) (fs : List Stamp) (c : List Code) (i : ℕ) (d : Code) → i < length c → is_false now fs (get_or c i d) ≡ true → next_false now fs (drop i c) ≡ next_false now fs (drop (i + 1) c)
next_skip now fs c i d b t = next_go now fs c i d b ∙ (λ j. here now fs c i d (sym (add-one i) j) (t j))

pub next_open : (now : ℕ) (fs : List Stamp) (c : List Code) (i : ℕ) (d : Code) → i < length c → is_false now fs (get_or c i d) ≡ false → list_all (is_settled now fs (get_or c i d)) (drop (i + 1) c) ≡ true
    → next_false now fs (drop i c) ≡ Some (turned (get_or c i d))
next_open now fs c i d b t a = next_go now fs c i d b ∙ (λ j. here now fs c i d (sym (add-one i) j) (t j)) ∙ ap (λ h. when h (turned (get_or c i d))) a

pub next_two : (now : ℕ) (fs : List Stamp) (c : List Code) (i : ℕ) (d : Code) → i < length c → is_false now fs (get_or c i d) ≡ false → list_all (is_settled now fs (get_or c i d)) (drop (i + 1) c) ≡ false
    → next_false now fs (drop i c) ≡ None
next_two now fs c i d b t a = next_go now fs c i d b ∙ (λ j. here now fs c i d (sym (add-one i) j) (t j)) ∙ ap (λ h. when h (turned (get_or c i d))) a

pub next_end : (now : ℕ) (fs : List Stamp) (c : List Code) (i : ℕ) → length c ≤ i → next_false now fs (drop i c) ≡ None
next_end now fs [] zero b = refl
next_end now fs [] (suc i) b = refl
next_end now fs (x ∷ c) zero b = absurd (omega (arith, b))
next_end now fs (x ∷ c) (suc i) b = next_end now fs c i (omega (arith, b))

-- ---- the literals of a clause fall one after another
fall_go : (now : ℕ) (stamps : List Stamp) (c : List Code) (i : ℕ) (d : Code) → i < length c → all_stamped now stamps (drop i c) ≡ all_stamped now (stamped now stamps (get_or c i d)) (drop (suc i) c)
fall_go now stamps [] i d b = absurd (omega (arith, b))
fall_go now stamps (x ∷ c) zero d b = refl
fall_go now stamps (x ∷ c) (suc i) d b = fall_go now stamps c i d (omega (arith, b))

pub fall_more : (now : ℕ) (stamps : List Stamp) (c : List Code) (i : ℕ) (d : Code) → i < length c → all_stamped now stamps (drop i c) ≡ all_stamped now (stamped now stamps (get_or c i d)) (drop (i + 1) c)
fall_more now stamps c i d b = fall_go now stamps c i d b ∙ (λ j. all_stamped now (stamped now stamps (get_or c i d)) (drop (sym (add-one i) j) c))

pub fall_end : (now : ℕ) (stamps : List Stamp) (c : List Code) (i : ℕ) → length c ≤ i → all_stamped now stamps (drop i c) ≡ stamps
fall_end now stamps [] zero b = refl
fall_end now stamps [] (suc i) b = refl
fall_end now stamps (x ∷ c) zero b = absurd (omega (arith, b))
fall_end now stamps (x ∷ c) (suc i) b = fall_end now stamps c i (omega (arith, b))

-- ---- one hinted clause after another
module _ (now : ℕ) (clauses : List (List Code)) where
  refutes_go : (stamps : List Stamp) (hs : List ℕ) (i d : ℕ) → i + 1 < length hs → refutes now stamps clauses (drop i hs) ≡ or_else (advanced now stamps clauses (get_or hs i d) >>= λ s. Some (refutes now s clauses (drop (suc i) hs))) false
  refutes_go stamps [] i d b = absurd (omega (arith, b))
  refutes_go stamps (h ∷ []) i d b = absurd (omega (arith, b))
  refutes_go stamps (h ∷ j ∷ hs) zero d b = refl
  refutes_go stamps (h ∷ j ∷ hs) (suc i) d b = refutes_go stamps (j ∷ hs) i d (omega (arith, b))

pub refutes_on : (now : ℕ) (clauses : List (List Code)) (stamps s : List Stamp) (hs : List ℕ) (i d : ℕ) → i + 1 < length hs → advanced now stamps clauses (get_or hs i d) ≡ Some s → refutes now stamps clauses (drop i hs) ≡ refutes now s clauses (drop (i + 1) hs)
refutes_on now clauses stamps s hs i d b e =
    refutes_go now clauses stamps hs i d b ∙ ap (λ o. or_else (o >>= λ s. Some (refutes now s clauses (drop (suc i) hs))) false) e ∙ (λ j. refutes now s clauses (drop (sym (add-one i) j) hs))

pub refutes_stop : (now : ℕ) (clauses : List (List Code)) (stamps : List Stamp) (hs : List ℕ) (i d : ℕ) → i + 1 < length hs → advanced now stamps clauses (get_or hs i d) ≡ None → refutes now stamps clauses (drop i hs) ≡ false
refutes_stop now clauses stamps hs i d b e = refutes_go now clauses stamps hs i d b ∙ ap (λ o. or_else (o >>= λ s. Some (refutes now s clauses (drop (suc i) hs))) false) e

pub refutes_end : (now : ℕ) (clauses : List (List Code)) (stamps : List Stamp) (hs : List ℕ) (i d : ℕ) → i + 1 ≡ length hs → refutes now stamps clauses (drop i hs) ≡ ends_false now stamps clauses (get_or hs i d)
refutes_end now clauses stamps [] i d b = absurd (omega (arith, b))
refutes_end now clauses stamps (h ∷ []) zero d b = refl
refutes_end now clauses stamps (h ∷ []) (suc i) d b = absurd (omega (arith, b))
refutes_end now clauses stamps (h ∷ j ∷ hs) zero d b = absurd (omega (arith, b))
refutes_end now clauses stamps (h ∷ j ∷ hs) (suc i) d b = refutes_end now clauses stamps (j ∷ hs) i d (omega (arith, b))
