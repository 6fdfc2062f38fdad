-- What the use of a literal, of a clause and of rows does to flags.
use Rattle.std.specs.Prelude.{ℕ, ◌+◌, ◌<◌, ◌≡◌, ◌≢◌, Bool, true, false, List, length, not, MatchBool, Option, Some, None}
use Rattle.std.specs.List.{Contains}
use mathlib.Core.Bool.{beq}
use Rattle.std.proofs.Common.{refl, sym, ap, ◌∙◌, subst, arith, inl, inr}
use Rattle.std.proofs.lemmas.Bool.{cases_eq}
use Rattle.std.proofs.lemmas.List.{length-set}
use Rattle.std.proofs.lemmas.Option.{none-some, same_Some}
use Rattle.ae_base.proofs.Tests.{false_true, not_itself, true_false}
use Rattle.ae_core.specs.declared.formulas.Lit.{Lit}
use Rattle.ae_explain.specs.Trail.{IsFalse, at}
use Rattle.ae_explain.specs.declared.trail.Assigned.{Assigned}
use Rattle.ae_journal.proofs.Splits.{all_contained}
use Rattle.ae_journal.specs.Standing.{Setting, SurelyStands}
use Rattle.ae_journal.specs.Standing.SurelyStands.{by_row}
use Rattle.ae_journal.specs.declared.lines.Line.{Line}
use Rattle.ae_propagation.specs.Settled.{Holds}
use Rattle.ae_rules.specs.Clauses.{Clause, opposite, row}
use Rattle.ae_sure_literals.proofs.Flags.{count_up, set_elsewhere, set_keeps}
use Rattle.ae_sure_literals.proofs.Passing.{nothing_passes, passes_on, weaker}
use Rattle.ae_sure_literals.specs.Inner.Closing.{ArePlacesClosed, AreRight, AreRowsClosed, Forces, IsClosed, IsClosedAt, IsFlagged, IsLeft, IsMarked, IsOtherFailing, IsPut, IsRowClosed, OthersFail, UsesClause, UsesLiteral, UsesPlace, UsesPlaces, UsesRow, UsesRows, either, flag, how_many}

-- ---- opposites
pub opposite_apart : (l m : Lit) → l.positive ≡ m.positive → l ≢ opposite m
opposite_apart l m same e = not_itself m.positive (sym same ∙ ap (λ (x : Lit). x.positive) e)

pub signs_apart : (a b : Bool) → beq a b ≡ false → a ≡ b → ⊥
signs_apart true true h e = true_false h
signs_apart false false h e = true_false h
signs_apart true false h e = true_false e
signs_apart false true h e = false_true e

other_sign : (a b : Bool) → (a ≡ b → ⊥) → a ≡ not b
other_sign true true d = absurd (d refl)
other_sign true false d = refl
other_sign false true d = refl
other_sign false false d = absurd (d refl)

pub opposite_by : (l m : Lit) (b : Bool) → (l.positive ≡ m.positive → ⊥) → (b ≡ true → l.formula ≡ m.formula) → (l.formula ≡ m.formula → b ≡ true) → MatchBool b (l ≡ opposite m) (l ≢ opposite m)
opposite_by l m true d same back = let p = other_sign l.positive m.positive d in let f = same refl in λ i. record { positive = p i; formula = f i }
opposite_by l m false d same back = λ e. false_true (back (ap (λ (x : Lit). x.formula) e))

module _ (t : List Assigned) where
  -- ---- the flag of a literal
  -- by the flag of its formula
  pub flagged_by : (fs : List Bool) (m : Lit) (b : Bool) → ((k : ℕ) → k < length t → (at t k).lit.formula ≡ m.formula → b ≡ flag fs k) → IsFalse t m
      → MatchBool b (IsFlagged t fs (opposite m)) (¬ IsFlagged t fs (opposite m))
  flagged_by fs m true by h = record { place = h.0; within = h.1; is = h.2; flagged = sym (by h.0 h.1 (ap (λ (l : Lit). l.formula) h.2)) }
  flagged_by fs m false by h = λ y. false_true (by y.place y.within (ap (λ (l : Lit). l.formula) y.is) ∙ y.flagged)

  pub unflagged : (fs : List Bool) (m : Lit) → ¬ IsFalse t m → ¬ IsFlagged t fs (opposite m)
  unflagged fs m untrue y = untrue (y.place, y.within, y.is)

  pub other_by : (fs : List Bool) (own m : Lit) (b : Bool) → m ≢ own → MatchBool b (IsFlagged t fs (opposite m)) (¬ IsFlagged t fs (opposite m)) → MatchBool b (IsOtherFailing t fs own m) (¬ IsOtherFailing t fs own m)
  other_by fs own m true d h = λ e. h
  other_by fs own m false d h = λ f. h (f d)

  -- ---- a literal
  pub left_alone : (l : Lit) (fs : List Bool) → (Holds t l → IsFlagged t fs l) → IsLeft t l fs fs
  left_alone l fs h = record { same = refl; there = h }

  -- it stands at the place of its formula
  pub at_place : (l : Lit) (place : ℕ) → ((k : ℕ) → k < length t → (at t k).lit.formula ≡ l.formula → Some place ≡ Some k) → (h : Holds t l) → place ≡ h.0
  at_place l place only h = same_Some place h.0 (only h.0 h.1 (ap (λ (m : Lit). m.formula) h.2))

  pub has_no_place : (l : Lit) → ((k : ℕ) → k < length t → (at t k).lit.formula ≡ l.formula → ◌≡◌ {A = Option ℕ} None (Some k)) → Holds t l → ⊥
  has_no_place l only h = none-some h.0 (only h.0 h.1 (ap (λ (m : Lit). m.formula) h.2))

  module _ (c : Clause) (l : Lit) (among : Contains c l) (old new : List Bool) (long : length old ≡ length t) where
    others_surely : (x : Setting) (js : List Line) → AreRight x js t old → OthersFail t old c l → (m : Lit) → Contains c m → m ≢ l → SurelyStands x js (opposite m)
    others_surely x js r others m h d =
        let y = all_contained (IsOtherFailing t old l) c m others h d in
        subst (SurelyStands x js) y.is (r y.place y.within y.flagged)

    put_right : OthersFail t old c l → (h : IsPut t l old new) → (x : Setting) (js : List Line) → Forces x js c → AreRight x js t old → AreRight x js t new
    put_right others h x js forces r k w f = elim (cases_eq k h.place) as (λ _. SurelyStands x js (at t k).lit) [
      | inl q ↦
          subst (SurelyStands x js) (sym (ap (λ (j : ℕ). (at t j).lit) q ∙ h.is)) (forces l among (others_surely x js r others))
      | inr d ↦ r k w (sym (set_elsewhere old h.place k d) ∙ ap (λ (fs : List Bool). flag fs k) (sym h.set) ∙ f)
    ]

    put_used : OthersFail t old c l → IsPut t l old new → UsesLiteral t c l old new true
    put_used others h =
        let within : h.place < length old = omega (arith, h.within, long) in
        record {
          long = ap length h.set ∙ length-set old h.place true;
          still = λ e. true_false e;
          more = λ e. omega (arith, ap how_many h.set, count_up old h.place within h.unset);
          kept = λ k f. ap (λ (fs : List Bool). flag fs k) h.set ∙ set_keeps old h.place within k f;
          right = put_right others h;
          done = λ e. true_false e;
        }

    left_used : OthersFail t old c l → IsLeft t l old new → UsesLiteral t c l old new false
    left_used others h =
        subst (λ (fs : List Bool). UsesLiteral t c l old fs false) (sym h.same) (nothing_passes t (λ x js. Forces x js c) (λ fs. IsClosedAt t fs c l) old (λ o holds. h.there holds))

    pub marked_used : OthersFail t old c l → (b : Bool) → IsMarked t l old new b → UsesLiteral t c l old new b
    marked_used others true h = put_used others h
    marked_used others false h = left_used others h

  -- ---- rows
  module _ (k : ℕ) (r : ℕ) (c : Clause) (is : row r (at t k).lit.formula ≡ Some c) where
    one_row : (d : Clause) → row r (at t k).lit.formula ≡ Some d → c ≡ d
    one_row d e = same_Some c d (sym is ∙ e)

    pub row_apart : (fs : List Bool) → (Contains c (opposite (at t k).lit) → ⊥) → UsesRow t k r fs fs false
    row_apart fs apart =
        nothing_passes t (λ x js. SurelyStands x js (at t k).lit) (λ gs. IsRowClosed t gs (at t k).lit r) fs
        (λ d e h. absurd (apart (subst (λ (f : Clause). Contains f (opposite (at t k).lit)) (sym (one_row d e)) h)))

    pub row_used : (old new : List Bool) (b : Bool) → Contains c (opposite (at t k).lit) → UsesClause t c old new b → UsesRow t k r old new b
    row_used old new b has h =
        weaker t (λ x js. Forces x js c) (λ x js. SurelyStands x js (at t k).lit) (λ fs. IsClosed t fs c) (λ fs. IsRowClosed t fs (at t k).lit r) old new b
        (λ x js sure right l m others. by_row (at t k).lit l r c sure is has m others) (λ fs closed d e o. subst (IsClosed t fs) (one_row d e) closed) h

  pub no_row : (k r : ℕ) (fs : List Bool) → row r (at t k).lit.formula ≡ None → UsesRow t k r fs fs false
  no_row k r fs is =
      nothing_passes t (λ x js. SurelyStands x js (at t k).lit) (λ gs. IsRowClosed t gs (at t k).lit r) fs (λ d e h. absurd (none-some d (sym is ∙ e)))

  -- ---- places
  pub place_apart : (k : ℕ) (fs : List Bool) → flag fs k ≡ false → UsesPlace t k fs fs false
  place_apart k fs unset = nothing_passes t (λ x js. Unit {0}) (λ gs. flag gs k ≡ true → AreRowsClosed t gs (at t k).lit) fs (λ f. true_false (sym f ∙ unset))

  pub place_used : (k : ℕ) (old new : List Bool) (b : Bool) → k < length t → flag old k ≡ true → UsesRows t k old new b → UsesPlace t k old new b
  place_used k old new b w f h =
      weaker t (λ x js. SurelyStands x js (at t k).lit) (λ x js. Unit {0}) (λ fs. AreRowsClosed t fs (at t k).lit) (λ fs. flag fs k ≡ true → AreRowsClosed t fs (at t k).lit) old new b (λ x js u right. right k w f)
      (λ fs closed g. closed) h

  pub places_none : (fs : List Bool) → UsesPlaces t 0 fs fs false
  places_none fs = nothing_passes t (λ x js. Unit {0}) (λ gs. ArePlacesClosed t gs 0) fs (λ k w f. absurd (omega (arith, w)))

  pub places_next : (k : ℕ) (a b c : List Bool) (p q : Bool) → UsesPlaces t k a b p → UsesPlace t k b c q → UsesPlaces t (k + 1) a c (either p q)
  places_next k a b c p q first second =
      weaker t (λ x js. Unit {0}) (λ x js. Unit {0}) (λ fs. ArePlacesClosed t fs k × (flag fs k ≡ true → AreRowsClosed t fs (at t k).lit)) (λ fs. ArePlacesClosed t fs (k + 1)) a c (either p q) (λ x js u r. u)
      (λ fs d. one_more fs d.0 d.1)
      (passes_on t (λ x js. Unit {0}) (λ x js. Unit {0}) (λ fs. ArePlacesClosed t fs k) (λ fs. flag fs k ≡ true → AreRowsClosed t fs (at t k).lit) a b c p q (λ x js u r. u) first second)
    where
      one_more : (fs : List Bool) → ArePlacesClosed t fs k → (flag fs k ≡ true → AreRowsClosed t fs (at t k).lit) → ArePlacesClosed t fs (k + 1)
      one_more fs d e j w f = elim (cases_eq j k) as (λ _. AreRowsClosed t fs (at t j).lit) [
        | inl i ↦ subst (λ (m : ℕ). AreRowsClosed t fs (at t m).lit) (sym i) (e (subst (λ (m : ℕ). flag fs m ≡ true) i f))
        | inr n ↦ d j (omega (arith, w, n)) f
      ]
