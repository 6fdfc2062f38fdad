-- Numbers of formulas.
use Rattle.std.specs.Prelude.{ℕ, zero, suc, ◌<◌, ◌⊎◌, Bool, true, false, cond, List, [], ◌∷◌, ◌++◌, ◌≡◌, length, Option, Some, None}
use Rattle.std.specs.Ordering.{is_eq}
use Rattle.std.proofs.Common.{refl, sym, ap, ◌∙◌, subst, arith, inl, inr}
use Rattle.std.proofs.lemmas.List.{length_push}
use Rattle.std.proofs.lemmas.Option.{none-some, same_Some}
use Rattle.ae_base.specs.Relations.{Pairwise}
use Rattle.ae_base.proofs.Orders.{not_equal}
use Rattle.ae_base.proofs.Relations.{pairwise_weaker}
use Rattle.ae_core.specs.Decided.{Formula_discrete}
use Rattle.ae_core.specs.Orders.{formula_order}
use Rattle.ae_core.proofs.OrderLaws.{formula_exact}
use Rattle.ae_core.specs.declared.formulas.Formula.{Formula}
use Rattle.ae_core.specs.declared.formulas.Lit.{Lit}
use Rattle.ae_core.specs.declared.problems.Problem.{Problem}
use Rattle.ae_core.specs.declared.proofs.ClauseLine.{ClauseLine}
use Rattle.ae_rules.specs.Clauses.{Clause}
use Rattle.ae_check.specs.declared.codes.Code.{Code}
use Rattle.ae_check.specs.declared.codes.Stamp.{Stamp}
use Rattle.ae_check.specs.Inner.Coding.{IsTable, AreKept, IsCode, AreCodes, unstamped, stamp_at, side, AreBefore, AreConcluded}

-- ---- one formula more
module _ (own copy : Formula) (n : ℕ) (old new : Formula → Option ℕ) (same : copy ≡ own) (update : (f : Formula) → new f ≡ cond (is_eq (formula_order copy f)) (Some n) (old f)) where
  given : new own ≡ Some n
  given = update own ∙ ap (λ (b : Bool). cond b (Some n) (old own)) (ap is_eq ((formula_exact copy own).1 same))

  other : (f : Formula) → ¬ (f ≡ own) → new f ≡ old f
  other f d = update f ∙ ap (λ (b : Bool). cond b (Some n) (old f)) (not_equal (formula_order copy f) (λ q. d (sym ((formula_exact copy f).0 q) ∙ same)))

  cases : (f : Formula) → (f ≡ own) ⊎ (¬ (f ≡ own))
  cases f = elim (Formula_discrete f own) as (λ _. (f ≡ own) ⊎ (¬ (f ≡ own))) [ yes e ↦ inl e | no d ↦ inr d ]

  own_number : (f : Formula) (m : ℕ) → f ≡ own → new f ≡ Some m → m ≡ n
  own_number f m q e = same_Some m n (sym e ∙ ap new q ∙ given)

  module _ (stamps : List Stamp) (s : Stamp) (long : n ≡ length stamps) (t : IsTable old stamps) (none : old own ≡ None) where
    pub given_table : IsTable new (stamps ++ s ∷ [])
    given_table = record {
      within = λ f m e. (let w = length_push stamps s in elim (cases f) [
        | inl q ↦ (let r = own_number f m q e in omega (arith, r, w, long))
        | inr d ↦ (let b = t.within f m (sym (other f d) ∙ e) in omega (arith, b, w))
      ]);
      apart = λ f g m e h. elim (cases f) [
        | inl q ↦ elim (cases g) [
          | inl r ↦ q ∙ sym r
          | inr d ↦ absurd (let b = t.within g m (sym (other g d) ∙ h) in let r = own_number f m q e in omega (arith, b, r, long))
        ]
        | inr d ↦ elim (cases g) [
          | inl r ↦ absurd (let b = t.within f m (sym (other f d) ∙ e) in let q = own_number g m r h in omega (arith, b, q, long))
          | inr x ↦ t.apart f g m (sym (other f d) ∙ e) (sym (other g x) ∙ h)
        ]
      ];
    }

    pub given_kept : AreKept old new
    given_kept f m e = elim (cases f) [
      | inl q ↦ absurd (none-some m (sym none ∙ ap old (sym q) ∙ e))
      | inr d ↦ other f d ∙ e
    ]

    pub given_number : new own ≡ Some n
    given_number = given

-- a stamp more, of a formula that was never false
pub stamps_pushed : (stamps : List Stamp) (n : ℕ) → stamp_at (stamps ++ unstamped ∷ []) n ≡ stamp_at stamps n
stamps_pushed [] zero = refl
stamps_pushed [] (suc n) = refl
stamps_pushed (s ∷ stamps) zero = refl
stamps_pushed (s ∷ stamps) (suc n) = stamps_pushed stamps n

-- ---- what stays when more formulas have numbers
pub code_kept : (old new : Formula → Option ℕ) → AreKept old new → (l : Lit) (k : Code) → IsCode old l k → IsCode new l k
code_kept old new a l k c = (a l.formula k.number c.0, c.1)

pub codes_kept : (old new : Formula → Option ℕ) → AreKept old new → (c : Clause) (ks : List Code) → AreCodes old c ks → AreCodes new c ks
codes_kept old new a c ks w = pairwise_weaker (IsCode old) (IsCode new) (code_kept old new a) c ks w

pub concluded_kept : (p : Problem) (g : ℕ) (old new : Formula → Option ℕ) → AreKept old new → (ls : List ClauseLine) (kss : List (List Code)) → Pairwise (AreConcluded p g old) ls kss → Pairwise (AreConcluded p g new) ls kss
concluded_kept p g old new a ls kss w = pairwise_weaker (AreConcluded p g old) (AreConcluded p g new) (λ l ks s. (s.0, s.1, codes_kept old new a s.0 ks s.2)) ls kss w

pub before_kept : (m : ℕ) (old new : List Stamp) → ((n : ℕ) → stamp_at new n ≡ stamp_at old n) → AreBefore m old → AreBefore m new
before_kept m old new e a = record { each = λ b n. subst (λ s. side b s < m) (sym (e n)) (a.each b n) }

pub before_later : (m n : ℕ) (stamps : List Stamp) → m < n → AreBefore m stamps → AreBefore n stamps
before_later m n stamps l a = record { each = λ b k. (let w = a.each b k in omega (arith, w, l)) }

pub before_none : AreBefore 1 []
before_none = record { each = none }
  where
    none : (b : Bool) (n : ℕ) → side b (stamp_at [] n) < 1
    none true n = omega arith
    none false n = omega arith

pub table_sized : (numbers : Formula → Option ℕ) (old new : List Stamp) → length new ≡ length old → IsTable numbers old → IsTable numbers new
table_sized numbers old new e t = record { within = λ f n h. (let b = t.within f n h in omega (arith, b, e)); apart = t.apart }
