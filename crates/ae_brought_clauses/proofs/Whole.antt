-- All that a clause brings.
use Rattle.std.specs.Prelude.{ℕ, ◌≤◌, List, [], ◌≡◌, ◌⊎◌, slice_get, Some}
use Rattle.std.specs.List.{Contains}
use Rattle.std.proofs.Common.{sym, ◌∙◌, subst, arith, inl, inr, append-nil}
use Rattle.ae_ages.specs.Ages.{HasAge}
use Rattle.ae_ages.specs.Interned.{IsHad}
use Rattle.ae_ages.specs.declared.entries.Aged.{Aged}
use Rattle.ae_block_constants.specs.declared.opened.Opened.{Opened}
use Rattle.ae_brought_clauses.specs.Brought.{HaveBodies, AreBrought}
use Rattle.ae_brought_clauses.specs.Inner.Bringing.{AreAgedBut, Brings, IsServed}
use Rattle.ae_brought_clauses.proofs.Again.{pair_of, said_of}
use Rattle.ae_brought_clauses.proofs.Joined.{both_brought, had_later}
use Rattle.ae_core.specs.declared.formulas.Formula.{Formula, out-Formula}
use Rattle.ae_core.specs.declared.formulas.Lit.{Lit}
use Rattle.ae_rules.specs.Instances.{fresh_clause}
use Rattle.ae_store.specs.Stores.{Stored}

module _ (opened : List Opened) (g : ℕ) (a : Stored) (es : List Aged) (b : Stored) (ms : List Aged) (c : Stored) (fs : List Aged) (ls : List Lit) (places : List ℕ) (first : Brings opened g a es b ms ls)
    (rest : Brings opened g b ms c fs []) (but : AreAgedBut opened g es places)
    (served : (k : ℕ) (o : Opened) → Contains places k → slice_get opened k ≡ Some o → HasAge fs g o.formula → IsServed opened g c fs k) where
  both : Brings opened g a es c fs ls
  both = subst (Brings opened g a es c fs) (append-nil ls) (both_brought opened g a es b ms c fs ls [] first rest)

  later : (f : Formula) (l : Lit) (k n : ℕ) → k ≤ n → (l.formula ≡ f) ⊎ IsHad a es k l.formula → (l.formula ≡ f) ⊎ IsHad c fs n l.formula
  later f l k n le h = elim h as (λ _. (l.formula ≡ f) ⊎ IsHad c fs n l.formula) [ inl e ↦ inl e | inr i ↦ inr (had_later c fs k n l.formula le (both.stay k l.formula i)) ]

  bodies : HaveBodies opened a es → HaveBodies opened c fs
  bodies old f m n d l among age e has = elim (both.only n f age) as (λ _. (l.formula ≡ f) ⊎ IsHad c fs n l.formula) [
    | inl was ↦ later f l n n (omega arith) (old f m n d l among was e has)
    | inr q ↦
        let w = pair_of opened f m among in
        let o = w.1 in
        let said : fresh_clause o.formula o.first (out-Formula o.formula) ≡ Some d = (λ i. fresh_clause (w.3 i) (w.4 i) (out-Formula (w.3 i))) ∙ e in
        elim (but w.0 o w.2) as (λ _. (l.formula ≡ f) ⊎ IsHad c fs n l.formula) [
          | inl aged ↦ later f l g n q.0 (old f m g d l among (subst (HasAge es g) w.3 aged) e has)
          | inr waits ↦
              inr (had_later c fs g n l.formula q.0
              (served w.0 o waits w.2 (subst (HasAge fs g) (sym w.3) q.1) o l w.2 (subst (λ (v : List Lit). Contains v l) (sym (said_of o d said)) has)))
        ]
  ]

  pub all_brought : AreBrought opened g a es c fs ls
  all_brought = record {
    named = both.named;
    had = both.had;
    stay = both.stay;
    known = both.known;
    kept = both.kept;
    bodies = bodies;
    justified = both.justified;
    late = both.late;
    late_ages = λ k h lt i. elim (both.only k h i) as (λ _. HasAge es k h) [ inl o ↦ o | inr q ↦ absurd (let w = q.0 in omega (arith, lt, w)) ];
  }
