-- One thing brought after another.
use Rattle.std.specs.Prelude.{ℕ, ◌+◌, ◌<◌, ◌≤◌, take, get_or, List, [], ◌∷◌, ◌++◌, ◌≡◌, ◌⊎◌, length}
use Rattle.std.proofs.Common.{sym, ap, ◌∙◌, subst, arith, inl, inr, append-nil}
use Rattle.std.proofs.lemmas.Grind.{flat_map-append}
use Rattle.std.proofs.lemmas.List.{take_more}
use Rattle.std.proofs.lemmas.List.Elements.{Contains-append_left, Contains-append_right, Contains-append_cases}
use Rattle.ae_ages.proofs.Having.{young_later, age_later, what_is_had_stays, brought_ones_are_had, bringing_is_late}
use Rattle.ae_ages.proofs.Justifying.{bringing_justifies}
use Rattle.ae_ages.specs.Ages.{HasAge}
use Rattle.ae_ages.specs.Interned.{IsBrought, IsHad}
use Rattle.ae_ages.specs.declared.entries.Aged.{Aged}
use Rattle.ae_block_constants.specs.declared.opened.Opened.{Opened}
use Rattle.ae_brought_clauses.specs.Inner.Bringing.{Brings, IsServed}
use Rattle.ae_core.specs.declared.formulas.Formula.{Formula}
use Rattle.ae_core.specs.declared.formulas.Lit.{Lit}
use Rattle.ae_goal_names.proofs.Joining.{none_named, both_named}
use Rattle.ae_goal_names.specs.Named.{HasNamed, clause_terms}
use Rattle.ae_journal.proofs.Splits.{contains_here, contains_one}
use Rattle.ae_journal.specs.States.{outside}
use Rattle.ae_store.specs.Stores.{Stored}

pub had_later : (s : Stored) (es : List Aged) (m n : ℕ) (h : Formula) → m ≤ n → IsHad s es m h → IsHad s es n h
had_later s es m n h le a = record { terms = λ t c. young_later s m n t le (a.terms t c); formulas = λ k c. age_later es m n k le (a.formulas k c) }

module _ (opened : List Opened) (g : ℕ) where
  pub none_brought : (s : Stored) (es : List Aged) → Brings opened g s es s es []
  none_brought s es = record {
    named = none_named s;
    had = λ l h. absurd (let i = h.1 in omega (arith, i));
    stay = λ m h a. a;
    known = λ m t y. y;
    kept = λ m h a. a;
    only = λ m h a. inl a;
    late = λ k t lt y. y;
    justified = λ x bound js same are has terms ages. (terms, ages);
  }

  pub one_brought : (a : Stored) (es : List Aged) (b : Stored) (fs : List Aged) (l : Lit) → IsBrought g a es b fs l.formula → Brings opened g a es b fs (l ∷ [])
  one_brought a es b fs l i = record {
    named = subst (HasNamed a b) (sym (append-nil (outside l.formula))) i.terms.named;
    had = λ m h. subst (λ (w : Lit). IsHad b fs g w.formula) (contains_one l m h) (brought_ones_are_had g a es b fs l.formula g i (omega arith));
    stay = λ m h k. what_is_had_stays g a es b fs l.formula h m m i (omega arith) k;
    known = λ m t y. i.terms.kept m t y;
    kept = λ m h k. i.formulas.kept m h k;
    only = λ m h k. elim (i.formulas.only m h k) as (λ _. HasAge es m h ⊎ ((g ≤ m) × HasAge fs g h)) [ inl o ↦ inl o | inr q ↦ inr (q.0, i.formulas.aged h q.1) ];
    late = λ k t lt y. bringing_is_late g k a es b fs l.formula t i lt y;
    justified = λ x bound js same are has terms ages. bringing_justifies x bound g js a es b fs l.formula same i (λ lt. has l (contains_here l []) lt) terms ages;
  }

  pub both_brought : (a : Stored) (es : List Aged) (b : Stored) (fs : List Aged) (c : Stored) (gs : List Aged) (ls ms : List Lit) → Brings opened g a es b fs ls → Brings opened g b fs c gs ms → Brings opened g a es c gs (ls ++ ms)
  both_brought a es b fs c gs ls ms x y = record {
    named = subst (HasNamed a c) (sym (flat_map-append (λ (l : Lit). outside l.formula) ls ms)) (both_named a b c (clause_terms ls) (clause_terms ms) x.named y.named);
    had = λ l h. elim (Contains-append_cases ls ms l h) as (λ _. IsHad c gs g l.formula) [ inl i ↦ y.stay g l.formula (x.had l i) | inr i ↦ y.had l i ];
    stay = λ m h i. y.stay m h (x.stay m h i);
    known = λ m t i. y.known m t (x.known m t i);
    kept = λ m h i. y.kept m h (x.kept m h i);
    only = λ m h i. elim (y.only m h i) as (λ _. HasAge es m h ⊎ ((g ≤ m) × HasAge gs g h)) [
      | inl o ↦ elim (x.only m h o) as (λ _. HasAge es m h ⊎ ((g ≤ m) × HasAge gs g h)) [ inl p ↦ inl p | inr q ↦ inr (q.0, y.kept g h q.1) ]
      | inr q ↦ inr q
    ];
    late = λ k t lt i. x.late k t lt (y.late k t lt i);
    justified = λ z bound js same are has terms ages.
        let m = x.justified z bound js same are (λ l i lt. has l (Contains-append_left ls ms l i) lt) terms ages in
        y.justified z bound js (x.named.signature ∙ same) are (λ l i lt. has l (Contains-append_right ls ms l i) lt) m.0 m.1;
  }

  -- one of some literals more
  pub one_more : (a : Stored) (es : List Aged) (b : Stored) (fs : List Aged) (c : Stored) (gs : List Aged) (ls : List Lit) (i : ℕ) (l : Lit) → i < length ls → l ≡ get_or ls i l → Brings opened g a es b fs (take i ls)
      → IsBrought g b fs c gs l.formula → Brings opened g a es c gs (take (i + 1) ls)
  one_more a es b fs c gs ls i l lt e x y =
      subst (Brings opened g a es c gs) (sym (take_more ls i l lt ∙ ap (λ (w : Lit). take i ls ++ w ∷ []) (sym e)))
      (both_brought a es b fs c gs (take i ls) (l ∷ []) x (one_brought b fs c gs l y))

-- what is said by a block and had stays so
pub served_later : (opened : List Opened) (g : ℕ) (a : Stored) (es : List Aged) (b : Stored) (fs : List Aged) (ls : List Lit) (k : ℕ) → Brings opened g a es b fs ls → IsServed opened g a es k → IsServed opened g b fs k
served_later opened g a es b fs ls k x h o l at c = x.stay g l.formula (h o l at c)
