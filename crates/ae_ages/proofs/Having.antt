-- What is had, and what each form of formula brings.
use Rattle.std.specs.Prelude.{ℕ, ◌≤◌, List, [], ◌∷◌, ◌++◌, ◌≡◌}
use Rattle.std.proofs.Common.{sym, subst, arith, inl, inr}
use Rattle.ae_core.specs.declared.formulas.Formula.{Formula}
use Rattle.ae_core.specs.declared.terms.Term.{Term}
use Rattle.ae_journal.specs.States.{outside}
use Rattle.ae_owed.specs.Known.{IsYoung}
use Rattle.ae_store.specs.Stores.{Stored}
use Rattle.ae_ages.specs.Ages.{HasAge, AreAged, quantified}
use Rattle.ae_ages.specs.Interned.{IsInterned, IsBrought}
use Rattle.ae_ages.specs.Laws.{WhatIsHadStays, BroughtOnesAreHad, BringingIsLate}
use Rattle.ae_ages.specs.declared.entries.Aged.{Aged}
use Rattle.ae_ages.proofs.Aging.{none_aged, both_aged}
use Rattle.ae_ages.proofs.Entered.{none_interned, both_interned}

pub young_later : (s : Stored) (m n : ℕ) (t : Term) → m ≤ n → IsYoung s m t → IsYoung s n t
young_later s m n t le y = record { name = y.name; at = y.at; node = y.node; there = y.there; young = (let a = y.young in omega (arith, a, le)) }

pub age_later : (es : List Aged) (m n : ℕ) (f : Formula) → m ≤ n → HasAge es m f → HasAge es n f
age_later es m n f le a = record { entry = a.entry; among = a.among; is = a.is; young = (let y = a.young in omega (arith, y, le)) }

pub what_is_had_stays : WhatIsHadStays
what_is_had_stays g old es new fs f h m n b le had = record {
  terms = λ t c. young_later new m n t le (b.terms.kept m t (had.terms t c));
  formulas = λ k c. age_later fs m n k le (b.formulas.kept m k (had.formulas k c));
}

pub brought_ones_are_had : BroughtOnesAreHad
brought_ones_are_had g old es new fs f n b le = record {
  terms = λ t c. young_later new g n t le (b.terms.young t c);
  formulas = λ k c. age_later fs g n k le (b.formulas.aged k c);
}

pub bringing_is_late : BringingIsLate
bringing_is_late g n old es new fs f t b lt y =
    elim (b.terms.only n t y) as (λ _. IsYoung old n t) [ inl o ↦ o | inr s ↦ absurd (let le = s.0 in omega (arith, lt, le)) ]

-- ---- what formulas bring
pub brought_terms : (g : ℕ) (old : Stored) (es : List Aged) (new : Stored) (f : Formula) (ts : List Term) → outside f ≡ ts → quantified f ≡ [] → IsInterned g old new ts → IsBrought g old es new es f
brought_terms g old es new f ts o q i = record {
  terms = subst (IsInterned g old new) (sym o) i;
  formulas = subst (AreAged g es es) (sym q) (none_aged g es);
}

pub brought_formula : (g : ℕ) (s : Stored) (es fs : List Aged) (f : Formula) → outside f ≡ [] → quantified f ≡ f ∷ [] → AreAged g es fs (f ∷ []) → IsBrought g s es s fs f
brought_formula g s es fs f o q a = record {
  terms = subst (IsInterned g s s) (sym o) (none_interned g s);
  formulas = subst (AreAged g es fs) (sym q) a;
}

pub brought_part : (g : ℕ) (s : Stored) (es : List Aged) (t : Stored) (fs : List Aged) (f a : Formula) → outside f ≡ outside a → quantified f ≡ quantified a → IsBrought g s es t fs a → IsBrought g s es t fs f
brought_part g s es t fs f a o q b = record {
  terms = subst (IsInterned g s t) (sym o) b.terms;
  formulas = subst (AreAged g es fs) (sym q) b.formulas;
}

pub brought_parts : (g : ℕ) (s : Stored) (es : List Aged) (t : Stored) (fs : List Aged) (u : Stored) (gs : List Aged) (f a b : Formula) → outside f ≡ outside a ++ outside b → quantified f ≡ quantified a ++ quantified b
    → IsBrought g s es t fs a → IsBrought g t fs u gs b → IsBrought g s es u gs f
brought_parts g s es t fs u gs f a b o q x y = record {
  terms = subst (IsInterned g s u) (sym o) (both_interned g s t u (outside a) (outside b) x.terms y.terms);
  formulas = subst (AreAged g es gs) (sym q) (both_aged g es fs gs (quantified a) (quantified b) x.formulas y.formulas);
}
