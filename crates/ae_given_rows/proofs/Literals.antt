-- The line that takes up an inequality literal between two names is allowed.
use Rattle.std.specs.Prelude.{ℕ, ◌≡◌, ◌⊎◌, Bool, true, false, List, [], ◌∷◌, Option, Some}
use Rattle.std.proofs.Common.{refl, sym, ap, ◌∙◌, subst, inl, inr}
use Rattle.std.proofs.lemmas.Option.{same_Some}
use Rattle.ae_base.proofs.Options.{never_some}
use Rattle.ae_core.specs.declared.terms.Term.{Term}
use Rattle.ae_core.specs.declared.formulas.Formula.{Formula, Formula-F, Lt, Le, out-Formula, roll-Formula, roll-out-Formula}
use Rattle.ae_core.specs.declared.formulas.Formula.TheOpen as layer
use Rattle.ae_core.specs.declared.formulas.Formula.TheVariants.{rolls-Lt, rolls-Le}
use Rattle.ae_core.specs.declared.formulas.Quant.{Quant}
use Rattle.ae_core.specs.declared.formulas.Lit.{Lit}
use Rattle.ae_core.specs.declared.problems.Signature.{Signature}
use Rattle.ae_core.specs.declared.proofs.EqLine.{EqLine}
use Rattle.ae_numeric.proofs.FitLaws.{of_sort}
use Rattle.ae_rules.specs.Lines.{Given, Allowed, AllAllowed, fact_ok, states}
use Rattle.ae_journal.specs.States.{inequality, inequality_of}
use Rattle.ae_store.specs.Terms.{named}
use Rattle.ae_store.proofs.StoreLaws.{name_term}
use Rattle.ae_state_steps.specs.ValueSteps.{sort_for, IsNumberName}
use Rattle.ae_bound_blocks.proofs.Sorting.{is_number_sort}
use Rattle.ae_given_rows.specs.Sides.{IsBetween}
use Rattle.ae_given_rows.specs.Inner.Lines.{hyp_line}
use Rattle.ae_given_rows.proofs.RowLines.{hyp_fact}

-- what the only hypothesis says of the two terms
abbrev pub Says : Lit → Term → Term → Bool → Type 0
Says l u w true = Given (l ∷ []) 0 true (Lt w u) ⊎ Given (l ∷ []) 0 false (Le u w)
Says l u w false = Given (l ∷ []) 0 true (Le w u) ⊎ Given (l ∷ []) 0 false (Lt u w)

module _ (l : Lit) where
  whole : (sign : Bool) (f : Formula) → l.positive ≡ sign → l.formula ≡ f → Given (l ∷ []) 0 sign f
  whole sign f p e = λ i. Some (record { positive = p i; formula = e i })

  less : (a b : Term) → out-Formula l.formula ≡ layer.Lt a b → l.formula ≡ Lt a b
  less a b o = sym (roll-out-Formula l.formula) ∙ ap roll-Formula o ∙ rolls-Lt a b

  most : (a b : Term) → out-Formula l.formula ≡ layer.Le a b → l.formula ≡ Le a b
  most a b o = sym (roll-out-Formula l.formula) ∙ ap roll-Formula o ∙ rolls-Le a b

  module _ (u w : Term) (strict : Bool) where
    these : (a b : Term) (s : Bool) → ◌≡◌ {A = Option (Term × Term × Bool)} (Some (a, b, s)) (Some (u, w, strict)) → Says l a b s → Says l u w strict
    these a b s h k = subst (λ (z : Term × Term × Bool). Says l z.0 z.1 z.2) (same_Some (a, b, s) (u, w, strict) h) k

    by_layer : (sign : Bool) (y : Formula-F Formula Quant) → l.positive ≡ sign → out-Formula l.formula ≡ y → inequality_of sign y ≡ Some (u, w, strict) → Says l u w strict
    by_layer true (layer.Lt a b) p o h = these b a true h (inl (whole true (Lt a b) p (less a b o)))
    by_layer false (layer.Lt a b) p o h = these a b false h (inr (whole false (Lt a b) p (less a b o)))
    by_layer true (layer.Le a b) p o h = these b a false h (inl (whole true (Le a b) p (most a b o)))
    by_layer false (layer.Le a b) p o h = these a b true h (inr (whole false (Le a b) p (most a b o)))
    by_layer true layer.True p o h = never_some (u, w, strict) h
    by_layer false layer.True p o h = never_some (u, w, strict) h
    by_layer true layer.False p o h = never_some (u, w, strict) h
    by_layer false layer.False p o h = never_some (u, w, strict) h
    by_layer true (layer.Eq a b) p o h = never_some (u, w, strict) h
    by_layer false (layer.Eq a b) p o h = never_some (u, w, strict) h
    by_layer true (layer.Pred q ss ts) p o h = never_some (u, w, strict) h
    by_layer false (layer.Pred q ss ts) p o h = never_some (u, w, strict) h
    by_layer true (layer.Not a) p o h = never_some (u, w, strict) h
    by_layer false (layer.Not a) p o h = never_some (u, w, strict) h
    by_layer true (layer.And a b) p o h = never_some (u, w, strict) h
    by_layer false (layer.And a b) p o h = never_some (u, w, strict) h
    by_layer true (layer.Or a b) p o h = never_some (u, w, strict) h
    by_layer false (layer.Or a b) p o h = never_some (u, w, strict) h
    by_layer true (layer.Xor a b) p o h = never_some (u, w, strict) h
    by_layer false (layer.Xor a b) p o h = never_some (u, w, strict) h
    by_layer true (layer.Iff a b) p o h = never_some (u, w, strict) h
    by_layer false (layer.Iff a b) p o h = never_some (u, w, strict) h
    by_layer true (layer.All q) p o h = never_some (u, w, strict) h
    by_layer false (layer.All q) p o h = never_some (u, w, strict) h
    by_layer true (layer.Ex q) p o h = never_some (u, w, strict) h
    by_layer false (layer.Ex q) p o h = never_some (u, w, strict) h

    pub literal_says : inequality l ≡ Some (u, w, strict) → Says l u w strict
    literal_says h = by_layer l.positive (out-Formula l.formula) refl refl h

-- what holds of each inequality of the two terms holds of the literal's formula
pub of_sides : (P : Formula → Type 0) (l : Lit) (u w : Term) (strict : Bool) → P (Lt w u) → P (Le u w) → P (Le w u) → P (Lt u w) → inequality l ≡ Some (u, w, strict) → P l.formula
of_sides P l u w strict a b c d e = by_strict strict (literal_says l u w strict e)
  where
    move : (sign : Bool) (f : Formula) → Given (l ∷ []) 0 sign f → P f → P l.formula
    move sign f g p = subst P (sym (ap (λ (m : Lit). m.formula) (same_Some l (record { positive = sign; formula = f }) g))) p

    by_strict : (s : Bool) → Says l u w s → P l.formula
    by_strict true (inl g) = move true (Lt w u) g a
    by_strict true (inr g) = move false (Le u w) g b
    by_strict false (inl g) = move true (Le w u) g c
    by_strict false (inr g) = move false (Lt u w) g d

module _ (sig : Signature) (ts : List Term) (real strict : Bool) (l : Lit) (upper lower : ℕ) (b : IsBetween ts l strict upper lower) where
  named_says : Says l (named ts upper) (named ts lower) strict
  named_says =
      subst (λ (z : Term × Term). Says l z.0 z.1 strict) (λ i. (sym (name_term ts upper b.above b.upper_is) i, sym (name_term ts lower b.below b.lower_is) i)) (literal_says l b.above b.below strict b.is)

  line_allowed : (s : Bool) → Says l (named ts upper) (named ts lower) s → Allowed sig (l ∷ []) [] (hyp_line ts s upper lower)
  line_allowed true h = h
  line_allowed false h = h

pub hyp_states : (ts : List Term) (strict : Bool) (upper lower : ℕ) → states (hyp_line ts strict upper lower) ≡ hyp_fact ts strict upper lower
hyp_states ts true upper lower = refl
hyp_states ts false upper lower = refl

hyp_good : (sig : Signature) (ts : List Term) (real strict : Bool) (upper lower : ℕ) → IsNumberName sig ts real upper → IsNumberName sig ts real lower → fact_ok sig (states (hyp_line ts strict upper lower)) ≡ true
hyp_good sig ts real true upper lower u w = of_sort _ _ (sort_for real) (is_number_sort real) w u
hyp_good sig ts real false upper lower u w = of_sort _ _ (sort_for real) (is_number_sort real) w u

-- the one line is allowed
pub literal_allowed : (sig : Signature) (ts : List Term) (real strict : Bool) (l : Lit) (upper lower : ℕ) → IsBetween ts l strict upper lower → IsNumberName sig ts real upper → IsNumberName sig ts real lower
    → (hyps : List Lit) (lines : List EqLine) → hyps ≡ l ∷ [] → lines ≡ hyp_line ts strict upper lower ∷ [] → AllAllowed sig (fact_ok sig) hyps [] lines
literal_allowed sig ts real strict l upper lower b u w hyps lines h e =
    subst (λ (z : List Lit × List EqLine). AllAllowed sig (fact_ok sig) z.0 [] z.1) (λ i. (sym h i, sym e i))
    ((hyp_good sig ts real strict upper lower u w, line_allowed sig ts real strict l upper lower b strict (named_says sig ts real strict l upper lower b)), tt)
