-- The terms of a row that is written out are numbers of the sort of its names.
use Rattle.std.specs.Prelude.{ℕ, ℤ, ◌≡◌, ◌<◌, Bool, true, false, List, [], ◌∷◌, length, Option, Some, None}
use Rattle.std.specs.List.{AllByRecursion}
use Rattle.std.proofs.Common.{refl, sym, ap, ◌∙◌, inl, inr}
use Rattle.std.proofs.lemmas.Bool.{cases_lt}
use Rattle.std.proofs.lemmas.Option.{slice_get_past}
use Rattle.ae_base.specs.Options.{or_else}
use Rattle.ae_core.specs.Sorts.{sort_of, is_closed_sort}
use Rattle.ae_core.specs.declared.terms.Sort.{Sort}
use Rattle.ae_core.specs.declared.terms.Term.{Term, Bound}
use Rattle.ae_core.specs.declared.problems.Signature.{Signature}
use Rattle.ae_core.proofs.SortLaws.{sort_in_bound}
use Rattle.ae_num.specs.declared.forms.Part.{Part}
use Rattle.ae_num.specs.declared.forms.Lin.{Lin}
use Rattle.ae_num.specs.Forms.{IsNormal}
use Rattle.ae_rules.specs.Lines.{fact_ok, states, HaveSort, IsNumeric}
use Rattle.ae_numeric.proofs.FitLaws.{of_sort}
use Rattle.ae_just.specs.Sides.{ArePartsWithin}
use Rattle.ae_state_steps.specs.ValueSteps.{sort_for, times_of, IsNumberName}
use Rattle.ae_state_steps.proofs.SideSorts.{form_sorted, nothing_sorted}
use Rattle.ae_core.specs.declared.proofs.Scaled.{Scaled}
use Rattle.ae_bound_blocks.specs.Said.{row_fact, row_line, AreNumbersOf}

pub is_number_sort : (real : Bool) → IsNumeric (sort_for real)
is_number_sort true = inr refl
is_number_sort false = inl refl

-- a name of a number is a name of the store
pub name_within : (sig : Signature) (ts : List Term) (real : Bool) (n : ℕ) → IsNumberName sig ts real n → n < length ts
name_within sig ts real n h = elim (cases_lt n (length ts)) [
  | inl l ↦ l
  | inr l ↦
      (let none : ◌≡◌ {A = Option Sort} None (Some (sort_for real)) =
      sym (sort_in_bound sig (is_closed_sort sig) [] 0) ∙ sym (ap (λ o. sort_of sig (or_else o (Bound 0))) (slice_get_past ts n l)) ∙ h in
      cc none)
]

pub parts_within : (sig : Signature) (ts : List Term) (real : Bool) (ps : List Part) → AllByRecursion (λ p. IsNumberName sig ts real p.key) ps → ArePartsWithin (length ts) (times_of ps)
parts_within sig ts real [] a = tt
parts_within sig ts real (p ∷ ps) a = (name_within sig ts real p.key a.0, parts_within sig ts real ps a.1)

pub row_sorted : (sig : Signature) (ts : List Term) (real strict : Bool) (l : Lin) → IsNormal l → AreNumbersOf sig ts real l → HaveSort sig (sort_for real) (row_fact ts real strict l)
row_sorted sig ts real strict l normal a = (nothing_sorted sig ts real, form_sorted sig ts real l (record { parts = a; normal = normal }))

-- ---- the line that says it
pub line_states : (ts : List Term) (real strict : Bool) (l : Lin) (d : ℤ) (ps : List Scaled) → states (row_line ts real strict l d ps) ≡ row_fact ts real strict l
line_states ts real true l d ps = refl
line_states ts real false l d ps = refl

pub row_good : (sig : Signature) (ts : List Term) (real strict : Bool) (l : Lin) → IsNormal l → AreNumbersOf sig ts real l → fact_ok sig (row_fact ts real strict l) ≡ true
row_good sig ts real true l normal a = let s = row_sorted sig ts real true l normal a in of_sort _ _ (sort_for real) (is_number_sort real) s.0 s.1
row_good sig ts real false l normal a = let s = row_sorted sig ts real false l normal a in of_sort _ _ (sort_for real) (is_number_sort real) s.0 s.1
