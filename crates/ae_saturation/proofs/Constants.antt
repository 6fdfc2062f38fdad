-- Which names are numbers, found out name after name.
use Rattle.std.specs.Prelude.{ℕ, ◌+◌, Bool, true, List, [], ◌∷◌, ◌++◌, ◌≡◌, ◌↔◌, length, slice_get, Some, IsTrue}
use Rattle.std.proofs.Common.{refl, sym, ap, ◌∙◌, arith, inl, inr, length-append}
use Rattle.std.proofs.lemmas.Option.{none-some}
use Rattle.ae_base.proofs.Tests.{same_truths}
use Rattle.ae_core.specs.declared.terms.Term.{Term}
use Rattle.ae_rules.specs.Linear.{form, is_number}
use Rattle.ae_store.specs.Terms.{named}
use Rattle.ae_store.proofs.Gets.{get_pushed}

-- of the first names, so many, whether the linear form of the term is a number
pub record AreFirstConstants (ts : List Term) (many : ℕ) (constants : List Bool) : Type 0 where
  pub one_each : length constants ≡ many
  pub each : (n : ℕ) (b : Bool) → slice_get constants n ≡ Some b → b ≡ is_number (form (named ts n))

pub constants_none : (ts : List Term) → AreFirstConstants ts 0 []
constants_none ts = record { one_each = refl; each = λ n b at. absurd (none-some b at) }

pub constants_pushed : (ts : List Term) (many : ℕ) (constants : List Bool) (b : Bool) → (IsTrue b ↔ (is_number (form (named ts many)) ≡ true)) → AreFirstConstants ts many constants
    → AreFirstConstants ts (many + 1) (constants ++ b ∷ [])
constants_pushed ts many constants b told first =
    let same : b ≡ is_number (form (named ts many)) = same_truths b (is_number (form (named ts many))) told.0 told.1 in
    record {
      one_each = omega (arith, length-append constants (b ∷ []), first.one_each);
      each = λ n d at. elim (get_pushed constants b n d at) [
        | inl old ↦ first.each n d old
        | inr new ↦ sym new.1 ∙ same ∙ ap (λ (m : ℕ). is_number (form (named ts m))) (sym (new.0 ∙ first.one_each))
      ];
    }
