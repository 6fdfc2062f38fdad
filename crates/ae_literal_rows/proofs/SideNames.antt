-- Names of the sides of a literal.
use Rattle.std.specs.Prelude.{ℕ, ◌≡◌, Bool, List, slice_get, Some}
use Rattle.std.specs.List.{Contains}
use Rattle.std.proofs.Common.{ap, ◌∙◌}
use Rattle.std.proofs.lemmas.Option.{slice_get-get_or}
use Rattle.ae_core.specs.Sorts.{sort_of}
use Rattle.ae_core.specs.declared.problems.Signature.{Signature}
use Rattle.ae_core.specs.declared.terms.Term.{Term}
use Rattle.ae_journal.specs.declared.systems.System.{System}
use Rattle.ae_store.specs.Stores.{Stored}
use Rattle.ae_store.proofs.StoreLaws.{name_term}
use Rattle.ae_theory.specs.Names.{terms_in}
use Rattle.ae_state_steps.specs.ValueSteps.{sort_for, IsNumberName}
use Rattle.ae_state.specs.declared.holding.Holding.{Holding}
use Rattle.ae_state.specs.Names.{system_now, terms_now}

pub names_are : (o : Holding) (s : Stored) (y : System) → y ≡ system_now o → terms_now o ≡ terms_in s → y.names ≡ terms_in s
names_are o s y is all = ap (λ (z : System). z.names) is ∙ all

pub name_there : (ns ts : List Term) (u : Term) → ns ≡ ts → Contains ts u → (n : ℕ) × (slice_get ns n ≡ Some u)
name_there ns ts u e c =
    (c.0, ap (λ (us : List Term). slice_get us c.0) e ∙ slice_get-get_or ts c.0 u c.1 ∙ ap (λ (t : Term). Some t) c.2)

pub number_names : (sig : Signature) (ts : List Term) (u w : Term) (upper lower : ℕ) → slice_get ts upper ≡ Some u → slice_get ts lower ≡ Some w
    → (real : Bool) × (sort_of sig u ≡ Some (sort_for real)) × (sort_of sig w ≡ Some (sort_for real)) → (real : Bool) × IsNumberName sig ts real upper × IsNumberName sig ts real lower
number_names sig ts u w upper lower up low h =
    (h.0, ap (sort_of sig) (name_term ts upper u up) ∙ h.1, ap (sort_of sig) (name_term ts lower w low) ∙ h.2)
