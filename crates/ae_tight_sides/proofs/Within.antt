-- The names of a row are those of the store.
use Rattle.std.specs.Prelude.{ℕ, ◌<◌, Bool, List, length, Option, Some, None, IfSome}
use Rattle.std.specs.List.{AllByRecursion}
use Rattle.std.proofs.Common.{subst}
use Rattle.ae_base.proofs.AllOf.{all_weaker}
use Rattle.ae_bound_blocks.proofs.Sorting.{name_within}
use Rattle.ae_just.proofs.EmitLaws.{terms_long}
use Rattle.ae_num.specs.declared.forms.Part.{Part}
use Rattle.ae_row_sides.specs.Names.{AreNames}
use Rattle.ae_state_steps.specs.ValueSteps.{IsNumberName}
use Rattle.ae_store.specs.Stores.{Stored}
use Rattle.ae_theory.specs.Names.{terms_in}

pub names_within : (s : Stored) (real : Bool) (ps : List Part) → AllByRecursion (λ p. IsNumberName s.signature (terms_in s) real p.key) ps → AreNames (length s.nodes) ps
names_within s real ps =
    all_weaker (λ (p : Part). IsNumberName s.signature (terms_in s) real p.key) (λ (p : Part). p.key < length s.nodes)
    (λ p h. subst (λ (n : ℕ). p.key < n) (terms_long s.nodes) (name_within s.signature (terms_in s) real p.key h)) ps

pub some_weaker : {A : Type 0} (P Q : A → Type 0) → ((x : A) → P x → Q x) → (o : Option A) → IfSome o P → IfSome o Q
some_weaker P Q f None h = tt
some_weaker P Q f (Some x) h = f x h
