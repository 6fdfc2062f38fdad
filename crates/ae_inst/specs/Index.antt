-- Where the matches that were taken stand: by their owners and first names.
use Rattle.std.specs.Prelude.{ℕ, ◌≡◌, ◌≤◌, true, List, [], slice_get, Option, Some, option_to_list}
use Rattle.std.specs.Coded.{Coded, code_by, coded_list}
use Rattle.std.proofs.Common.{refl}
use Rattle.ae_base.specs.Options.{or_else}
use Rattle.ae_core.specs.declared.terms.Sort.{Unit as UnitSort}
use Rattle.ae_store.specs.declared.nodes.NodeHead.TheVariants as node
use Rattle.ae_store.specs.declared.nodes.Shape.{Shape}
use Rattle.ae_known.specs.Index.{is_listed}
use Rattle.ae_inst.specs.declared.instances.Taken.{Taken}
use Rattle.ae_inst.specs.contracts.instances.Taken as taken_contract

-- the matches that were taken, in their order
pub record Held : Type 0 where
  pub taken : List Taken

abbrev pub held_code : Coded Held
held_code = code_by (List Taken) (coded_list taken_contract.the_row.coded) (λ h. h.taken) (λ ts. record { taken = ts }) (λ _. refl)

-- ---- what need not be believed
-- what a match stands under: its owner, and its first name if there is one
abbrev pub key : ℕ → Option ℕ → Shape
key owner first = record { head = node.Fresh owner; sorts = []; args = option_to_list first; sort = UnitSort }

-- each match stands under its key, and no first name is above the most
abbrev pub IsIndex : List Taken → (Shape → Option (List ℕ)) → ℕ → Type 0
IsIndex ts places most =
    ((i : ℕ) (t : Taken) → slice_get ts i ≡ Some t → is_listed i (or_else (places (key t.owner (slice_get t.terms 0))) []) ≡ true)
    × ((i : ℕ) (t : Taken) (a : ℕ) → slice_get ts i ≡ Some t → slice_get t.terms 0 ≡ Some a → a ≤ most)
