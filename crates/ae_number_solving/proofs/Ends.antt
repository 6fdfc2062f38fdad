-- How the equation of two numbers ends.
use Rattle.std.specs.Prelude.{ℕ, ◌∷◌, [], ◌++◌, ◌≡◌, List, length, Result, Ok, Err, IfOk, OnOk, OnErr}
use Rattle.std.proofs.Common.{sym, ◌∙◌, subst}
use Rattle.ae_journal.specs.Noted.{Noted}
use Rattle.ae_pmap.specs.Forest.{present}
use Rattle.ae_just.specs.declared.steps.Step.{Step}
use Rattle.ae_store.specs.Stores.{Stored}
use Rattle.ae_value_table.specs.Table.{Contents}
use Rattle.ae_conflicts.specs.declared.conflicts.Conflict.{Conflict}
use Rattle.ae_conflicts.specs.Conflicting.{IsConflict}
use Rattle.ae_state.specs.Complete.{IsOwnConflict}
use Rattle.ae_state.specs.Names.{all_terms}
use Rattle.ae_state.specs.declared.holding.Holding.{Holding}
use Rattle.ae_turns.specs.declared.found.Found.{Found}
use Rattle.ae_turns.specs.declared.found.Found.TheVariants as found
use Rattle.ae_turns.specs.Leading.{Leads}
use Rattle.ae_turns.specs.Representing.{IsTaken}
use Rattle.ae_turns.proofs.Steps.{staying_leads}
use Rattle.ae_number_solving.proofs.KeptConflicts.{own_conflicted, leads_conflicted}

-- ---- answers
pub found_is : {E : Type 0} (r : Result Found E) (P : Found → Type 0) (x : Found) → IfOk r P → r ≡ Ok x → P x
found_is {E} r P x h e = subst (λ (y : Result Found E). IfOk y P) e h

pub found_same : {E : Type 0} (r : Result Found E) (y x : Found) → IfOk r (λ z. z ≡ y) → r ≡ Ok x → x ≡ y
found_same r y x h e = found_is r (λ z. z ≡ y) x h e

pub ok_is : {T E A : Type 0} (r : Result T E) (x : T) → OnOk r A → r ≡ Ok x → A
ok_is {T} {E} {A} r x h e = subst (λ (y : Result T E). OnOk y A) e h

-- ---- what is left as it was
pub others_of : (o p : Holding) (c : Contents) (steps : List Step) (cs : List Conflict) → p ≡ record o { values = c; justs = steps; conflicts = cs }
    → p ≡ record o { values = p.values; justs = p.justs; conflicts = p.conflicts }
others_of o p c steps cs e = e ∙ (λ i. record o { values = (sym e i).values; justs = (sym e i).justs; conflicts = (sym e i).conflicts })

-- ---- a conflict that was kept, or refused
module _ (o p : Holding) (c : Conflict) where
  pub kept_leads : {T E : Type 0} (r : Result T E) → OnOk r (p ≡ record o { conflicts = o.conflicts ++ c ∷ [] }) → OnErr r (p ≡ o) → (s : Stored) → IsTaken o s → (j : Noted) → Leads s o j p j
  kept_leads (Ok x) kept err s t j = subst (λ (q : Holding). Leads s o j q j) (sym kept) (leads_conflicted o c s t j)
  kept_leads (Err x) kept err s t j = subst (λ (q : Holding). Leads s o j q j) (sym err) (staying_leads s o j t.fits)

  pub kept_others : {T E : Type 0} (r : Result T E) → OnOk r (p ≡ record o { conflicts = o.conflicts ++ c ∷ [] }) → OnErr r (p ≡ o) → p ≡ record o { values = p.values; justs = p.justs; conflicts = p.conflicts }
  kept_others (Ok x) kept err = others_of o p o.values o.justs (o.conflicts ++ c ∷ []) kept
  kept_others (Err x) kept err = others_of o p o.values o.justs o.conflicts err

-- its number
pub kept_own : (o p : Holding) (c : Conflict) (k : ℕ) → p ≡ record o { conflicts = o.conflicts ++ c ∷ [] } → IsConflict o.signature (all_terms o) o.justs (present o.assumed) c → found.Conflict k ≡ found.Conflict (length o.conflicts)
    → IsOwnConflict p k
kept_own o p c k e is n =
    let same : k ≡ length o.conflicts = cc n in
    subst (λ (x : Holding × ℕ). IsOwnConflict x.0 x.1) (λ i. (sym e i, sym same i)) (own_conflicted o c is)
