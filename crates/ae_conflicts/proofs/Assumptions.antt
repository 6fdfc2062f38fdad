-- Assumed literals by their places, and as a list with their tags.
use Rattle.std.specs.Prelude.{ℕ, Bool, true, false, List, [], ◌∷◌, ◌==◌, ◌≡◌, if◌then◌else◌, Option, Some}
use Rattle.std.specs.List.{Contains}
use Rattle.std.proofs.Common.{sym, ap, ◌∙◌, subst}
use Rattle.std.proofs.lemmas.Option.{none-some, same_Some}
use Rattle.ae_core.specs.declared.formulas.Lit.{Lit}
use Rattle.ae_journal.proofs.Splits.{contains_here, contains_later}
use Rattle.ae_pmap.specs.Pairs.{found}
use Rattle.ae_theory.specs.Tagged.{Tagged}
use Rattle.ae_conflicts.specs.declared.assumed.Assumed.{Assumed}
use Rattle.ae_conflicts.specs.Saying.{tagged, IsAssumedAt}

abbrev pub with_tag : Assumed → Tagged
with_tag e = record { lit = e.lit; tag = e.tag }

contains_by : (b : Bool) (x : Assumed) (held : List Tagged) (e : Assumed) (o : Option Assumed) → (o ≡ Some e → Contains held (with_tag e)) → (if b then Some x else o) ≡ Some e → Contains (with_tag x ∷ held) (with_tag e)
contains_by true x held e o later f = subst (λ (y : Assumed). Contains (with_tag x ∷ held) (with_tag y)) (same_Some x e f) (contains_here (with_tag x) held)
contains_by false x held e o later f = contains_later (with_tag x) held (with_tag e) (later f)

found_contains : (held : List (ℕ × Assumed)) (place : ℕ) (e : Assumed) → found held place ≡ Some e → Contains (tagged held) (with_tag e)
found_contains [] place e f = absurd (none-some e f)
found_contains (p ∷ held) place e f = contains_by (p.0 == place) p.1 (tagged held) e (found held place) (found_contains held place e) f

-- what was assumed at a place is in the list
pub assumed_contains : (held : List (ℕ × Assumed)) (place : ℕ) (lit : Lit) (tag : ℕ) → IsAssumedAt held place lit tag → Contains (tagged held) (record { lit = lit; tag = tag })
assumed_contains held place lit tag a =
    subst (λ l. Contains (tagged held) (record { lit = l; tag = tag })) a.lit_is
    (subst (λ n. Contains (tagged held) (record { lit = (a.entry).lit; tag = n })) a.tag_is (found_contains held place a.entry a.at))

-- which is one literal, with one tag
pub assumed_is : (held : List (ℕ × Assumed)) (place : ℕ) (x : Assumed) → found held place ≡ Some x → (lit : Lit) (tag : ℕ) → IsAssumedAt held place lit tag → (x.lit ≡ lit) × (x.tag ≡ tag)
assumed_is held place x f lit tag a =
    let same : x ≡ a.entry = same_Some x a.entry (sym f ∙ a.at) in
    (ap (λ (y : Assumed). y.lit) same ∙ a.lit_is, ap (λ (y : Assumed). y.tag) same ∙ a.tag_is)
