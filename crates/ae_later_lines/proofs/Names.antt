-- Terms whose names are there bring no names.
use Rattle.std.specs.Prelude.{ℕ, List, [], ◌∷◌, ◌++◌, ◌≡◌, length, slice_get, Some}
use Rattle.std.specs.List.{Contains}
use Rattle.std.proofs.Common.{ap, ◌∙◌, arith, inl, inr, append-nil}
use Rattle.std.proofs.lemmas.Option.{slice_get-get_or}
use Rattle.ae_base.proofs.ListFacts.{get_seam, value_at}
use Rattle.ae_core.specs.declared.terms.Term.{Term, Apply}
use Rattle.ae_goal_names.proofs.Joining.{as_many}
use Rattle.ae_goal_names.specs.Named.{HasNamed, StandsIn, itself, argument, field}
use Rattle.ae_journal.proofs.Splits.{contains_at}
use Rattle.ae_owed.proofs.Young.{argument_young, field_young}
use Rattle.ae_owed.specs.Known.{IsYoung}
use Rattle.ae_searching.proofs.Settings.{keeps_splits}
use Rattle.ae_store.specs.Stores.{Stored, IsStore}
use Rattle.ae_theory.specs.Names.{terms_in}

-- a term among the names is known at some number
young_at : (s : Stored) (t : Term) → Contains (terms_in s) t → (n : ℕ) × IsYoung s n t
young_at s t h =
    let many = as_many s in
    let x = value_at s.nodes h.0 (omega (arith, h.1, many)) in
    (x.0.generation, record { name = h.0; at = slice_get-get_or (terms_in s) h.0 t h.1 ∙ ap (λ (z : Term). Some z) h.2; node = x.0; there = x.1; young = omega arith })

named_so : (s : Stored) (n : ℕ) (t : Term) → IsYoung s n t → Contains (terms_in s) t
named_so s n t y = contains_at (terms_in s) y.name t y.at

-- arguments and fields of names are names
pub standing_named : (s : Stored) → IsStore s.signature s.nodes → (ts : List Term) → ((t : Term) → Contains ts t → Contains (terms_in s) t) → (t : Term) → StandsIn s.signature ts t → Contains (terms_in s) t
standing_named s store ts there t (itself c) = there t c
standing_named s store ts there t (argument h ss us a i) =
    let y = young_at s (Apply h ss us) (standing_named s store ts there (Apply h ss us) a) in
    named_so s y.0 t (argument_young s store y.0 h ss us t y.1 i)
standing_named s store ts there t (field o ss u a e r i) =
    let y = young_at s u (standing_named s store ts there u a) in
    named_so s y.0 t (field_young s store y.0 o ss u t y.1 e r i)

-- a store that keeps each name and has no other term has no more names
none_left : (old more new : List Term) → new ≡ old ++ more → ((t : Term) → Contains new t → Contains old t) → ((i j : ℕ) (t : Term) → slice_get new i ≡ Some t → slice_get new j ≡ Some t → i ≡ j)
    → ((i : ℕ) (t : Term) → slice_get old i ≡ Some t → slice_get new i ≡ Some t) → new ≡ old
none_left old [] new e only one keeps = e ∙ append-nil old
none_left old (t ∷ more) new e only one keeps =
    let last : slice_get new (length old) ≡ Some t = ap (λ (z : List Term). slice_get z (length old)) e ∙ get_seam old more t in
    let c = only t (contains_at new (length old) t last) in
    let first : slice_get new c.0 ≡ Some t = keeps c.0 t (slice_get-get_or old c.0 t c.1 ∙ ap (λ (z : Term). Some z) c.2) in
    let same : c.0 ≡ length old = one c.0 (length old) t first last in
    absurd (omega (arith, same, c.1))

pub no_new_names : (old new : Stored) (ts : List Term) → IsStore old.signature old.nodes → IsStore new.signature new.nodes → HasNamed old new ts → ((t : Term) → Contains ts t → Contains (terms_in old) t)
    → terms_in new ≡ terms_in old
no_new_names old new ts store store2 named there =
    let s = keeps_splits (terms_in old) (terms_in new) named.keeps in
    none_left (terms_in old) s.0 (terms_in new) s.1
    (λ t h. elim (named.only t h) as (λ _. Contains (terms_in old) t) [ inl a ↦ a | inr b ↦ standing_named old store ts there t b ])
    store2.sound.one_name named.keeps
