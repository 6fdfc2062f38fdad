-- What is shown, one after another: the first terms, the values and the rules.
use Rattle.std.specs.Prelude.{ℕ, zero, suc, ◌+◌, ◌≤◌, List, [], ◌∷◌, ◌++◌, ◌≡◌, length, take, slice_get, Option, Some, None}
use Rattle.std.specs.List.{AllByRecursion}
use Rattle.std.proofs.Common.{refl, sym, ap, ◌∙◌, subst, arith, length-take}
use Rattle.std.proofs.lemmas.List.{take_more, take_all, length-map}
use Rattle.std.proofs.lemmas.Option.{none-some, same_Some, slice_get_within, get_or_from_slice_get}
use Rattle.ae_base.proofs.AllOf.{all_append}
use Rattle.ae_journal.specs.declared.systems.RuleEntry.{RuleEntry}
use Rattle.ae_monoid.specs.Rules.{Contents as Rules, rule_at, AreRules}
use Rattle.ae_monoid.specs.declared.rules.Kept.{Kept}
use Rattle.ae_settled.specs.Held.{entries, entry_in}
use Rattle.ae_sweeps.specs.Given.{entry_of, entries_of}
use Rattle.ae_store.specs.Shapes.{shapes, shape_of}
use Rattle.ae_store.specs.Stores.{Stored}
use Rattle.ae_store.proofs.TermLaws.{length_terms}
use Rattle.ae_theory.specs.Names.{terms_in}
use Rattle.ae_value_table.specs.declared.patterns.Entry.{Entry}
use Rattle.ae_value_table.specs.Table.{Contents, value_in, held, values}
use Rattle.ae_state.specs.declared.holding.Holding.{Holding}
use Rattle.ae_state.specs.Names.{IsWrittenRising, all_terms, terms_now}
use Rattle.ae_state.specs.Fitting.{FitsStore}
use Rattle.ae_state.proofs.Growing.{take_kept, keeps_long}

-- one more of those in a list
pub first_pushed : {A : Type 0} (all old new : List A) (i : ℕ) (x : A) → old ≡ take i all → new ≡ old ++ x ∷ [] → slice_get all i ≡ Some x → new ≡ take (i + 1) all
first_pushed all old new i x e p at =
    let here : take (i + 1) all ≡ take i all ++ x ∷ [] = take_more all i x (slice_get_within all i x at) ∙ ap (λ y. take i all ++ y ∷ []) (get_or_from_slice_get all i x x at) in
    p ∙ ap (λ ys. ys ++ x ∷ []) e ∙ sym here

-- one more rule
pub entries_pushed : (rules : ℕ → Option RuleEntry) (old new : List RuleEntry) (n : ℕ) → old ≡ entries rules n → new ≡ old ++ entry_in (rules n) → new ≡ entries rules (n + 1)
entries_pushed rules old new n e p =
    let on : n + 1 ≡ suc n = omega arith in
    p ∙ ap (λ es. es ++ entry_in (rules n)) e ∙ ap (entries rules) (sym on)

-- what holds of each rule holds of each that is shown
pub entries_all : (P : RuleEntry → Type 0) (rules : ℕ → Option RuleEntry) → ((n : ℕ) (e : RuleEntry) → rules n ≡ Some e → P e) → (n : ℕ) → AllByRecursion P (entries rules n)
entries_all P rules h zero = tt
entries_all P rules h (suc n) = all_append P (entries rules n) (entry_in (rules n)) (entries_all P rules h n) (one (rules n) refl)
  where
    one : (o : Option RuleEntry) → rules n ≡ o → AllByRecursion P (entry_in o)
    one None q = tt
    one (Some e) q = (h n e q, tt)

-- each rule is one that is kept, whose sides rise
pub rules_rise : (r : Rules) → AreRules (λ n. rule_at r n) r.next → AllByRecursion IsWrittenRising (entries (entries_of r) r.next)
rules_rise r well = entries_all IsWrittenRising (entries_of r) (λ n e at. of_kept n e (rule_at r n) refl at) r.next
  where
    of_kept : (n : ℕ) (e : RuleEntry) (o : Option Kept) → rule_at r n ≡ o → entry_of o ≡ Some e → IsWrittenRising e
    of_kept n e None at q = absurd (none-some e q)
    of_kept n e (Some k) at q = let w = well.well n k at in subst IsWrittenRising (same_Some k.entry e q) (w.left_rises, w.right_rises)

-- as many values as names have one
pub all_shown : (c : Contents) (n : ℕ) → n ≡ c.taken → take n (values c) ≡ values c
all_shown c n e = take_all n (values c) (omega (arith, e, length-map (held c) (λ (x : Entry). value_in c x.pattern), length-take c.taken c.entries))

module _ (o : Holding) (s : Stored) (fits : FitsStore o s) where
  -- the names that have values are names of the store, of the same terms
  pub within_store : o.values.taken ≤ length (terms_in s)
  within_store = omega (arith, (fits.right).within, ((fits.right).entries).within, keeps_long (all_terms o) (terms_in s) (fits.terms).keeps)

  pub names_within : o.values.taken ≤ length s.nodes
  names_within = omega (arith, within_store, length_terms (shapes s.nodes), length-map s.nodes shape_of)

  pub terms_shown : take o.values.taken (terms_in s) ≡ terms_now o
  terms_shown = take_kept o.values.taken (all_terms o) (terms_in s) (fits.terms).keeps (omega (arith, (fits.right).within, ((fits.right).entries).within))
