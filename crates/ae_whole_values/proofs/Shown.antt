-- The values that are shown for names, and the rows that hold them.
use Rattle.std.specs.Prelude.{ℕ, ◌<◌, ◌≤◌, List, ◌≡◌, length, slice_get, Option, Some, None, IfSome, IfNone}
use Rattle.std.proofs.Common.{sym, ap, ◌∙◌, subst, arith}
use Rattle.std.proofs.lemmas.List.{length-map, length-take-le}
use Rattle.std.proofs.lemmas.Option.{same_Some, none-some, slice_get_within}
use Rattle.ae_base.specs.Options.{or_else}
use Rattle.ae_base.proofs.ListFacts.{value_at, get_map, get_front}
use Rattle.ae_core.specs.Sorts.{sort_of}
use Rattle.ae_core.specs.declared.problems.Signature.{Signature}
use Rattle.ae_core.specs.declared.terms.Sort.{Int}
use Rattle.ae_core.specs.declared.terms.Term.{Term}
use Rattle.ae_num.specs.declared.forms.Lin.{Lin}
use Rattle.ae_num.specs.declared.forms.Value as value
use Rattle.ae_linear.specs.declared.rows.Row.{Row}
use Rattle.ae_linear.specs.Rows.{row_at, value_of}
use Rattle.ae_value_table.specs.declared.patterns.Entry.{Entry}
use Rattle.ae_value_table.specs.declared.patterns.Pattern.{Number}
use Rattle.ae_value_table.specs.Table.{Contents, held, values, value_in, number_at, leaf_at, just_at, own}
use Rattle.ae_value_table.proofs.ValueLaws.{by-Number, same_numbers}
use Rattle.ae_value_fitting.specs.Fitting.{ArePatterns}
use Rattle.ae_whole_values.specs.Wholes.{IsWhole, IsIntegerName, AreAllWhole, IsFraction}
use Rattle.ae_whole_values.proofs.CommonDivisors.{once_whole}
use Rattle.ae_whole_values.proofs.Evaluated.{int_numeric}

-- ---- the number of a name
pub row_number : (c : Contents) (n : ℕ) (row : Row) → row_at c.rows n ≡ Some row → row.value ≡ number_at c n
row_number c n row e = sym (ap (λ (o : Option Row). or_else (value_of o) (own n)) e)

pub no_row_whole : (c : Contents) (n : ℕ) → row_at c.rows n ≡ None → IsWhole (number_at c n)
no_row_whole c n e = subst IsWhole (sym (ap (λ (o : Option Row). or_else (value_of o) (own n)) e)) (once_whole n)

-- ---- what is known of a name that has a value
pub held_there : (c : Contents) (n : ℕ) (e : Entry) → n < c.taken → c.taken ≤ length c.entries → slice_get c.entries n ≡ Some e → slice_get (held c) n ≡ Some e
held_there c n e l k there =
    let m : length (held c) ≡ c.taken = length-take-le c.taken c.entries k in
    let w = value_at (held c) n (omega (arith, l, m)) in
    w.1 ∙ ap (λ (x : Entry). Some x) (same_Some w.0 e (sym (get_front c.entries c.taken n w.0 w.1).0 ∙ there))

pub known_sort : (c : Contents) (n : ℕ) (e : Entry) → slice_get c.entries n ≡ Some e → IsIntegerName c n → e.sort ≡ Int
known_sort c n e there i = ap (λ (x : Entry). x.sort) (same_Some e i.entry (sym there ∙ (get_front c.entries c.taken n i.entry i.at).0)) ∙ i.sort

-- ---- the step of a row
pub by_step : (c : Contents) (n : ℕ) (o : Option ℕ) → o ≡ just_at c n → IsIntegerName c n → (row : Row) → row_at c.rows n ≡ Some row → ¬ IsWhole row.value → IfSome o (IsFraction c)
by_step c n None e i row r w = tt
by_step c n (Some k) e i row r w = record { name = n; integer = i; row = row; there = r; just = sym e; not_whole = w }

pub has_step : (P : Type 0) (c : Contents) (n : ℕ) (o : Option ℕ) → o ≡ just_at c n → ((step : ℕ) × (just_at c n ≡ Some step)) → IfNone o P
has_step P c n None e s = absurd (none-some s.0 (e ∙ s.1))
has_step P c n (Some k) e s = tt

-- ---- what is shown
pub shown_whole : (sig : Signature) (ts : List Term) (c : Contents) → ArePatterns sig ts (held c) → AreAllWhole c → (n : ℕ) (t : Term) (f : Lin) → slice_get ts n ≡ Some t → sort_of sig t ≡ Some Int
    → slice_get (values c) n ≡ Some (value.Number f) → IsWhole f
shown_whole sig ts c patterns whole n t f e o v =
    let l : n < length (values c) = slice_get_within (values c) n (value.Number f) v in
    let k : length (values c) ≡ length (held c) = length-map (held c) (λ (x : Entry). value_in c x.pattern) in
    let w = value_at (held c) n (omega (arith, l, k)) in
    let shown : value_in c (w.0).pattern ≡ value.Number f =
    same_Some (value_in c (w.0).pattern) (value.Number f) (sym (get_map (λ (x : Entry). value_in c x.pattern) (held c) n w.0 w.1) ∙ v) in
    let same : number_at c n ≡ f =
    same_numbers (number_at c n) f (sym (by-Number (number_at c) (leaf_at c) n) ∙ sym (ap (value_in c) (patterns.numbers n t Int w.0 e o w.1 int_numeric)) ∙ shown) in
    subst IsWhole same (whole n (record { entry = w.0; at = w.1; sort = patterns.sorts n t Int w.0 e o w.1 }))
