use Rattle.std.specs.Prelude.{ℕ, ◌<◌, ◌≡◌, List, length, slice_get, Some}
use Rattle.std.proofs.Common.{sym, ap, ◌∙◌, subst, get_or}
use Rattle.std.proofs.lemmas.Option.{same_Some, slice_get_within, slice_get-get_or}
use Rattle.ae_num.specs.declared.forms.Lin.{Lin}
use Rattle.ae_num.specs.declared.forms.Value.{Value}
use Rattle.ae_num.specs.declared.forms.Value as value
use Rattle.ae_literal_rows.proofs.naming.number_of.Goals as goal

-- what was read there
read_is : (vs ws : List Value) (n : ℕ) (f : Lin) (v : Value) → ws ≡ vs → slice_get vs n ≡ Some (value.Number f) → v ≡ get_or ws n v → v ≡ value.Number f
read_is vs ws n f v e there is =
    let now : slice_get ws n ≡ Some (value.Number f) = ap (λ (us : List Value). slice_get us n) e ∙ there in
    is ∙ same_Some (get_or ws n v) (value.Number f) (sym (slice_get-get_or ws n v (slice_get_within ws n (value.Number f) now)) ∙ now)

pub bounds-values-name : goal.bounds-values-name
bounds-values-name c =
    let w = c.requires.number in
    subst (λ (vs : List Value). c.args.name < length vs) (sym c.as_slice-values.ensures) (slice_get_within c.args.system.now.values c.args.name (value.Number w.0) w.1)

pub unreachable-requires : goal.unreachable-requires
unreachable-requires c =
    let w = c.requires.number in
    let r = read_is c.args.system.now.values c.as_slice-values.result.now c.args.name w.0 c.index-values-name.result c.as_slice-values.ensures w.1 c.index-values-name.is in
    let z = sym c.in-Leaf.is ∙ r in
    cc z

pub unreachable-requires-in-Fields : goal.unreachable-requires-in-Fields
unreachable-requires-in-Fields c =
    let w = c.requires.number in
    let r = read_is c.args.system.now.values c.as_slice-values.result.now c.args.name w.0 c.index-values-name.result c.as_slice-values.ensures w.1 c.index-values-name.is in
    let z = sym c.in-Fields.is ∙ r in
    cc z

pub returns : goal.returns
returns c =
    let w = c.requires.number in
    let r = read_is c.args.system.now.values c.as_slice-values.result.now c.args.name w.0 c.index-values-name.result c.as_slice-values.ensures w.1 c.index-values-name.is in
    w.1 ∙ ap (λ (v : Value). Some v) (sym r ∙ c.in-Number.is)
