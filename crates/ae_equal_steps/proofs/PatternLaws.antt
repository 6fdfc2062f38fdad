-- What patterns are of, how large they are, and that patterns of different kinds differ.
use Rattle.std.specs.Prelude.{ℕ, ◌≡◌, ◌<◌, ◌≤◌, ◌+◌, ◌*◌, List, [], length, get_or}
use Rattle.std.proofs.Common.{sym, ap, ◌∙◌, subst, arith}
use denote.Param.Weighed.{most, at_most}
use Rattle.ae_value_table.specs.declared.patterns.Pattern.{Pattern, Pattern-F, Number, Leaf, Fields, out-Pattern, size-Pattern, size_is-Pattern}
use Rattle.ae_value_table.specs.declared.patterns.Pattern.TheOpen as layer
use Rattle.ae_value_table.specs.declared.patterns.Pattern.TheVariants.{outs-Leaf, outs-Number, outs-Fields}
use Rattle.ae_equal_steps.specs.Inner.Parts.{name_in, name_of, parts_in, parts_of}

-- ---- the name and the parts of each kind
pub name-Number : (n : ℕ) → name_of (Number n) ≡ n
unfolding name_of
name-Number n = ap name_in (outs-Number n)

pub name-Leaf : (n : ℕ) → name_of (Leaf n) ≡ n
unfolding name_of
name-Leaf n = ap name_in (outs-Leaf n)

pub name-Fields : (n : ℕ) (ps : List Pattern) → name_of (Fields n ps) ≡ n
unfolding name_of
name-Fields n ps = ap name_in (outs-Fields n ps)

pub parts-Number : (n : ℕ) → parts_of (Number n) ≡ []
unfolding parts_of
parts-Number n = ap parts_in (outs-Number n)

pub parts-Leaf : (n : ℕ) → parts_of (Leaf n) ≡ []
unfolding parts_of
parts-Leaf n = ap parts_in (outs-Leaf n)

pub parts-Fields : (n : ℕ) (ps : List Pattern) → parts_of (Fields n ps) ≡ ps
unfolding parts_of
parts-Fields n ps = ap parts_in (outs-Fields n ps)

pub ruleset part_rules = (name-Number, name-Leaf, name-Fields, parts-Number, parts-Leaf, parts-Fields)

-- ---- different kinds
pub number_leaf : (m n : ℕ) → Number m ≡ Leaf n → ⊥
number_leaf m n e = let z : ◌≡◌ {A = Pattern-F Pattern} (layer.Number m) (layer.Leaf n) = sym (outs-Number m) ∙ ap out-Pattern e ∙ outs-Leaf n in cc z

pub number_fields : (m n : ℕ) (ps : List Pattern) → Number m ≡ Fields n ps → ⊥
number_fields m n ps e = let z : ◌≡◌ {A = Pattern-F Pattern} (layer.Number m) (layer.Fields n ps) = sym (outs-Number m) ∙ ap out-Pattern e ∙ outs-Fields n ps in cc z

pub leaf_fields : (m n : ℕ) (ps : List Pattern) → Leaf m ≡ Fields n ps → ⊥
leaf_fields m n ps e = let z : ◌≡◌ {A = Pattern-F Pattern} (layer.Leaf m) (layer.Fields n ps) = sym (outs-Leaf m) ∙ ap out-Pattern e ∙ outs-Fields n ps in cc z

-- ---- sizes
-- the patterns of the fields are smaller, and no part is larger than the largest
fields_smaller : (n : ℕ) (ps : List Pattern) → most size-Pattern ps < size-Pattern (Fields n ps)
fields_smaller n ps = grind (arith, size_is-Pattern (Fields n ps), outs-Fields n ps)

pub fields_fall : (p : Pattern) (n : ℕ) (ps qs : List Pattern) → p ≡ Fields n ps → qs ≡ ps → 2 * most size-Pattern qs + 1 < 2 * size-Pattern p + 0
fields_fall p n ps qs is view =
    let less : most size-Pattern qs < size-Pattern p = subst (λ (x : Pattern). most size-Pattern qs < size-Pattern x) (sym is) (subst (λ (xs : List Pattern). most size-Pattern xs < size-Pattern (Fields n ps)) (sym view) (fields_smaller n ps)) in
    omega (arith, less)

pub part_falls : (ps : List Pattern) (i : ℕ) (p : Pattern) → i < length ps → p ≡ get_or ps i p → 2 * size-Pattern p + 0 < 2 * most size-Pattern ps + 1
part_falls ps i p l e =
    let less : size-Pattern p ≤ most size-Pattern ps = subst (λ (x : Pattern). size-Pattern x ≤ most size-Pattern ps) (sym e) (at_most size-Pattern ps i p l) in
    omega (arith, less)
