use Rattle.std.specs.Prelude.{◌≡◌, Option, Some, IfNone, List, slice_get}
use Rattle.std.specs.List.{Contains}
use Rattle.std.proofs.Common.{sym, subst}
use Rattle.ae_num.specs.Forms.{IsNormal}
use Rattle.ae_journal.proofs.Splits.{all_contained, contains_at}
use Rattle.ae_bounds.specs.declared.rows.Row.{Row}
use Rattle.ae_bounds.specs.declared.combining.Opposed.{Opposed}
use Rattle.ae_bounds.specs.Inner.Pairs.{HaveLast}
use Rattle.ae_bound_rest.specs.Rest.IsGrown.{as_it_was}
use Rattle.ae_bound_rest.specs.declared.combining.Both.{Both}
use Rattle.ae_bound_rest.specs.Inner.Pairs.{IsPlain, IsBoth, AreCounted}
use Rattle.ae_bound_rest.proofs.Counting.{plain_grown}
use Rattle.ae_bound_rest.proofs.Pairing.{none_opposed, pair_both, first_normal, second_normal, first_standing, second_standing, places_done}
use Rattle.ae_bounds.specs.declared.directions.Direction.{Direction}
use Rattle.ae_bound_rest.proofs.rest.combine_places.Goals as goal

normal_of : (rows : List Row) (ds : List Direction) → AreCounted rows ds → (r : Row) → Contains rows r → IsNormal r.lin
normal_of rows ds a r c = all_contained (λ (t : Row). IsNormal t.lin) rows r a.indexed.normal c

pub both_at-requires-clause-each : goal.both_at-requires-clause-each
both_at-requires-clause-each c =
    subst (λ (rs : List Row). (r : Row) → Contains rs r → IsNormal r.lin × IsPlain r) (sym c.as_slice.ensures)
    (λ r h. (normal_of c.args.sure.now c.args.directions.now.keys c.requires.counted r h, c.requires.counted.plain r h))

pub returns-in_err-low-clause-grown : goal.returns-in_err-low-clause-grown
returns-in_err-low-clause-grown c = as_it_was

pub combine_both-requires-clause-lower : goal.combine_both-requires-clause-lower
combine_both-requires-clause-lower c =
    first_normal c.args.sure.now c.args.lower c.args.upper c.in-Some.low c.in-Some.high c.requires.lower c.requires.upper (normal_of c.args.sure.now c.args.directions.now.keys c.requires.counted)
    (subst (λ (rs : List Row). (s t : Row) → slice_get rs c.args.lower ≡ Some s → slice_get rs c.args.upper ≡ Some t → IsBoth s c.in-Some.low × IsBoth t c.in-Some.high) c.as_slice.ensures
    (pair_both c.as_slice.result.now c.args.lower c.args.upper c.in_ok-low.field-0 c.in-Some.low c.in-Some.high c.in_ok-low.ensures.some c.in-Some.is))

pub combine_both-requires-clause-upper : goal.combine_both-requires-clause-upper
combine_both-requires-clause-upper c =
    second_normal c.args.sure.now c.args.lower c.args.upper c.in-Some.low c.in-Some.high c.requires.lower c.requires.upper (normal_of c.args.sure.now c.args.directions.now.keys c.requires.counted)
    (subst (λ (rs : List Row). (s t : Row) → slice_get rs c.args.lower ≡ Some s → slice_get rs c.args.upper ≡ Some t → IsBoth s c.in-Some.low × IsBoth t c.in-Some.high) c.as_slice.ensures
    (pair_both c.as_slice.result.now c.args.lower c.args.upper c.in_ok-low.field-0 c.in-Some.low c.in-Some.high c.in_ok-low.ensures.some c.in-Some.is))

pub returns-in-Some-clause-done : goal.returns-in-Some-clause-done
returns-in-Some-clause-done c =
    places_done c.args.sure.now c.args.lower c.args.upper c.in-Some.low c.in-Some.high c.requires.lower c.requires.upper (normal_of c.args.sure.now c.args.directions.now.keys c.requires.counted)
    (subst (λ (rs : List Row). (s t : Row) → slice_get rs c.args.lower ≡ Some s → slice_get rs c.args.upper ≡ Some t → IsBoth s c.in-Some.low × IsBoth t c.in-Some.high) c.as_slice.ensures
    (pair_both c.as_slice.result.now c.args.lower c.args.upper c.in_ok-low.field-0 c.in-Some.low c.in-Some.high c.in_ok-low.ensures.some c.in-Some.is))
    c.combine_both.new.sure c.combine_both.result c.combine_both.ensures.done

pub returns-in-Some-clause-grown : goal.returns-in-Some-clause-grown
returns-in-Some-clause-grown c =
    let both = subst (λ (rs : List Row). (s t : Row) → slice_get rs c.args.lower ≡ Some s → slice_get rs c.args.upper ≡ Some t → IsBoth s c.in-Some.low × IsBoth t c.in-Some.high) c.as_slice.ensures
    (pair_both c.as_slice.result.now c.args.lower c.args.upper c.in_ok-low.field-0 c.in-Some.low c.in-Some.high c.in_ok-low.ensures.some c.in-Some.is) in
    let normal = normal_of c.args.sure.now c.args.directions.now.keys c.requires.counted in
    c.combine_both.ensures.grown (first_standing c.args.sure.now c.args.lower c.args.upper c.in-Some.low c.in-Some.high c.requires.lower c.requires.upper normal both)
    (second_standing c.args.sure.now c.args.lower c.args.upper c.in-Some.low c.in-Some.high c.requires.lower c.requires.upper normal both)

pub returns-in-Some-clause-counted : goal.returns-in-Some-clause-counted
returns-in-Some-clause-counted c = record {
  indexed = c.combine_both.ensures.indexed;
  plain = plain_grown c.args.sure.now c.args.journal.now.lines c.requires.counted.plain c.combine_both.new.sure c.combine_both.new.journal.lines (returns-in-Some-clause-grown c);
}

pub returns-in-Some-clause-number : goal.returns-in-Some-clause-number
returns-in-Some-clause-number c = λ w e.
    let both = subst (λ (rs : List Row). (s t : Row) → slice_get rs c.args.lower ≡ Some s → slice_get rs c.args.upper ≡ Some t → IsBoth s c.in-Some.low × IsBoth t c.in-Some.high) c.as_slice.ensures
    (pair_both c.as_slice.result.now c.args.lower c.args.upper c.in_ok-low.field-0 c.in-Some.low c.in-Some.high c.in_ok-low.ensures.some c.in-Some.is) in
    let normal = normal_of c.args.sure.now c.args.directions.now.keys c.requires.counted in
    c.combine_both.ensures.number w e (first_standing c.args.sure.now c.args.lower c.args.upper c.in-Some.low c.in-Some.high c.requires.lower c.requires.upper normal both)
    (second_standing c.args.sure.now c.args.lower c.args.upper c.in-Some.low c.in-Some.high c.requires.lower c.requires.upper normal both)

pub returns-in-None-clause-done : goal.returns-in-None-clause-done
returns-in-None-clause-done c = λ s t p q a b d e n low up.
    let none = subst (λ (rs : List Row). (s t : Row) (o : Opposed) → slice_get rs c.args.lower ≡ Some s → slice_get rs c.args.upper ≡ Some t → HaveLast s.lin t.lin o → ⊥) c.as_slice.ensures
    (subst
    (λ (v : Option (Both × Both)). IfNone v ((s t : Row) (o : Opposed) → slice_get c.as_slice.result.now c.args.lower ≡ Some s → slice_get c.as_slice.result.now c.args.upper ≡ Some t → HaveLast s.lin t.lin o → ⊥))
    c.in-None.is c.in_ok-low.ensures.none) in
    let normal = normal_of c.args.sure.now c.args.directions.now.keys c.requires.counted in
    absurd (none_opposed s t p q (normal s (contains_at c.args.sure.now c.args.lower s a)) (normal t (contains_at c.args.sure.now c.args.upper t b)) (λ o h. none s t o a b h) d e n low up)

pub returns-in-None-clause-grown : goal.returns-in-None-clause-grown
returns-in-None-clause-grown c = as_it_was
