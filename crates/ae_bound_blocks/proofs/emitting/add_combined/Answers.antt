use Rattle.std.specs.Prelude.{ℕ, ◌≡◌, List, Some, get_or, slice_get}
use Rattle.std.proofs.Common.{rules, sym, subst}
use Rattle.std.proofs.lemmas.List.{get_or_read}
use Rattle.std.proofs.lemmas.Option.{get_or_from_slice_get}
use Rattle.ae_store.specs.Shapes.{shapes}
use Rattle.ae_store.specs.Terms.{terms}
use Rattle.ae_bounds.specs.declared.rows.Row.{Row}
use Rattle.ae_bounds.specs.declared.rows.Unrounded.{Unrounded}
use Rattle.ae_bound_blocks.specs.Said.{kept, was}
use Rattle.ae_bound_blocks.specs.Inner.Emitting.{IsCombinationOf, IsSaid, IsSaidAfter}
use Rattle.ae_bound_blocks.proofs.Rounding.{said_on, said_here}
use Rattle.ae_bound_blocks.proofs.emitting.add_combined.Goals as goal

pub after_both-requires-clause-combined : goal.after_both-requires-clause-combined
after_both-requires-clause-combined c =
    let is : ◌≡◌ {A = Unrounded} (record { lin = c.form_of.result.now; strict = c.strict_of.result }) (was c.args.row.now) = (λ i. record { lin = c.form_of.ensures i; strict = c.strict_of.ensures i }) in
    let f = get_or_read c.args.rows.now c.args.lower c.index-rows-lower.result c.requires.lower c.index-rows-lower.is c.args.row.now in
    let s = get_or_read c.args.rows.now c.args.upper c.index-rows-upper.result c.requires.upper c.index-rows-upper.is c.args.row.now in
    subst (λ (u : Unrounded). IsCombinationOf (kept c.index-rows-lower.result) (kept c.index-rows-upper.result) u) (sym is)
    (subst (λ (x : Row). IsCombinationOf (kept x) (kept c.index-rows-upper.result) (was c.args.row.now)) (sym f)
    (subst (λ (x : Row). IsCombinationOf (kept (get_or c.args.rows.now c.args.lower c.args.row.now)) (kept x) (was c.args.row.now)) (sym s) c.requires.combined))

pub after_both-requires-clause-first : goal.after_both-requires-clause-first
after_both-requires-clause-first c =
    let sig = c.args.store.now.signature in
    let ts = terms (shapes c.args.store.now.nodes) in
    let f = get_or_read c.args.rows.now c.args.lower c.index-rows-lower.result c.requires.lower c.index-rows-lower.is c.args.row.now in
    let n = sym (get_or_from_slice_get c.args.emitted.places c.args.lower c.line_at-lower_line.result 0 (subst (λ (ps : List ℕ). slice_get ps c.args.lower ≡ Some c.line_at-lower_line.result) c.as_slice.ensures c.line_at-lower_line.ensures)) in
    subst (λ (k : ℕ). IsSaid sig ts c.args.real c.args.emitted.deriv.lines k (kept c.index-rows-lower.result)) (sym n)
    (subst (λ (x : Row). IsSaid sig ts c.args.real c.args.emitted.deriv.lines (get_or c.args.emitted.places c.args.lower 0) (kept x)) (sym f) c.requires.first)

pub after_both-requires-clause-second : goal.after_both-requires-clause-second
after_both-requires-clause-second c =
    let sig = c.args.store.now.signature in
    let ts = terms (shapes c.args.store.now.nodes) in
    let s = get_or_read c.args.rows.now c.args.upper c.index-rows-upper.result c.requires.upper c.index-rows-upper.is c.args.row.now in
    let n = sym (get_or_from_slice_get c.args.emitted.places c.args.upper c.line_at-upper_line.result 0 (subst (λ (ps : List ℕ). slice_get ps c.args.upper ≡ Some c.line_at-upper_line.result) c.as_slice-2.ensures c.line_at-upper_line.ensures)) in
    subst (λ (k : ℕ). IsSaid sig ts c.args.real c.args.emitted.deriv.lines k (kept c.index-rows-upper.result)) (sym n)
    (subst (λ (x : Row). IsSaid sig ts c.args.real c.args.emitted.deriv.lines (get_or c.args.emitted.places c.args.upper 0) (kept x)) (sym s) c.requires.second)

pub after_rounding-requires-clause-said : goal.after_rounding-requires-clause-said
after_rounding-requires-clause-said c =
    let sig = c.args.store.now.signature in
    let ts = terms (shapes c.args.store.now.nodes) in
    let is : ◌≡◌ {A = Unrounded} (record { lin = c.form_of.result.now; strict = c.strict_of.result }) (was c.args.row.now) = (λ i. record { lin = c.form_of.ensures i; strict = c.strict_of.ensures i }) in
    let plain = c.in_ok-plain.plain in
    said_here sig ts c.args.real c.args.emitted.deriv plain (was c.args.row.now) (subst (λ (u : Unrounded). IsSaidAfter sig ts c.args.real c.args.emitted.deriv plain u) is c.in_ok-plain.ensures.said)

pub last_line-last-requires : goal.last_line-last-requires
last_line-last-requires c = record { some = c.in_ok-said.ensures.said.some }

pub returns-clause-more : goal.returns-clause-more
returns-clause-more c =
    let sig = c.args.store.now.signature in
    let ts = terms (shapes c.args.store.now.nodes) in
    let is : ◌≡◌ {A = Unrounded} (record { lin = c.form_of.result.now; strict = c.strict_of.result }) (was c.args.row.now) = (λ i. record { lin = c.form_of.ensures i; strict = c.strict_of.ensures i }) in
    let plain = c.in_ok-plain.plain in
    record {
      said = said_on sig ts c.args.real c.args.emitted.deriv plain c.in_ok-said.said (was c.args.row.now) (kept c.args.row.now)
          (subst (λ (u : Unrounded). IsSaidAfter sig ts c.args.real c.args.emitted.deriv plain u) is c.in_ok-plain.ensures.said) c.in_ok-said.ensures.said;
      place = c.last_line-last.result;
      last = c.last_line-last.ensures;
      places = search rules;
    }
