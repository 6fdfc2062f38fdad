use Rattle.std.specs.Prelude.{◌≡◌, ◌∷◌, ◌++◌, []}
use Rattle.std.proofs.Common.{subst}
use Rattle.ae_base.proofs.Results.{if_ok_both}
use Rattle.ae_core.specs.declared.proofs.Deriv.{Deriv}
use Rattle.ae_store.specs.Shapes.{shapes}
use Rattle.ae_store.specs.Terms.{terms}
use Rattle.ae_bounds.specs.declared.rows.Unrounded.{Unrounded}
use Rattle.ae_bound_blocks.specs.Said.{kept, round_line, AreNumbersOf}
use Rattle.ae_bound_blocks.specs.Inner.Emitting.{IsSaid, IsSaidAfter}
use Rattle.ae_bound_blocks.proofs.Sorting.{parts_within}
use Rattle.ae_bound_blocks.proofs.Rounding.{numbers_kept, rounded_after, was_kept, was_some}
use Rattle.ae_bound_blocks.proofs.emitting.after_rounding.Goals as goal

pub after_last-requires : goal.after_last-requires
after_last-requires c =
    let sig = c.args.store.now.signature in
    let ts = terms (shapes c.args.store.now.nodes) in
    let row = c.args.row.now in
    let u = c.is_rounded.ensures.some c.if-is_rounded.true in
    let h = c.requires.roundable u.0 u.1 in
    let said = c.requires.said.last c.last_line-last.result c.last_line-last.ensures in
    record {
      within = parts_within sig ts c.args.real row.lin.parts
          (numbers_kept sig ts c.args.real row u.0 h.0 h.1 h.2 (subst (λ (v : Unrounded). AreNumbersOf sig ts c.args.real v.lin) (was_some row u.0 u.1) said.numbers));
    }

pub returns-then-is_rounded-clause-said : goal.returns-then-is_rounded-clause-said
returns-then-is_rounded-clause-said c =
    let sig = c.args.store.now.signature in
    let ts = terms (shapes c.args.store.now.nodes) in
    let row = c.args.row.now in
    let old = c.args.deriv in
    let last = c.last_line-last.result in
    let u = c.is_rounded.ensures.some c.if-is_rounded.true in
    let h = c.requires.roundable u.0 u.1 in
    let said = subst (λ (v : Unrounded). IsSaid sig ts c.args.real old.lines last v) (was_some row u.0 u.1) (c.requires.said.last last c.last_line-last.ensures) in
    if_ok_both c.after_last.result (λ (d : Deriv). d.hyps ≡ old.hyps) (λ (d : Deriv). d.lines ≡ old.lines ++ round_line ts c.args.real row.lin last ∷ []) (λ (d : Deriv). IsSaidAfter sig ts c.args.real old d (kept row))
    (λ d a b. rounded_after sig ts c.args.real row u.0 h.0 h.1 h.2 said.numbers old d last c.requires.said.allowed said a b) c.after_last.ensures.hyps c.after_last.ensures.lines

pub returns-clause-said : goal.returns-clause-said
returns-clause-said c =
    let sig = c.args.store.now.signature in
    let ts = terms (shapes c.args.store.now.nodes) in
    subst (λ (v : Unrounded). IsSaidAfter sig ts c.args.real c.args.deriv c.args.deriv v) (was_kept c.args.row.now (c.is_rounded.ensures.none c.if-is_rounded.false)) c.requires.said
