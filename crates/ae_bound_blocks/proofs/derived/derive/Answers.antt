use Rattle.std.specs.Prelude.{true, ◌≡◌, ◌+◌, length, take, List, Bool}
use Rattle.std.proofs.Common.{arith, sym, ap, ◌∙◌, subst}
use Rattle.std.proofs.lemmas.List.{length-take-le}
use Rattle.std.proofs.lemmas.Option.{get_or_from_slice_get}
use Rattle.ae_base.proofs.ListFacts.{value_at}
use Rattle.ae_store.specs.Shapes.{shapes}
use Rattle.ae_store.specs.Terms.{terms}
use Rattle.ae_bound_blocks.specs.declared.given.Given.{Given}
use Rattle.ae_bound_blocks.specs.Said.{kept, IsGiven}
use Rattle.ae_bound_blocks.specs.Inner.Emitting.{AreReady, AreEmitted}
use Rattle.ae_bound_blocks.proofs.Marking.{parents_earlier, founded_first}
use Rattle.ae_bound_blocks.proofs.Blocks.{ready, lines_from, last_given, tags_are}
use Rattle.ae_bound_blocks.proofs.derived.derive.Goals as goal

pub slice_bounds-first-end : goal.slice_bounds-first-end
slice_bounds-first-end c =
    let l = c.requires.place in
    let n = length-take-le (c.args.place + 1) c.args.rows.now (omega (arith, l)) in
    omega (arith, l, n)

pub ancestors-requires-clause-earlier : goal.ancestors-requires-clause-earlier
ancestors-requires-clause-earlier c = parents_earlier true (take (c.args.place + 1) c.args.rows.now) (founded_first (c.args.place + 1) c.args.rows.now c.requires.founded)

pub ancestors-requires-clause-some : goal.ancestors-requires-clause-some
ancestors-requires-clause-some c =
    let l = c.requires.place in
    let n = length-take-le (c.args.place + 1) c.args.rows.now (omega (arith, l)) in
    omega (arith, n)

pub emit-requires : goal.emit-requires
emit-requires c =
    let q = c.requires in
    let at = value_at c.args.rows.now c.args.place q.place in
    record {
      ready = subst (λ (ms : List Bool). AreReady c.args.store.now.signature (terms (shapes c.args.store.now.nodes)) c.args.real (take (c.args.place + 1) c.args.rows.now) c.args.given.now ms) (sym c.deref.ensures.value)
          (ready c.args.store.now.signature (terms (shapes c.args.store.now.nodes)) c.args.real c.args.rows.now c.args.place c.args.given.now q.normal q.founded at.0 at.1 q.given q.were_rounded q.opaque c.in_ok-marks.marks.items c.in_ok-marks.ensures);
    }

pub returns-clause-said : goal.returns-clause-said
returns-clause-said c = λ row e.
    let q = c.requires in
    let d = c.in_ok-emitted.emitted.deriv in
    let same : c.index-rows-place.result ≡ row = c.index-rows-place.is ∙ get_or_from_slice_get c.args.rows.now c.args.place row c.index-rows-place.result e in
    subst (λ (g : Given). IsGiven c.args.store.now.signature (terms (shapes c.args.store.now.nodes)) c.args.real (kept row) g) (sym (c.lines_of-lines.ensures ∙ ap (lines_from d c.args.real) same))
    (last_given c.args.store.now.signature (terms (shapes c.args.store.now.nodes)) c.args.real c.args.rows.now c.args.place c.args.given.now q.normal q.founded row e q.given q.were_rounded q.opaque c.in_ok-marks.marks.items c.in_ok-marks.ensures c.in_ok-emitted.emitted
    (subst (λ (ms : List Bool). AreEmitted c.args.store.now.signature (terms (shapes c.args.store.now.nodes)) c.args.real (take (c.args.place + 1) c.args.rows.now) c.args.given.now ms (length (take (c.args.place + 1) c.args.rows.now)) c.in_ok-emitted.emitted) c.deref.ensures.value c.in_ok-emitted.ensures))

pub returns-clause-tags : goal.returns-clause-tags
returns-clause-tags c =
    let q = c.requires in
    let at = value_at c.args.rows.now c.args.place q.place in
    tags_are c.args.store.now.signature (terms (shapes c.args.store.now.nodes)) c.args.real c.args.rows.now c.args.place c.args.given.now q.normal q.founded at.0 at.1 q.given q.were_rounded q.opaque c.in_ok-marks.marks.items c.in_ok-marks.ensures c.in_ok-emitted.emitted
    (subst (λ (ms : List Bool). AreEmitted c.args.store.now.signature (terms (shapes c.args.store.now.nodes)) c.args.real (take (c.args.place + 1) c.args.rows.now) c.args.given.now ms (length (take (c.args.place + 1) c.args.rows.now)) c.in_ok-emitted.emitted) c.deref.ensures.value c.in_ok-emitted.ensures)

pub returns-clause-hyps : goal.returns-clause-hyps
returns-clause-hyps c = ap (λ (g : Given). g.deriv.hyps) c.lines_of-lines.ensures ∙ c.in_ok-emitted.ensures.hyps

pub returns-clause-sort : goal.returns-clause-sort
returns-clause-sort c = ap (λ (g : Given). g.real) c.lines_of-lines.ensures
