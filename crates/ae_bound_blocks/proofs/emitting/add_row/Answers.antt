use Rattle.std.specs.Prelude.{ℕ, ◌≡◌, ◌++◌, ◌∷◌, [], List}
use Rattle.std.specs.List.{flat_map}
use Rattle.std.proofs.Common.{arith, sym, ap, ◌∙◌, append-nil}
use Rattle.ae_base.proofs.Results.{if_ok_both}
use Rattle.ae_store.specs.Shapes.{shapes}
use Rattle.ae_store.specs.Terms.{terms}
use Rattle.ae_bound_blocks.specs.declared.emitting.Emitted.{Emitted}
use Rattle.ae_bound_blocks.specs.Ancestors.{tag_of, hyps_of}
use Rattle.ae_bound_blocks.specs.Inner.Emitting.{IsMore, AreEmitted}
use Rattle.ae_bound_blocks.proofs.OneMore.{was_normal, emitted_more, here, normal_here, roundable_here, made, lower_said, upper_said}
use Rattle.ae_bound_blocks.proofs.emitting.add_row.Goals as goal

pub add_assumed-requires-clause-normal : goal.add_assumed-requires-clause-normal
add_assumed-requires-clause-normal c =
    let sig = c.args.store.now.signature in
    let ts = terms (shapes c.args.store.now.nodes) in
    let q = c.requires in
    was_normal ts c.args.real c.index-rows-place.result
    (roundable_here sig ts c.args.real c.args.rows.now c.args.given.now c.args.marks.now q.ready c.args.place c.index-rows-place.result q.place c.index-rows-place.is q.marked)
    (normal_here sig ts c.args.real c.args.rows.now c.args.given.now c.args.marks.now q.ready c.args.place c.index-rows-place.result q.place c.index-rows-place.is)

pub add_assumed-requires-clause-roundable : goal.add_assumed-requires-clause-roundable
add_assumed-requires-clause-roundable c =
    let q = c.requires in
    roundable_here c.args.store.now.signature (terms (shapes c.args.store.now.nodes)) c.args.real c.args.rows.now c.args.given.now c.args.marks.now q.ready c.args.place c.index-rows-place.result q.place c.index-rows-place.is q.marked

pub add_assumed-requires-clause-given : goal.add_assumed-requires-clause-given
add_assumed-requires-clause-given c =
    let q = c.requires in
    q.ready.each_given c.args.place c.in-Assumed.tag c.index-rows-place.result q.marked
    (here c.args.store.now.signature (terms (shapes c.args.store.now.nodes)) c.args.real c.args.rows.now c.args.given.now c.args.marks.now q.ready c.args.place c.index-rows-place.result q.place c.index-rows-place.is) c.in-Assumed.is

pub add_assumed-requires-clause-allowed : goal.add_assumed-requires-clause-allowed
add_assumed-requires-clause-allowed c = c.requires.emitted.allowed

pub returns-in-Assumed : goal.returns-in-Assumed
returns-in-Assumed c =
    let sig = c.args.store.now.signature in
    let ts = terms (shapes c.args.store.now.nodes) in
    let q = c.requires in
    let r = c.index-rows-place.result in
    let old = c.args.emitted in
    let tag = c.in-Assumed.tag in
    let from : tag ∷ [] ≡ tag_of r.from = sym (ap tag_of c.in-Assumed.is) in
    let one : hyps_of c.args.given.now tag ≡ flat_map (hyps_of c.args.given.now) (tag_of r.from) = sym (append-nil (hyps_of c.args.given.now tag)) ∙ ap (flat_map (hyps_of c.args.given.now)) from in
    if_ok_both c.add_assumed.result (λ (e : Emitted). IsMore sig ts c.args.real old e r)
    (λ (e : Emitted). (e.tags ≡ old.tags ++ tag ∷ []) × (e.deriv.hyps ≡ old.deriv.hyps ++ hyps_of c.args.given.now tag)) (λ (e : Emitted). AreEmitted sig ts c.args.real c.args.rows.now c.args.given.now c.args.marks.now _ e)
    (λ e m th.
    emitted_more sig ts c.args.real c.args.rows.now c.args.given.now c.args.marks.now c.args.place old e r q.emitted q.marked
    (here sig ts c.args.real c.args.rows.now c.args.given.now c.args.marks.now q.ready c.args.place r q.place c.index-rows-place.is) m (th.0 ∙ ap (λ ts. old.tags ++ ts) from) (th.1 ∙ ap (λ hs. old.deriv.hyps ++ hs) one))
    c.add_assumed.ensures.more
    (if_ok_both c.add_assumed.result (λ (e : Emitted). e.tags ≡ old.tags ++ tag ∷ []) (λ (e : Emitted). e.deriv.hyps ≡ old.deriv.hyps ++ hyps_of c.args.given.now tag)
    (λ (e : Emitted). (e.tags ≡ old.tags ++ tag ∷ []) × (e.deriv.hyps ≡ old.deriv.hyps ++ hyps_of c.args.given.now tag)) (λ e a b. (a, b)) c.add_assumed.ensures.tags c.add_assumed.ensures.hyps)

pub add_combined-requires-clause-lower : goal.add_combined-requires-clause-lower
add_combined-requires-clause-lower c =
    let q = c.requires in
    let m = made c.args.store.now.signature (terms (shapes c.args.store.now.nodes)) c.args.real c.args.rows.now c.args.given.now c.args.marks.now q.ready c.args.place c.index-rows-place.result q.place c.index-rows-place.is
    c.in-Combined.lower c.in-Combined.upper c.in-Combined.is in
    let a = m.lower_before in
    let b = q.place in
    omega (arith, a, b)

pub add_combined-requires-clause-upper : goal.add_combined-requires-clause-upper
add_combined-requires-clause-upper c =
    let q = c.requires in
    let m = made c.args.store.now.signature (terms (shapes c.args.store.now.nodes)) c.args.real c.args.rows.now c.args.given.now c.args.marks.now q.ready c.args.place c.index-rows-place.result q.place c.index-rows-place.is
    c.in-Combined.lower c.in-Combined.upper c.in-Combined.is in
    let a = m.upper_before in
    let b = q.place in
    omega (arith, a, b)

pub add_combined-requires-clause-lower_place : goal.add_combined-requires-clause-lower_place
add_combined-requires-clause-lower_place c =
    let q = c.requires in
    let m = made c.args.store.now.signature (terms (shapes c.args.store.now.nodes)) c.args.real c.args.rows.now c.args.given.now c.args.marks.now q.ready c.args.place c.index-rows-place.result q.place c.index-rows-place.is
    c.in-Combined.lower c.in-Combined.upper c.in-Combined.is in
    let a = m.lower_before in
    let b = q.emitted.places in
    omega (arith, a, b)

pub add_combined-requires-clause-upper_place : goal.add_combined-requires-clause-upper_place
add_combined-requires-clause-upper_place c =
    let q = c.requires in
    let m = made c.args.store.now.signature (terms (shapes c.args.store.now.nodes)) c.args.real c.args.rows.now c.args.given.now c.args.marks.now q.ready c.args.place c.index-rows-place.result q.place c.index-rows-place.is
    c.in-Combined.lower c.in-Combined.upper c.in-Combined.is in
    let a = m.upper_before in
    let b = q.emitted.places in
    omega (arith, a, b)

pub add_combined-requires-clause-roundable : goal.add_combined-requires-clause-roundable
add_combined-requires-clause-roundable c =
    let q = c.requires in
    roundable_here c.args.store.now.signature (terms (shapes c.args.store.now.nodes)) c.args.real c.args.rows.now c.args.given.now c.args.marks.now q.ready c.args.place c.index-rows-place.result q.place c.index-rows-place.is q.marked

pub add_combined-requires-clause-combined : goal.add_combined-requires-clause-combined
add_combined-requires-clause-combined c =
    let q = c.requires in
    (made c.args.store.now.signature (terms (shapes c.args.store.now.nodes)) c.args.real c.args.rows.now c.args.given.now c.args.marks.now q.ready c.args.place c.index-rows-place.result q.place c.index-rows-place.is
    c.in-Combined.lower c.in-Combined.upper c.in-Combined.is).combined

pub add_combined-requires-clause-first : goal.add_combined-requires-clause-first
add_combined-requires-clause-first c =
    let q = c.requires in
    lower_said c.args.store.now.signature (terms (shapes c.args.store.now.nodes)) c.args.real c.args.rows.now c.args.given.now c.args.marks.now q.ready c.args.place c.index-rows-place.result q.place c.index-rows-place.is
    c.in-Combined.lower c.in-Combined.upper c.args.emitted q.marked c.in-Combined.is q.emitted

pub add_combined-requires-clause-second : goal.add_combined-requires-clause-second
add_combined-requires-clause-second c =
    let q = c.requires in
    upper_said c.args.store.now.signature (terms (shapes c.args.store.now.nodes)) c.args.real c.args.rows.now c.args.given.now c.args.marks.now q.ready c.args.place c.index-rows-place.result q.place c.index-rows-place.is
    c.in-Combined.lower c.in-Combined.upper c.args.emitted q.marked c.in-Combined.is q.emitted

pub add_combined-requires-clause-allowed : goal.add_combined-requires-clause-allowed
add_combined-requires-clause-allowed c = c.requires.emitted.allowed

pub returns-in-Combined : goal.returns-in-Combined
returns-in-Combined c =
    let sig = c.args.store.now.signature in
    let ts = terms (shapes c.args.store.now.nodes) in
    let q = c.requires in
    let r = c.index-rows-place.result in
    let old = c.args.emitted in
    let none : [] ≡ tag_of r.from = sym (ap tag_of c.in-Combined.is) in
    if_ok_both c.add_combined.result (λ (e : Emitted). IsMore sig ts c.args.real old e r) (λ (e : Emitted). (e.tags ≡ old.tags) × (e.deriv.hyps ≡ old.deriv.hyps))
    (λ (e : Emitted). AreEmitted sig ts c.args.real c.args.rows.now c.args.given.now c.args.marks.now _ e)
    (λ e m th.
    emitted_more sig ts c.args.real c.args.rows.now c.args.given.now c.args.marks.now c.args.place old e r q.emitted q.marked
    (here sig ts c.args.real c.args.rows.now c.args.given.now c.args.marks.now q.ready c.args.place r q.place c.index-rows-place.is) m (th.0 ∙ sym (append-nil old.tags) ∙ ap (λ ts. old.tags ++ ts) none)
    (th.1 ∙ sym (append-nil old.deriv.hyps) ∙ ap (λ (ks : List ℕ). old.deriv.hyps ++ flat_map (hyps_of c.args.given.now) ks) none)) c.add_combined.ensures.more
    (if_ok_both c.add_combined.result (λ (e : Emitted). e.tags ≡ old.tags) (λ (e : Emitted). e.deriv.hyps ≡ old.deriv.hyps) (λ (e : Emitted). (e.tags ≡ old.tags) × (e.deriv.hyps ≡ old.deriv.hyps)) (λ e a b. (a, b))
    c.add_combined.ensures.tags c.add_combined.ensures.hyps)
