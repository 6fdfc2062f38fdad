use Rattle.std.proofs.Common.{◌≡◌, ◌∙◌, ◌<◌, sym, ap, length, slice_get, arith, [], None, Some}
use Rattle.std.specs.List.{list_any}
use Rattle.std.proofs.lemmas.Result.{IfOk-weaker}
use Rattle.indexmap.specs.IndexMap.{get}
use Rattle.ae_base.specs.Options.{or_else}
use Rattle.ae_store.specs.Keys.{is_same}
use Rattle.ae_inst.specs.Index.{Held}
use Rattle.ae_inst.specs.Matches.{is_match, is_match_at, is_match_under}
use Rattle.ae_inst.proofs.IndexLaws.{under_owner, under_first}
use Rattle.ae_inst.proofs.instances.Instances.is_taken.Goals as goal

pub returns-in_ok-key-in-None : goal.returns-in_ok-key-in-None
returns-in_ok-key-in-None g c =
    let alike = g.E.Equalities.alike c.args.equalities.now in
    let s = c.args.subst.now in
    let ts = c.self.inside.taken in
    let places = get is_same c.self.inside.places in
    let none : slice_get s.terms 0 ≡ None = ap (λ l. slice_get l 0) (sym c.as_slice.ensures) ∙ sym c.at.ensures ∙ sym c.copied.ensures ∙ c.in-None.is in
    let row = c.places_under-places.ensures ∙ ap (λ q. or_else (places q) []) c.in_ok-key-in-None.ensures in
    c.is_at.ensures ∙ (λ i. list_any (is_match_at alike c.args.owner s (c.as_slice-taken.ensures i)) (row i)) ∙ under_owner alike c.args.owner s ts places c.self.inside.most c.self.invariant none
    ∙ ap (λ (h : Held). list_any (is_match alike c.args.owner s) h.taken) c.self.view_is

pub returns-in_ok-names-in-Some : goal.returns-in_ok-names-in-Some
returns-in_ok-names-in-Some g c =
    let alike = g.E.Equalities.alike c.args.equalities.now in
    let s = c.args.subst.now in
    let ts = c.self.inside.taken in
    let places = get is_same c.self.inside.places in
    let count = length c.args.store.now.nodes in
    let n = c.in-Some.first in
    let first : slice_get s.terms 0 ≡ Some n = ap (λ l. slice_get l 0) (sym c.as_slice.ensures) ∙ sym c.at.ensures ∙ sym c.copied.ensures ∙ c.in-Some.is in
    let within : c.self.inside.most < count = omega (arith, c.if-self-len.false, c.len-else-first-len.ensures.len) in
    IfOk-weaker c.is_under.result _ _
    (λ b e.
    e ∙ (λ i. list_any (is_match_under alike c.args.owner s (c.as_slice-taken.ensures i) places) (c.as_slice-in-Some.ensures i))
    ∙ under_first alike c.args.owner s ts places c.self.inside.most c.self.invariant n count c.in_ok-names-in-Some.names first within c.in_ok-names-in-Some.ensures.all (λ m x. g.met.E.Equalities.symmetric c.args.equalities.now m n x)
    ∙ ap (λ (h : Held). list_any (is_match alike c.args.owner s) h.taken) c.self.view_is)
    c.is_under.ensures
