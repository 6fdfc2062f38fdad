use Rattle.std.proofs.Common.{◌≡◌, ◌∙◌, sym, ap, subst, length, slice_get, true, []}
use Rattle.indexmap.specs.IndexMap.{get}
use Rattle.ae_base.specs.Options.{or_else}
use Rattle.ae_store.specs.Keys.{is_same}
use Rattle.ae_known.specs.Index.{is_listed}
use Rattle.ae_inst.specs.Index.{key, IsIndex}
use Rattle.ae_inst.proofs.IndexLaws.{index_more}
use Rattle.ae_inst.proofs.instances.Instances.keep.Goals as goal

pub invariant_of-self-2 : goal.invariant_of-self-2
invariant_of-self-2 c =
    let ts = c.self.inside.taken in
    let new = get is_same c.push_under.new.places in
    let terms : c.in_ok-terms.terms ≡ c.args.subst.now.terms = c.in_ok-terms.ensures ∙ c.as_slice-2.ensures in
    let first : c.copied-first.result ≡ slice_get c.in_ok-terms.terms 0 = c.copied-first.ensures ∙ c.at.ensures ∙ ap (λ l. slice_get l 0) (c.as_slice-3.ensures ∙ sym terms) in
    let own : is_listed (length ts) (or_else (new (key c.args.owner (slice_get c.in_ok-terms.terms 0))) []) ≡ true =
    subst (λ q. is_listed (length ts) (or_else (new q) []) ≡ true) (c.in_ok-key.ensures ∙ ap (key c.args.owner) first)
    (subst (λ n. is_listed n (or_else (new c.in_ok-key.key) []) ≡ true) c.len-place.ensures c.in_ok-push_under.ensures.own) in
    subst (λ l. IsIndex l new c.greatest-most.result) (sym c.in_ok-push.ensures.ok)
    (index_more ts (get is_same c.self.inside.places) new c.self.inside.most c.self.invariant c.push_under.ensures.others (record { owner = c.args.owner; sorts = c.in_ok-sorts.sorts; terms = c.in_ok-terms.terms }) c.greatest-most.result own
    c.greatest-most.ensures.most (λ a e. c.greatest-most.ensures.first a (first ∙ e)))
