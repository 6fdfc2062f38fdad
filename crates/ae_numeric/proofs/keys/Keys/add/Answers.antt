use Rattle.std.proofs.Common.{rules, ◌≡◌, ◌∙◌, ℕ, List, Option, length, cond, sym, ap, subst, Some}
use Rattle.std.specs.BTreeMap.{get, is_at}
use Rattle.std.specs.Map.{lookup}
use Rattle.std.specs.Ordering.{is_eq}
use Rattle.ae_core.specs.Orders.{term_order}
use Rattle.ae_core.specs.declared.terms.Term.{Term}
use Rattle.ae_numeric.specs.Inner.Keyed.{IsIndex, place_in}
use Rattle.ae_numeric.proofs.KeyedLaws.{grown}
use Rattle.ae_numeric.proofs.keys.Keys.add.Goals as goal

pub invariant_of-self-in-Ok : goal.invariant_of-self-in-Ok
invariant_of-self-in-Ok c =
    let ks = c.self.inside.terms in
    let old : Term → Option ℕ = get term_order c.self.inside.places in
    let new : Term → Option ℕ = get term_order c.insert.new.self in
    let view : ks ≡ c.args.self.now = search rules in
    let u : (s : Term) → new s ≡ cond (is_eq (term_order c.args.term.now s)) (Some (length ks)) (old s) =
    λ s. c.in-Ok.ensures.updates.0 s ∙ ap (λ n. cond (is_eq (term_order c.args.term.now s)) (Some n) (old s)) c.len-place.ensures in
    subst (λ (w : List Term). IsIndex w new) (sym c.in_ok-push.ensures.ok)
    (grown ks c.args.term.now old new c.self.invariant (ap (λ (w : List Term). place_in w c.args.term.now) view ∙ c.requires.new) u)

pub invariant_of-self-in-Err : goal.invariant_of-self-in-Err
invariant_of-self-in-Err c =
    let new : Term → Option ℕ = get term_order c.insert.new.self in
    subst (λ (w : List Term). IsIndex w new) (sym (c.drop_last.ensures c.self.inside.terms c.args.term.now c.in_ok-push.ensures.ok))
    (λ s. ap (λ es. lookup (is_at (term_order s)) es) c.in-Err.ensures.err ∙ c.self.invariant s)
