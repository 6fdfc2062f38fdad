use Rattle.std.specs.Prelude.{◌≡◌, ℕ, ◌<◌, ◌≤◌, ◌⊎◌, List, [], ◌∷◌, ◌++◌, length}
use Rattle.std.proofs.Common.{◌∙◌, sym, ap, subst}
use Rattle.std.proofs.lemmas.List.{length_push}
use Rattle.ae_monoid.specs.declared.chains.Link.{Link}
use Rattle.ae_monoid.specs.Inner.Chains.{AreLinked, AreHeads, IsOn, IsOnOf, Grows}
use Rattle.ae_monoid.proofs.ChainLaws.{grows_push, linked_push, heads_set, named_set, stays_set, only_set}
use Rattle.ae_monoid.proofs.chains.add_link.Goals as goal

pushed_linked : (links more view : List Link) (number next : ℕ) → AreLinked links → view ≡ links → more ≡ links ++ record { number = number; next = next } ∷ [] → next ≤ length view
    → ((other : ℕ) → IsOn view next other → other < number) → AreLinked more
pushed_linked links more view number next a v e w low =
    subst AreLinked (sym e)
    (linked_push links (record { number = number; next = next }) a (subst (λ (xs : List Link). next ≤ length xs) v w) (λ other o. low other (subst (λ (xs : List Link). IsOn xs next other) (sym v) o)))

pub returns-in_err-insert-clause-linked : goal.returns-in_err-insert-clause-linked
returns-in_err-insert-clause-linked c =
    pushed_linked c.args.links.now.items c.push.new.self.items c.deref.result.now c.args.number c.head_of-next.result c.requires.linked c.deref.ensures.value c.in_ok-push.ensures.items c.head_of-next.ensures.within
    (λ other o. c.requires.above other (subst (λ (xs : List Link). IsOnOf c.args.heads.now xs c.args.name other) c.deref.ensures.value (c.head_of-next.ensures.only other o)))

pub returns-clause-linked : goal.returns-clause-linked
returns-clause-linked c =
    pushed_linked c.args.links.now.items c.push.new.self.items c.deref.result.now c.args.number c.head_of-next.result c.requires.linked c.deref.ensures.value c.in_ok-push.ensures.items c.head_of-next.ensures.within
    (λ other o. c.requires.above other (subst (λ (xs : List Link). IsOnOf c.args.heads.now xs c.args.name other) c.deref.ensures.value (c.head_of-next.ensures.only other o)))

pub returns-in_err-insert-clause-grows : goal.returns-in_err-insert-clause-grows
returns-in_err-insert-clause-grows c = subst (λ (xs : List Link). Grows c.args.links.now.items xs) (sym c.in_ok-push.ensures.items) (grows_push c.args.links.now.items (record { number = c.args.number; next = c.head_of-next.result }))

pub returns-clause-grows : goal.returns-clause-grows
returns-clause-grows c = subst (λ (xs : List Link). Grows c.args.links.now.items xs) (sym c.in_ok-push.ensures.items) (grows_push c.args.links.now.items (record { number = c.args.number; next = c.head_of-next.result }))

pub returns-clause-heads : goal.returns-clause-heads
returns-clause-heads c =
    subst (λ (xs : List Link). AreHeads c.insert.new.self xs) (sym c.in_ok-push.ensures.items)
    (heads_set c.args.heads.now c.insert.new.self c.args.links.now.items c.args.name c.args.number c.head_of-next.result c.len.result c.in_ok-insert.ensures.at c.requires.linked c.requires.heads
    (subst (λ (xs : List Link). c.head_of-next.result ≤ length xs) c.deref.ensures.value c.head_of-next.ensures.within)
    (c.len.ensures ∙ c.push.new.self.ok.0 ∙ ap length c.in_ok-push.ensures.items ∙ length_push c.args.links.now.items (record { number = c.args.number; next = c.head_of-next.result }))
    (λ other o. subst (λ (xs : List Link). IsOn xs c.head_of-next.result other) c.deref.ensures.value
    (c.head_of-next.ensures.all other (subst (λ (xs : List Link). IsOnOf c.args.heads.now xs c.args.name other) (sym c.deref.ensures.value) o)))
    (λ other o. subst (λ (xs : List Link). IsOnOf c.args.heads.now xs c.args.name other) c.deref.ensures.value
    (c.head_of-next.ensures.only other (subst (λ (xs : List Link). IsOn xs c.head_of-next.result other) (sym c.deref.ensures.value) o))))

pub returns-clause-named : goal.returns-clause-named
returns-clause-named c =
    subst (λ (xs : List Link). IsOnOf c.insert.new.self xs c.args.name c.args.number) (sym c.in_ok-push.ensures.items)
    (named_set c.args.heads.now c.insert.new.self c.args.links.now.items c.args.name c.args.number c.head_of-next.result c.len.result c.in_ok-insert.ensures.at c.requires.linked c.requires.heads
    (subst (λ (xs : List Link). c.head_of-next.result ≤ length xs) c.deref.ensures.value c.head_of-next.ensures.within)
    (c.len.ensures ∙ c.push.new.self.ok.0 ∙ ap length c.in_ok-push.ensures.items ∙ length_push c.args.links.now.items (record { number = c.args.number; next = c.head_of-next.result }))
    (λ other o. subst (λ (xs : List Link). IsOn xs c.head_of-next.result other) c.deref.ensures.value
    (c.head_of-next.ensures.all other (subst (λ (xs : List Link). IsOnOf c.args.heads.now xs c.args.name other) (sym c.deref.ensures.value) o)))
    (λ other o. subst (λ (xs : List Link). IsOnOf c.args.heads.now xs c.args.name other) c.deref.ensures.value
    (c.head_of-next.ensures.only other (subst (λ (xs : List Link). IsOn xs c.head_of-next.result other) (sym c.deref.ensures.value) o))))

pub returns-clause-stays : goal.returns-clause-stays
returns-clause-stays c =
    subst (λ (xs : List Link). (key other : ℕ) → IsOnOf c.args.heads.now c.args.links.now.items key other → IsOnOf c.insert.new.self xs key other) (sym c.in_ok-push.ensures.items)
    (stays_set c.args.heads.now c.insert.new.self c.args.links.now.items c.args.name c.args.number c.head_of-next.result c.len.result c.in_ok-insert.ensures.at c.requires.linked c.requires.heads
    (subst (λ (xs : List Link). c.head_of-next.result ≤ length xs) c.deref.ensures.value c.head_of-next.ensures.within)
    (c.len.ensures ∙ c.push.new.self.ok.0 ∙ ap length c.in_ok-push.ensures.items ∙ length_push c.args.links.now.items (record { number = c.args.number; next = c.head_of-next.result }))
    (λ other o. subst (λ (xs : List Link). IsOn xs c.head_of-next.result other) c.deref.ensures.value
    (c.head_of-next.ensures.all other (subst (λ (xs : List Link). IsOnOf c.args.heads.now xs c.args.name other) (sym c.deref.ensures.value) o)))
    (λ other o. subst (λ (xs : List Link). IsOnOf c.args.heads.now xs c.args.name other) c.deref.ensures.value
    (c.head_of-next.ensures.only other (subst (λ (xs : List Link). IsOn xs c.head_of-next.result other) (sym c.deref.ensures.value) o))))

pub returns-clause-only : goal.returns-clause-only
returns-clause-only c =
    subst (λ (xs : List Link). (key other : ℕ) → IsOnOf c.insert.new.self xs key other → IsOnOf c.args.heads.now c.args.links.now.items key other ⊎ ((key ≡ c.args.name) × (other ≡ c.args.number))) (sym c.in_ok-push.ensures.items)
    (only_set c.args.heads.now c.insert.new.self c.args.links.now.items c.args.name c.args.number c.head_of-next.result c.len.result c.in_ok-insert.ensures.at c.requires.linked c.requires.heads
    (subst (λ (xs : List Link). c.head_of-next.result ≤ length xs) c.deref.ensures.value c.head_of-next.ensures.within)
    (c.len.ensures ∙ c.push.new.self.ok.0 ∙ ap length c.in_ok-push.ensures.items ∙ length_push c.args.links.now.items (record { number = c.args.number; next = c.head_of-next.result }))
    (λ other o. subst (λ (xs : List Link). IsOn xs c.head_of-next.result other) c.deref.ensures.value
    (c.head_of-next.ensures.all other (subst (λ (xs : List Link). IsOnOf c.args.heads.now xs c.args.name other) (sym c.deref.ensures.value) o)))
    (λ other o. subst (λ (xs : List Link). IsOnOf c.args.heads.now xs c.args.name other) c.deref.ensures.value
    (c.head_of-next.ensures.only other (subst (λ (xs : List Link). IsOn xs c.head_of-next.result other) (sym c.deref.ensures.value) o))))
