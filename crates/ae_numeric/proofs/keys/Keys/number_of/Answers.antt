use Rattle.std.proofs.Common.{rules, ◌≡◌, ◌∙◌, sym, ap, subst, Some, None, OnOk}
use Rattle.std.proofs.lemmas.Result.{IfOk-weaker}
use Rattle.ae_numeric.specs.Stated.{place_of}
use Rattle.ae_numeric.specs.Inner.Keyed.{place_in}
use Rattle.ae_numeric.proofs.KeyedLaws.{place_found, place_new}
use Rattle.ae_numeric.proofs.keys.Keys.number_of.Goals as goal

pub returns-in-Some-clause-number : goal.returns-in-Some-clause-number
returns-in-Some-clause-number c =
    let t = c.args.term.now in
    let view : c.self.inside.terms ≡ c.args.self.now = search rules in
    let e : place_in c.self.inside.terms t ≡ Some c.in-Some.place = sym (c.self.invariant t) ∙ sym c.get.ensures.value ∙ sym c.copied.ensures ∙ c.in-Some.is in
    (place_found c.args.self.now t c.in-Some.place (ap (λ ks. place_in ks t) (sym view) ∙ e)).0

pub returns-in-Some-clause-keys : goal.returns-in-Some-clause-keys
returns-in-Some-clause-keys c =
    let t = c.args.term.now in
    let view : c.self.inside.terms ≡ c.args.self.now = search rules in
    let e : place_in c.self.inside.terms t ≡ Some c.in-Some.place = sym (c.self.invariant t) ∙ sym c.get.ensures.value ∙ sym c.copied.ensures ∙ c.in-Some.is in
    (place_found c.args.self.now t c.in-Some.place (ap (λ ks. place_in ks t) (sym view) ∙ e)).1

pub returns-in-None-clause-number : goal.returns-in-None-clause-number
returns-in-None-clause-number c =
    let t = c.args.term.now in
    let view : c.self.inside.terms ≡ c.args.self.now = search rules in
    let e : place_in c.self.inside.terms t ≡ None = sym (c.self.invariant t) ∙ sym c.get.ensures.value ∙ sym c.copied.ensures ∙ c.in-None.is in
    let p = place_new c.args.self.now t (ap (λ ks. place_in ks t) (sym view) ∙ e) in
    IfOk-weaker c.add.result _ (λ n. n ≡ place_of c.args.self.now t) (λ n h. h ∙ p.0) c.add.ensures.number

pub returns-in-None-clause-keys : goal.returns-in-None-clause-keys
returns-in-None-clause-keys c =
    let t = c.args.term.now in
    let view : c.self.inside.terms ≡ c.args.self.now = search rules in
    let e : place_in c.self.inside.terms t ≡ None = sym (c.self.invariant t) ∙ sym c.get.ensures.value ∙ sym c.copied.ensures ∙ c.in-None.is in
    let p = place_new c.args.self.now t (ap (λ ks. place_in ks t) (sym view) ∙ e) in
    subst (λ ks. OnOk c.add.result (c.add.new.self ≡ ks)) p.1 c.add.ensures.keys
