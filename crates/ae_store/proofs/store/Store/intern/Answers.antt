use Rattle.std.proofs.Common.{◌∙◌, ap, slice_get, [], ◌∷◌}
use Rattle.ae_store.specs.Shapes.{shapes, aged_all}
use Rattle.ae_store.specs.Terms.{terms}
use Rattle.ae_store.proofs.EnterLaws.{keeps_front}
use Rattle.std.proofs.Common.{sym, subst, ◌≡◌}
use Rattle.ae_core.specs.declared.problems.Signature.{Signature}
use Rattle.ae_store.specs.Terms.{IsSound, HasOneName, AreSorted}
use Rattle.ae_store.specs.Fields.{HasFields, News}
use Rattle.ae_store.specs.Parts.{Added, HasAges}
use Rattle.ae_store.proofs.FieldLaws.{fields_more}
use Rattle.ae_store.proofs.AgeLaws.{shapes_aged_all, ages}
use Rattle.ae_store.proofs.NestLaws.{nested}
use Rattle.ae_store.proofs.store.Store.intern.Goals as goal

pub returns-in-Ok-clause-keeps : goal.returns-in-Ok-clause-keeps
returns-in-Ok-clause-keeps c i t e =
    ap (λ xs. slice_get (terms xs) i) (ap shapes c.age_all.ensures ∙ shapes_aged_all c.args.generation c.as_slice.result.now c.enter_term.new.nodes)
    ∙ keeps_front c.self.inside.nodes c.enter_term.new.nodes c.enter_term.ensures.front i t (ap (λ s. slice_get (terms (shapes s.nodes)) i) c.self.view_is ∙ e)

pub returns-in-Ok-clause-fields : goal.returns-in-Ok-clause-fields
returns-in-Ok-clause-fields c =
    let S = c.self.inside.signature in
    let same : c.args.signature.now ≡ S = c.requires.same ∙ sym (ap (λ s. s.signature) c.self.view_is) in
    let news : News S c.self.inside.nodes c.enter_term.new.nodes = subst (λ (g : Signature). News g c.self.inside.nodes c.enter_term.new.nodes) same c.in-Ok.ensures.news in
    subst (HasFields S) (sym (ap shapes c.age_all.ensures ∙ shapes_aged_all c.args.generation c.as_slice.result.now c.enter_term.new.nodes))
    (fields_more S c.self.inside.nodes c.enter_term.new.nodes c.in-Ok.ensures.front c.self.invariant.2 news)

pub invariant_of-self : goal.invariant_of-self
invariant_of-self c =
    let S = c.self.inside.signature in
    let ns = c.self.inside.nodes in
    let ms = c.enter_term.new.nodes in
    let g = c.args.generation in
    let n = c.in-Ok.name in
    let same : c.args.signature.now ≡ S = c.requires.same ∙ sym (ap (λ s. s.signature) c.self.view_is) in
    let news : News S c.self.inside.nodes c.enter_term.new.nodes = subst (λ (g : Signature). News g c.self.inside.nodes c.enter_term.new.nodes) same c.in-Ok.ensures.news in
    let sound : IsSound S (shapes ms) = subst (λ (h : Signature). IsSound h (shapes ms)) same c.in-Ok.ensures.sound in
    let T = c.enter_term.new.touched in
    let added : Added S g ns ms [] T (n ∷ []) =
    subst (λ l. Added S g ns ms l T (n ∷ [])) c.new-touched.ensures (subst (λ (h : Signature). Added h g ns ms c.new-touched.result T (n ∷ [])) same c.in-Ok.ensures.added) in
    let aged = ages S g ns ms T n sound c.in-Ok.ensures.front added c.in-Ok.ensures.among c.age_all.new.nodes (c.age_all.ensures ∙ ap (λ l. aged_all g l ms) c.as_slice.ensures) in
    let alike = ap shapes c.age_all.ensures ∙ shapes_aged_all g c.as_slice.result.now ms in (
      subst (IsSound S) (sym (ap shapes c.age_all.ensures ∙ shapes_aged_all c.args.generation c.as_slice.result.now c.enter_term.new.nodes)) sound,
      c.self.invariant.1,
      subst (HasFields S) (sym (ap shapes c.age_all.ensures ∙ shapes_aged_all c.args.generation c.as_slice.result.now c.enter_term.new.nodes))
          (fields_more S c.self.inside.nodes c.enter_term.new.nodes c.in-Ok.ensures.front c.self.invariant.2 news),
      nested S ns ms c.in-Ok.ensures.front c.self.invariant.0 sound c.self.invariant.2 g n c.age_all.new.nodes alike aged c.self.invariant.3,
    )

pub returns-in-Ok-clause-nested : goal.returns-in-Ok-clause-nested
returns-in-Ok-clause-nested c = (invariant_of-self c).3

pub returns-in-Ok-clause-ages : goal.returns-in-Ok-clause-ages
returns-in-Ok-clause-ages c =
    let S = c.self.inside.signature in
    let ns = c.self.inside.nodes in
    let ms = c.enter_term.new.nodes in
    let g = c.args.generation in
    let n = c.in-Ok.name in
    let same : c.args.signature.now ≡ S = c.requires.same ∙ sym (ap (λ s. s.signature) c.self.view_is) in
    let sound : IsSound S (shapes ms) = subst (λ (h : Signature). IsSound h (shapes ms)) same c.in-Ok.ensures.sound in
    let T = c.enter_term.new.touched in
    let added : Added S g ns ms [] T (n ∷ []) =
    subst (λ l. Added S g ns ms l T (n ∷ [])) c.new-touched.ensures (subst (λ (h : Signature). Added h g ns ms c.new-touched.result T (n ∷ [])) same c.in-Ok.ensures.added) in
    subst (λ l. HasAges S g l c.age_all.new.nodes n) (ap (λ s. s.nodes) c.self.view_is)
    (ages S g ns ms T n sound c.in-Ok.ensures.front added c.in-Ok.ensures.among c.age_all.new.nodes (c.age_all.ensures ∙ ap (λ l. aged_all g l ms) c.as_slice.ensures))

pub returns-in-Ok-clause-term : goal.returns-in-Ok-clause-term
returns-in-Ok-clause-term c =
    ap (λ xs. slice_get (terms xs) c.in-Ok.name) (ap shapes c.age_all.ensures ∙ shapes_aged_all c.args.generation c.as_slice.result.now c.enter_term.new.nodes) ∙ c.in-Ok.ensures.term

pub returns-in-Ok-clause-one_name : goal.returns-in-Ok-clause-one_name
returns-in-Ok-clause-one_name c =
    subst (λ xs. HasOneName (terms xs)) (sym (ap shapes c.age_all.ensures ∙ shapes_aged_all c.args.generation c.as_slice.result.now c.enter_term.new.nodes)) c.in-Ok.ensures.sound.one_name

pub returns-in-Ok-clause-sorted : goal.returns-in-Ok-clause-sorted
returns-in-Ok-clause-sorted c =
    let S = c.self.inside.signature in
    let same : c.args.signature.now ≡ S = c.requires.same ∙ sym (ap (λ s. s.signature) c.self.view_is) in
    let sound : IsSound S (shapes c.enter_term.new.nodes) = subst (λ (g : Signature). IsSound g (shapes c.enter_term.new.nodes)) same c.in-Ok.ensures.sound in
    subst (AreSorted S) (sym (ap shapes c.age_all.ensures ∙ shapes_aged_all c.args.generation c.as_slice.result.now c.enter_term.new.nodes)) sound.sorted
