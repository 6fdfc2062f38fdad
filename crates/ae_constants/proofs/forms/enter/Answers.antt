use Rattle.std.proofs.Common.{rules, arith, ◌≡◌, ◌<◌, ◌≤◌, inl, inr, ◌++◌, ◌∙◌, sym, ap, subst, take, drop, slice_get, Some}
use Rattle.std.specs.Prelude.{IsTrue}
use Rattle.std.proofs.lemmas.Result.{on_ok_weaker}
use Rattle.ae_journal.specs.Values.{enter}
use Rattle.ae_naturals.specs.Fractions.{value_of}
use Rattle.ae_constants.specs.declared.forms.Multiple.{Multiple}
use Rattle.ae_constants.specs.Forms.{multiples}
use Rattle.ae_constants.proofs.EnterLaws.{enter_free}
use Rattle.ae_constants.proofs.forms.enter.Goals as goal

pub join-requires : goal.join-requires
join-requires c =
    let t : IsTrue c.is_there.result = search rules in
    let w = c.is_there.ensures.yes t in
    (w.0, ap (λ xs. slice_get xs c.place_of-place.result) (sym c.as_slice-2.ensures.value) ∙ w.1, w.2)

pub returns-else-is_there : goal.returns-else-is_there
returns-else-is_there c =
    let ms = c.args.parts.now.items in
    let place = c.place_of-place.result in
    let x = value_of c.args.factor in
    let before : enter c.args.name x (multiples ms) ≡ take place (multiples ms) ++ enter c.args.name x (drop place (multiples ms)) =
    subst (λ ns. enter c.args.name x (multiples ns) ≡ take place (multiples ns) ++ enter c.args.name x (drop place (multiples ns))) c.as_slice.ensures.value (c.place_of-place.ensures.before x) in
    let other : IsTrue c.is_there.result → ⊥ = search rules in
    let free : (m : Multiple) → slice_get ms place ≡ Some m → c.args.name < m.name =
    λ m e.
    let behind : c.args.name ≤ m.name = c.place_of-place.ensures.behind m (ap (λ ns. slice_get ns place) c.as_slice.ensures.value ∙ e) in
    elim (c.is_there.ensures.no m (ap (λ ns. slice_get ns place) c.as_slice-2.ensures.value ∙ e)) [ inl t ↦ absurd (other t) | inr d ↦ omega (arith, d) ] in
    on_ok_weaker c.put.result (λ e. e ∙ ap (λ ps. take place (multiples ms) ++ ps) (sym (enter_free c.args.name x ms place free)) ∙ sym before) c.put.ensures
