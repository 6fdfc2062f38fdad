use Rattle.std.specs.Prelude.{◌≡◌, ◌++◌, [], Some, Option, List}
use Rattle.std.proofs.Common.{rules, sym, ap, ◌∙◌, subst}
use Rattle.std.proofs.lemmas.Option.{get_or_from_slice_get, slice_get_within}
use Rattle.ae_base.specs.Options.{or_else, ◌>>=◌}
use Rattle.ae_core.specs.declared.formulas.Lit.{Lit}
use Rattle.ae_num.specs.declared.forms.Lin.{Lin}
use Rattle.ae_num.specs.Forms.{IsNormal}
use Rattle.ae_store.specs.Shapes.{shapes}
use Rattle.ae_store.specs.Terms.{terms}
use Rattle.ae_bounds.specs.declared.rows.Unrounded.{Unrounded}
use Rattle.ae_bound_blocks.specs.declared.given.Given.{Given}
use Rattle.ae_bound_blocks.specs.Ancestors.{hyps_of}
use Rattle.ae_bound_blocks.specs.Said.{kept, was, IsGiven}
use Rattle.ae_bound_blocks.specs.Inner.Emitting.{IsSaidAfter}
use Rattle.ae_bound_blocks.proofs.Rounding.{said_on, said_here}
use Rattle.ae_bound_blocks.proofs.emitting.add_assumed.Goals as goal

pub bounds-given-tag : goal.bounds-given-tag
bounds-given-tag c = slice_get_within c.args.given.now c.args.tag c.requires.given.0 c.requires.given.1

pub after_given-requires-clause-normal : goal.after_given-requires-clause-normal
after_given-requires-clause-normal c = subst (λ (l : Lin). IsNormal l) (sym c.form_of-form.ensures) c.requires.normal

pub after_given-requires-clause-given : goal.after_given-requires-clause-given
after_given-requires-clause-given c =
    let sig = c.args.store.now.signature in
    let ts = terms (shapes c.args.store.now.nodes) in
    let g = c.requires.given in
    let is : ◌≡◌ {A = Unrounded} (record { lin = c.form_of-form.result.now; strict = c.strict_of-strict.result }) (was c.args.row.now) = (λ i. record { lin = c.form_of-form.ensures i; strict = c.strict_of-strict.ensures i }) in
    let same : c.index-given-tag.result ≡ g.0 = c.index-given-tag.is ∙ get_or_from_slice_get c.args.given.now c.args.tag g.0 c.index-given-tag.result g.1 in
    subst (λ (u : Unrounded). IsGiven sig ts c.args.real u c.index-given-tag.result) (sym is) (subst (λ (x : Given). IsGiven sig ts c.args.real (was c.args.row.now) x) (sym same) g.2)

pub after_rounding-requires-clause-said : goal.after_rounding-requires-clause-said
after_rounding-requires-clause-said c =
    let sig = c.args.store.now.signature in
    let ts = terms (shapes c.args.store.now.nodes) in
    let is : ◌≡◌ {A = Unrounded} (record { lin = c.form_of-form.result.now; strict = c.strict_of-strict.result }) (was c.args.row.now) = (λ i. record { lin = c.form_of-form.ensures i; strict = c.strict_of-strict.ensures i }) in
    let plain = c.in_ok-plain.plain in
    said_here sig ts c.args.real c.args.emitted.deriv plain (was c.args.row.now) (subst (λ (u : Unrounded). IsSaidAfter sig ts c.args.real c.args.emitted.deriv plain u) is c.in_ok-plain.ensures.said)

pub last_line-last-requires : goal.last_line-last-requires
last_line-last-requires c = record { some = c.in_ok-said.ensures.said.some }

pub returns-clause-more : goal.returns-clause-more
returns-clause-more c =
    let sig = c.args.store.now.signature in
    let ts = terms (shapes c.args.store.now.nodes) in
    let is : ◌≡◌ {A = Unrounded} (record { lin = c.form_of-form.result.now; strict = c.strict_of-strict.result }) (was c.args.row.now) = (λ i. record { lin = c.form_of-form.ensures i; strict = c.strict_of-strict.ensures i }) in
    let plain = c.in_ok-plain.plain in
    record {
      said = said_on sig ts c.args.real c.args.emitted.deriv plain c.in_ok-said.said (was c.args.row.now) (kept c.args.row.now)
          (subst (λ (u : Unrounded). IsSaidAfter sig ts c.args.real c.args.emitted.deriv plain u) is c.in_ok-plain.ensures.said) c.in_ok-said.ensures.said;
      place = c.last_line-last.result;
      last = c.last_line-last.ensures;
      places = search rules;
    }

pub returns-clause-hyps : goal.returns-clause-hyps
returns-clause-hyps c =
    let g = c.requires.given in
    let same : c.index-given-tag.result ≡ g.0 = c.index-given-tag.is ∙ get_or_from_slice_get c.args.given.now c.args.tag g.0 c.index-given-tag.result g.1 in
    let hyps : hyps_of c.args.given.now c.args.tag ≡ g.0.deriv.hyps = ap (λ (o : Option Given). or_else (o >>= λ (x : Given). Some x.deriv.hyps) []) g.1 in
    c.in_ok-said.ensures.hyps ∙ c.in_ok-plain.ensures.hyps ∙ ap (λ (hs : List Lit). c.args.emitted.deriv.hyps ++ hs) (ap (λ (x : Given). x.deriv.hyps) same ∙ sym hyps)
