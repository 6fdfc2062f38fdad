use Rattle.std.proofs.Common.{◌≡◌, ◌∙◌, sym, ap, subst}
use Rattle.ae_numeric.specs.Stated.{with_key, key_form}
use Rattle.ae_numeric.specs.Computing.{AreDistinct}
use Rattle.ae_numeric.specs.Computing.{Keeps}
use Rattle.ae_numeric.proofs.KeyedLaws.{keeps_with, distinct_with}
use Rattle.ae_numeric.proofs.NamedLaws.{key_is_form}
use Rattle.ae_numeric.proofs.forms.opaque_form.Goals as goal

pub returns-clause-meaning : goal.returns-clause-meaning
returns-clause-meaning c =
    let ks = c.args.keys.now in
    let t = c.args.term.now in
    let keys : c.number_of.new.self ≡ with_key ks t = c.in_ok-number.ensures.keys in
    key_is_form ks c.number_of.new.self t c.in_ok-single.field-0 keys (c.in_ok-single.ensures.form ∙ ap key_form c.in_ok-number.ensures.number)
    c.in_ok-single.ensures.normal (subst AreDistinct (sym keys) (distinct_with ks t c.requires.keys))

pub returns-clause-kept : goal.returns-clause-kept
returns-clause-kept c = subst (Keeps c.args.keys.now) (sym c.in_ok-number.ensures.keys) (keeps_with c.args.keys.now c.args.term.now)
