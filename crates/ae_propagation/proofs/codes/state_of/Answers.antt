use Rattle.std.proofs.Common.{◌∙◌, get_or, sym}
use Rattle.std.specs.List.{Contains}
use Rattle.std.proofs.lemmas.List.{get_or_default}
use Rattle.std.proofs.lemmas.List.Elements.{Contains-get_or}
use Rattle.ae_propagation.proofs.Coding.{none_code, no_value}
use Rattle.ae_propagation.proofs.codes.state_of.Goals as goal

pub returns-in-Some-other_open : goal.returns-in-Some-other_open
returns-in-Some-other_open c =
    let values = c.args.values.now in
    let ks = c.args.codes.now in
    let p = c.in-Some-open_one.p in
    let q = c.in-Some-other_open._q in
    let w = c.in-Some-open_one.ensures.within in
    let v = c.in-Some-other_open.ensures.0.within in
    let x = get_or ks p none_code in
    let y = get_or ks q none_code in
    let has : Contains ks x = Contains-get_or ks p none_code w in
    let has_y : Contains ks y = Contains-get_or ks q none_code v in
    record {
      one = x;
      other = y;
      has = has;
      has_other = has_y;
      differ = λ e. c.in-Some-other_open.ensures.1 none_code (sym e ∙ get_or_default ks p none_code _ w);
      open_one = no_value values x (c.in_default.ensures x has) (c.in-Some-open_one.ensures.not_false none_code);
      open_other = no_value values y (c.in_default.ensures y has_y) (c.in-Some-other_open.ensures.0.not_false none_code);
    }

pub returns-in-None : goal.returns-in-None
returns-in-None c =
    let values = c.args.values.now in
    let ks = c.args.codes.now in
    let p = c.in-Some-open_one.p in
    let w = c.in-Some-open_one.ensures.within in
    let x = get_or ks p none_code in
    let has : Contains ks x = Contains-get_or ks p none_code w in
    record {
      code = x;
      within = w;
      is = λ k. get_or_default ks p k none_code w;
      no_value = no_value values x (c.in_default.ensures x has) (c.in-Some-open_one.ensures.not_false none_code);
      others = λ k h d. c.in-None.ensures k h (λ e. d (e ∙ get_or_default ks p _ none_code w));
    }

pub returns-in-Some : goal.returns-in-Some
returns-in-Some c =
    let ks = c.args.codes.now in
    let k = c.in-Some._k in
    (get_or ks k none_code, Contains-get_or ks k none_code c.in-Some.ensures.within, c.in-Some.ensures.holds none_code)
