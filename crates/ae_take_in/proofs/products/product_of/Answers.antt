use Rattle.std.specs.Prelude.{◌≡◌, true, false}
use Rattle.std.proofs.Common.{rules, sym, ◌∙◌, subst}
use Rattle.ae_math.specs.Forms.{number as number_form, scale as scale_form}
use Rattle.ae_num.specs.Forms.{meaning, SameMeaning}
use Rattle.ae_num.specs.declared.forms.Lin.{Lin}
use Rattle.ae_rules.specs.Linear.{form, is_number}
use Rattle.ae_store.specs.Shapes.{shapes}
use Rattle.ae_store.specs.Terms.{terms, named}
use Rattle.ae_store.proofs.EnterLaws.{front_same}
use Rattle.ae_journal.specs.declared.answers.NumStep.TheVariants as num
use Rattle.ae_value_table.specs.Table.{number_at}
use Rattle.ae_take_in.specs.Widths.{of_left_factor, of_right_factor}
use Rattle.ae_take_in.proofs.Numbers.{left_is, right_is, made_by_left, made_by_right, made_by_none}
use Rattle.ae_take_in.proofs.Passing.{wide_passed}
use Rattle.ae_take_in.proofs.Widths.{own_right}
use Rattle.ae_take_in.proofs.products.product_of.Goals as goal

pub scaled-requires-clause-of : goal.scaled-requires-clause-of
scaled-requires-clause-of c = c.requires.on.right

pub scaled-requires-clause-is : goal.scaled-requires-clause-is
scaled-requires-clause-is c =
    let ts = terms (shapes c.args.store.now.nodes) in
    let t : c.is_constant-first.result ≡ true = search rules in
    left_is (named ts c.args.name) (named ts c.args.left) (named ts c.args.right) c.args.real c.requires.on.is (sym (c.requires.constants c.args.left c.is_constant-first.result c.is_constant-first.ensures) ∙ t)

pub scaled-requires-clause-constant : goal.scaled-requires-clause-constant
scaled-requires-clause-constant c =
    let t : c.is_constant-first.result ≡ true = search rules in
    c.requires.left_number (sym (c.requires.constants c.args.left c.is_constant-first.result c.is_constant-first.ensures) ∙ t)

pub returns-then-first-clause-some : goal.returns-then-first-clause-some
returns-then-first-clause-some c =
    let s = c.args.store.now in
    let ts = terms (shapes s.nodes) in
    let v = c.args.values.now in
    let t : c.is_constant-first.result ≡ true = search rules in
    record {
      form = scale_form (form (named ts c.args.left)).constant (meaning (number_at v c.args.right));
      is = made_by_left ts (number_at v) c.args.left c.args.right (sym (c.requires.constants c.args.left c.is_constant-first.result c.is_constant-first.ensures) ∙ t);
      given = c.in_ok-by_left.ensures.given;
    }

pub returns-in_err-by_left-clause-wide : goal.returns-in_err-by_left-clause-wide
returns-in_err-by_left-clause-wide c =
    let s = c.args.store.now in
    let ts = terms (shapes s.nodes) in
    let v = c.args.values.now in
    let t : c.is_constant-first.result ≡ true = search rules in
    let h : is_number (form (named ts c.args.left)) ≡ true = sym (c.requires.constants c.args.left c.is_constant-first.result c.is_constant-first.ensures) ∙ t in
    wide_passed c.from_residual.result c.in_err-by_left.field-0.0 c.from_residual.ensures.1
    (λ w i. of_right_factor c.args.left c.args.right c.args.real c.requires.on.is h
    (subst (λ (x : Lin). SameMeaning (meaning x) (number_form (form (named ts c.args.left)).constant)) (sym i.right) (c.requires.left_number h)) (own_right num.Scale (number_at v c.args.right) (number_at v c.args.left) w i))
    c.in_err-by_left.ensures.wide

pub scaled-requires-then-second-clause-of : goal.scaled-requires-then-second-clause-of
scaled-requires-then-second-clause-of c = c.requires.on.left

pub scaled-requires-then-second-clause-is : goal.scaled-requires-then-second-clause-is
scaled-requires-then-second-clause-is c =
    let ts = terms (shapes c.args.store.now.nodes) in
    let f : c.is_constant-first.result ≡ false = search rules in
    let t : c.is_constant-second.result ≡ true = search rules in
    right_is (named ts c.args.name) (named ts c.args.left) (named ts c.args.right) c.args.real c.requires.on.is (sym (c.requires.constants c.args.left c.is_constant-first.result c.is_constant-first.ensures) ∙ f)
    (sym (c.requires.constants c.args.right c.is_constant-second.result c.is_constant-second.ensures) ∙ t)

pub scaled-requires-then-second-clause-constant : goal.scaled-requires-then-second-clause-constant
scaled-requires-then-second-clause-constant c =
    let t : c.is_constant-second.result ≡ true = search rules in
    c.requires.right_number (sym (c.requires.constants c.args.right c.is_constant-second.result c.is_constant-second.ensures) ∙ t)

pub returns-then-second-clause-some : goal.returns-then-second-clause-some
returns-then-second-clause-some c =
    let s = c.args.store.now in
    let ts = terms (shapes s.nodes) in
    let v = c.args.values.now in
    let f : c.is_constant-first.result ≡ false = search rules in
    let t : c.is_constant-second.result ≡ true = search rules in
    record {
      form = scale_form (form (named ts c.args.right)).constant (meaning (number_at v c.args.left));
      is =
          made_by_right ts (number_at v) c.args.left c.args.right (sym (c.requires.constants c.args.left c.is_constant-first.result c.is_constant-first.ensures) ∙ f)
          (sym (c.requires.constants c.args.right c.is_constant-second.result c.is_constant-second.ensures) ∙ t);
      given = c.in_ok-by_right.ensures.given;
    }

pub returns-in_err-by_right-clause-wide : goal.returns-in_err-by_right-clause-wide
returns-in_err-by_right-clause-wide c =
    let s = c.args.store.now in
    let ts = terms (shapes s.nodes) in
    let v = c.args.values.now in
    let t : c.is_constant-second.result ≡ true = search rules in
    let h : is_number (form (named ts c.args.right)) ≡ true = sym (c.requires.constants c.args.right c.is_constant-second.result c.is_constant-second.ensures) ∙ t in
    wide_passed c.from_residual-in_err-by_right.result c.in_err-by_right.field-0.0 c.from_residual-in_err-by_right.ensures.1
    (λ w i. of_left_factor c.args.left c.args.right c.args.real c.requires.on.is h
    (subst (λ (x : Lin). SameMeaning (meaning x) (number_form (form (named ts c.args.right)).constant)) (sym i.right) (c.requires.right_number h)) (own_right num.Scale (number_at v c.args.left) (number_at v c.args.right) w i))
    c.in_err-by_right.ensures.wide

pub returns-clause-none : goal.returns-clause-none
returns-clause-none c = λ number.
    let ts = terms (shapes c.args.store.now.nodes) in
    let f : c.is_constant-first.result ≡ false = search rules in
    let g : c.is_constant-second.result ≡ false = search rules in
    made_by_none ts number c.args.left c.args.right (sym (c.requires.constants c.args.left c.is_constant-first.result c.is_constant-first.ensures) ∙ f)
    (sym (c.requires.constants c.args.right c.is_constant-second.result c.is_constant-second.ensures) ∙ g)

pub returns-clause-front : goal.returns-clause-front
returns-clause-front c = front_same c.args.justs.now
