use Rattle.std.proofs.Common.{arith, ◌∙◌, List, [], ◌∷◌, ◌++◌, map, take, get_or, sym, ap}
use Rattle.std.proofs.lemmas.List.{append_assoc, append-nil, map_push, take_more, take_all}
use Rattle.ae_syntax.specs.declared.spans.Span.{Span}
use Rattle.ae_elab.specs.declared.typings.Bound.{Bound}
use Rattle.ae_expressions.proofs.BlockLaws.{variables_start, variables_next, variables_whole, same_place}
use Rattle.ae_expressions.proofs.blocks.push_variables.Goals as goal

abbrev nowhere : Span
nowhere = record { from = 0; to = 0 }

abbrev name_of : Bound → Span
name_of b = b.name

pub loop-name-init : goal.loop-name-init
loop-name-init c = record {
  variables = λ sc. variables_start sc c.args.sort.now c.args.names.now c.args.bounds.now c.args.passing.now;
  names = sym (append-nil (map name_of c.args.bounds.now));
}

pub loop-name-preserved : goal.loop-name-preserved
loop-name-preserved c =
    let xs = c.args.names.now in
    let i = c.loop-name.name-index in
    let b : Bound = record { name = get_or xs i nowhere; number = c.in_ok-number.number; sort = c.in_ok-sort.sort } in
    record {
      variables = λ sc. variables_next sc c.args.sort.now xs c.args.bounds.now c.args.passing.now c.loop-name.bounds c.loop-name.passing i (get_or xs i nowhere) c.in_ok-number.number c.in_ok-sort.sort c.push.new.self c.fresh.new.self
          c.loop-name-test.true (same_place xs i nowhere c.loop-name-test.true) c.in_ok-sort.ensures c.in_ok-number.ensures c.in_ok-push.ensures.ok (c.loop-name.invariant.variables sc);
      names = ap (map name_of) c.in_ok-push.ensures.ok ∙ map_push name_of c.loop-name.bounds b ∙ ap (λ (ys : List Span). ys ++ get_or xs i nowhere ∷ []) c.loop-name.invariant.names
          ∙ append_assoc (map name_of c.args.bounds.now) (take i xs) (get_or xs i nowhere ∷ []) ∙ ap (λ (ys : List Span). map name_of c.args.bounds.now ++ ys) (sym (take_more xs i nowhere c.loop-name-test.true));
    }

pub returns-clause-variables : goal.returns-clause-variables
returns-clause-variables c sc =
    variables_whole sc c.args.sort.now c.args.names.now c.args.bounds.now c.args.passing.now c.loop-name.bounds c.loop-name.passing c.loop-name.name-index (omega (arith, c.loop-name-test.false)) (c.loop-name.invariant.variables sc)

pub returns-clause-names : goal.returns-clause-names
returns-clause-names c = c.loop-name.invariant.names ∙ ap (λ (ys : List Span). map name_of c.args.bounds.now ++ ys) (take_all c.loop-name.name-index c.args.names.now (omega (arith, c.loop-name-test.false)))
