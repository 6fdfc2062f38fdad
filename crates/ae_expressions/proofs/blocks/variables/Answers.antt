use Rattle.std.proofs.Common.{arith, ◌≡◌, ◌∙◌, ℕ, ◌+◌, List, [], ◌∷◌, ◌++◌, Some, map, reverse, drop, sym, ap, subst}
use Rattle.std.specs.List.{AllByRecursion}
use Rattle.std.proofs.lemmas.List.{drop_more, drop_all, map-append}
use Rattle.std.proofs.lemmas.Option.{slice_get-get_or}
use Rattle.ae_base.proofs.AllOf.{all_at, all_front, all_back, all_append, all_of_map, all_before_map}
use Rattle.ae_syntax.specs.declared.exprs.Group.{Group}
use Rattle.ae_syntax.specs.declared.spans.Span.{Span}
use Rattle.ae_elab.specs.Declarations.{all_different}
use Rattle.ae_elab.specs.Formulas.{Bound, variable_of}
use Rattle.ae_elab.specs.Rules.{each}
use Rattle.ae_elab.specs.Names.{IsName, names_in_group, names_in_type}
use Rattle.ae_elab.specs.Scope.{name_in, scope_with}
use Rattle.ae_elab.specs.Steps.{AreMet, AreNotMet, IsTaken}
use Rattle.ae_elab.specs.Typings.{bound_in}
use Rattle.ae_expressions.proofs.BlockLaws.{Groups, groups_start, group_twice, group_sortless, group_done, groups_whole}
use Rattle.ae_elab.specs.declared.typings.Bound.{Bound as Bound_of}
use Rattle.ae_expressions.proofs.blocks.variables.Goals as goal

abbrev name_of : Bound_of → Span
name_of b = b.name

abbrev IsNamed : List ℕ → Group → Type 0
IsNamed text g = AllByRecursion (IsName text) (names_in_group g)

pub loop-group-init : goal.loop-group-init
loop-group-init c =
    let text = c.args.context.now.text.now in
    let p = c.args.passing.now in
    let gs = c.args.groups.now in
    record {
      bounds = λ locals m. (let sc = scope_with text c.args.context.now.known locals in
          subst (λ (bs : List Bound_of). Groups sc gs m p p (map (bound_in text) bs) c.new-seen.result gs) (sym c.new-bounds.ensures)
          (subst (λ (ns : List (List ℕ)). Groups sc gs m p p [] ns gs) (sym c.new-seen.ensures) (groups_start sc gs m p)));
      names = subst (λ (bs : List Bound_of). AllByRecursion (λ b. IsName text b.name) bs) (sym c.new-bounds.ensures) tt;
    }

pub new_names-requires : goal.new_names-requires
new_names-requires c =
    let P = IsName c.args.context.now.text.now in
    let gs = c.args.groups.now in
    let g = c.group-item.result in
    let i = c.loop-group.group-index in
    let all = all_at (IsNamed c.args.context.now.text.now) gs i g c.requires.names (slice_get-get_or gs i g c.loop-group-test.true ∙ ap Some (sym c.group-item.is)) in
    record { names = subst (λ (xs : List Span). AllByRecursion P xs) (sym c.as_slice.ensures) (all_front P g.names (names_in_type g.sort) all) }

pub sort_of-requires : goal.sort_of-requires
sort_of-requires c =
    let P = IsName c.args.context.now.text.now in
    let gs = c.args.groups.now in
    let g = c.group-item.result in
    let i = c.loop-group.group-index in
    let all = all_at (IsNamed c.args.context.now.text.now) gs i g c.requires.names (slice_get-get_or gs i g c.loop-group-test.true ∙ ap Some (sym c.group-item.is)) in
    record { names = all_back P g.names (names_in_type g.sort) all }

pub returns-in-Err-clause-fault : goal.returns-in-Err-clause-fault
returns-in-Err-clause-fault c locals m =
    let text = c.args.context.now.text.now in
    let sc = scope_with text c.args.context.now.known locals in
    let gs = c.args.groups.now in
    let g = c.group-item.result in
    let i = c.loop-group.group-index in
    let seen = c.loop-group.seen in
    let done = map (bound_in text) c.loop-group.bounds in
    let here : Groups sc gs m c.args.passing.now c.loop-group.passing done seen (g ∷ drop (i + 1) gs) =
    subst (λ rest. Groups sc gs m c.args.passing.now c.loop-group.passing done seen rest) (drop_more gs i g c.loop-group-test.true ∙ ap (λ z. z ∷ drop (i + 1) gs) (sym c.group-item.is)) (c.loop-group.invariant.bounds locals m) in
    group_twice sc gs m c.args.passing.now c.loop-group.passing done seen g (drop (i + 1) gs) here c.in-Err.fault
    (subst (λ (xs : List Span). AreNotMet (all_different text (reverse seen) xs) m c.in-Err.fault) c.as_slice.ensures (c.in-Err.ensures.fault m))

pub returns-in-Err-sort_of-clause-fault : goal.returns-in-Err-sort_of-clause-fault
returns-in-Err-sort_of-clause-fault c locals m =
    let text = c.args.context.now.text.now in
    let sc = scope_with text c.args.context.now.known locals in
    let gs = c.args.groups.now in
    let g = c.group-item.result in
    let i = c.loop-group.group-index in
    let seen = c.loop-group.seen in
    let done = map (bound_in text) c.loop-group.bounds in
    let here : Groups sc gs m c.args.passing.now c.loop-group.passing done seen (g ∷ drop (i + 1) gs) =
    subst (λ rest. Groups sc gs m c.args.passing.now c.loop-group.passing done seen rest) (drop_more gs i g c.loop-group-test.true ∙ ap (λ z. z ∷ drop (i + 1) gs) (sym c.group-item.is)) (c.loop-group.invariant.bounds locals m) in
    let new : AreMet (all_different text (reverse seen) g.names) m m = subst (λ (xs : List Span). AreMet (all_different text (reverse seen) xs) m m) c.as_slice.ensures (c.in-Ok.ensures.met m) in
    group_sortless sc gs m c.args.passing.now c.loop-group.passing done seen g (drop (i + 1) gs) here new c.in-Err-sort_of.fault (c.in-Err-sort_of.ensures.fault locals m)

all_named : (P : Span → Type 0) (bs old : List Bound_of) (xs : List Span) → map name_of bs ≡ map name_of old ++ xs → AllByRecursion (λ b. P b.name) old → AllByRecursion P xs → AllByRecursion (λ b. P b.name) bs
all_named P bs old xs e a b = all_before_map P name_of bs (subst (AllByRecursion P) (sym e) (all_append P (map name_of old) xs (all_of_map P name_of old a) b))

pub loop-group-preserved : goal.loop-group-preserved
loop-group-preserved c =
    let text = c.args.context.now.text.now in
    let P = IsName text in
    let gs = c.args.groups.now in
    let g = c.group-item.result in
    let i = c.loop-group.group-index in
    let all = all_at (IsNamed text) gs i g c.requires.names (slice_get-get_or gs i g c.loop-group-test.true ∙ ap Some (sym c.group-item.is)) in
    let longer = c.in_ok-push_variables-in-Ok-sort_of.ensures.names ∙ ap (λ (ys : List Span). map name_of c.loop-group.bounds ++ ys) c.as_slice-in-Ok-sort_of.ensures in
    record {
      bounds = λ locals m. (let sc = scope_with text c.args.context.now.known locals in
          let seen = c.loop-group.seen in
          let done = map (bound_in text) c.loop-group.bounds in
          let here : Groups sc gs m c.args.passing.now c.loop-group.passing done seen (g ∷ drop (i + 1) gs) =
          subst (λ rest. Groups sc gs m c.args.passing.now c.loop-group.passing done seen rest) (drop_more gs i g c.loop-group-test.true ∙ ap (λ z. z ∷ drop (i + 1) gs) (sym c.group-item.is)) (c.loop-group.invariant.bounds locals m) in
          let new : AreMet (all_different text (reverse seen) g.names) m m = subst (λ (xs : List Span). AreMet (all_different text (reverse seen) xs) m m) c.as_slice.ensures (c.in-Ok.ensures.met m) in
          let names : c.new_names.new.seen ≡ seen ++ map (name_in text) g.names = c.in-Ok.ensures.names ∙ ap (λ (xs : List Span). seen ++ map (name_in text) xs) c.as_slice.ensures in
          let added = c.in_ok-push_variables-in-Ok-sort_of.ensures.variables sc in
          let walked = subst (λ (xs : List Span). IsTaken (each (variable_of sc c.in-Ok-sort_of.sort) xs) c.sort_of.new.passing c.push_variables.new.passing (map (bound_in text) added.0)) c.as_slice-in-Ok-sort_of.ensures added.2 in
          subst (λ (bs : List Bound). Groups sc gs m c.args.passing.now c.push_variables.new.passing bs c.new_names.new.seen (drop (i + 1) gs))
          (sym (ap (map (bound_in text)) added.1 ∙ map-append (bound_in text) c.loop-group.bounds added.0))
          (group_done sc gs m c.args.passing.now c.loop-group.passing done seen g (drop (i + 1) gs) here new c.sort_of.new.passing c.push_variables.new.passing c.in-Ok-sort_of.sort (map (bound_in text) added.0) c.new_names.new.seen
          (c.in-Ok-sort_of.ensures.sort locals m) (walked m) names));
      names = all_named P c.push_variables.new.bounds c.loop-group.bounds g.names longer c.loop-group.invariant.names (all_front P g.names (names_in_type g.sort) all);
    }

pub returns-clause-names : goal.returns-clause-names
returns-clause-names c = c.loop-group.invariant.names

pub returns-clause-bounds : goal.returns-clause-bounds
returns-clause-bounds c locals m =
    let text = c.args.context.now.text.now in
    let sc = scope_with text c.args.context.now.known locals in
    let gs = c.args.groups.now in
    let done = map (bound_in text) c.loop-group.bounds in
    groups_whole sc gs m c.args.passing.now c.loop-group.passing done c.loop-group.seen
    (subst (λ rest. Groups sc gs m c.args.passing.now c.loop-group.passing done c.loop-group.seen rest) (drop_all c.loop-group.group-index gs (omega (arith, c.loop-group-test.false))) (c.loop-group.invariant.bounds locals m))
