use Rattle.std.proofs.Common.{arith, ◌≡◌, ◌∙◌, ℕ, Some, List, [], ◌∷◌, ◌++◌, sym, ap, subst}
use Rattle.std.specs.List.{AllByRecursion}
use Rattle.std.proofs.lemmas.Option.{slice_get-get_or}
use Rattle.ae_base.proofs.AllOf.{all_at}
use Rattle.ae_syntax.specs.declared.decls.TypedName.{TypedName}
use Rattle.ae_elab.specs.declared.faults.TypeFault.{TypeFault}
use Rattle.ae_elab.specs.declared.faults.TypeFault.TheVariants as fault
use Rattle.ae_elab.specs.Declarations.{only_declared, twice, with_types}
use Rattle.ae_elab.specs.Inner.Fields.{declares_fields, record_entry}
use Rattle.ae_elab.specs.Names.{IsName, names_in_typed}
use Rattle.ae_elab.specs.Steps.{IsTaken, IsHalted}
use Rattle.ae_elab.proofs.RecordRules.{so_far_start, so_far_twice, so_far_fails, so_far_next, so_far_end}
use Rattle.ae_elab.proofs.declarations.add_fields.Goals as goal

abbrev AreNames : List ℕ → TypedName → Type 0
AreNames text x = AllByRecursion (IsName text) (names_in_typed x)

pub name_at-name-requires : goal.name_at-name-requires
name_at-name-requires c =
    let xs = c.as_slice-field-items.result.now in
    let x = c.field-item.result in
    (all_at (AreNames c.args.text.now) xs c.loop-field.field-index x (subst (AllByRecursion (AreNames c.args.text.now)) (sym c.as_slice-field-items.ensures) c.requires.names)
    (slice_get-get_or xs c.loop-field.field-index x c.loop-field-test.true ∙ ap Some (sym c.field-item.is))).0

pub sort_of-requires : goal.sort_of-requires
sort_of-requires c =
    let xs = c.as_slice-field-items.result.now in
    let x = c.field-item.result in
    record {
      names = (all_at (AreNames c.args.text.now) xs c.loop-field.field-index x (subst (AllByRecursion (AreNames c.args.text.now)) (sym c.as_slice-field-items.ensures) c.requires.names)
          (slice_get-get_or xs c.loop-field.field-index x c.loop-field-test.true ∙ ap Some (sym c.field-item.is))).1;
    }

pub loop-field-init : goal.loop-field-init
loop-field-init c before own arity e = so_far_start c.args.text.now before c.args.ground.now own arity c.as_slice-field-items.result.now c.args.passing.now c.args.known.now e

pub returns-then-is_some-clause-fault : goal.returns-then-is_some-clause-fault
returns-then-is_some-clause-fault c before own arity e =
    let text = c.args.text.now in
    let xs = c.as_slice-field-items.result.now in
    let x = c.field-item.result in
    let name = c.name_at-name.ensures in
    let shows : c.in_ok-twice.field-0 ≡ twice text x.name = c.in_ok-twice.ensures ∙ ap (λ (n : List ℕ). fault.Twice n x.name.from x.name.to) name in
    subst (λ (ys : List TypedName). IsHalted (declares_fields text before c.args.ground.now own arity ys) c.args.passing.now c.in_ok-twice.field-0) c.as_slice-field-items.ensures
    (subst (λ (k : TypeFault). IsHalted (declares_fields text before c.args.ground.now own arity xs) c.args.passing.now k) (sym shows)
    (so_far_twice text before c.args.ground.now own arity xs c.args.passing.now c.loop-field.passing c.loop-field.known c.loop-field.field-index x c.name_at-name.result.now
    (c.loop-field.invariant before own arity e) c.loop-field-test.true c.field-item.is name (search arith)))

pub returns-in-Err-clause-fault : goal.returns-in-Err-clause-fault
returns-in-Err-clause-fault c before own arity e =
    let text = c.args.text.now in
    let xs = c.as_slice-field-items.result.now in
    let x = c.field-item.result in
    subst (λ (ys : List TypedName). IsHalted (declares_fields text before c.args.ground.now own arity ys) c.args.passing.now c.in-Err.fault) c.as_slice-field-items.ensures
    (so_far_fails text before c.args.ground.now own arity xs c.args.passing.now c.loop-field.passing c.loop-field.known c.loop-field.field-index x c.name_at-name.result.now
    (c.loop-field.invariant before own arity e) c.loop-field-test.true c.field-item.is c.name_at-name.ensures (search arith) c.in-Err.fault (c.in-Err.ensures.fault []))

pub loop-field-preserved : goal.loop-field-preserved
loop-field-preserved c before own arity e =
    let text = c.args.text.now in
    let xs = c.as_slice-field-items.result.now in
    let x = c.field-item.result in
    so_far_next text before c.args.ground.now own arity xs c.args.passing.now c.loop-field.passing c.loop-field.known c.loop-field.field-index x c.name_at-name.result.now
    (c.loop-field.invariant before own arity e) c.loop-field-test.true c.field-item.is c.name_at-name.ensures (search arith) c.sort_of.new.passing c.in-Ok.sort c.push_field.new.self
    (c.in-Ok.ensures.sort [])
    (λ got h. c.in_ok-push_field-in-Ok.ensures.field before own arity got h
    ∙ ap (λ (n : List ℕ). with_types before (record_entry own arity (got ++ record { name = n; sort = c.in-Ok.sort } ∷ []) ∷ [])) c.in_ok-word-in-Ok.ensures)

pub returns-clause-declared : goal.returns-clause-declared
returns-clause-declared c before own arity e =
    let text = c.args.text.now in
    let xs = c.as_slice-field-items.result.now in
    subst (λ (ys : List TypedName). IsTaken (declares_fields text before c.args.ground.now own arity ys) c.args.passing.now c.loop-field.passing (only_declared c.loop-field.known)) c.as_slice-field-items.ensures
    (so_far_end text before c.args.ground.now own arity xs c.args.passing.now c.loop-field.passing c.loop-field.known c.loop-field.field-index (omega (arith, c.loop-field-test.false))
    (c.loop-field.invariant before own arity e))
