use Rattle.std.proofs.Common.{arith, ◌≡◌, ◌∙◌, ℕ, ◌+◌, true, false, List, [], ◌∷◌, ◌++◌, Some, map, drop, sym, ap, subst}
use Rattle.std.specs.List.{AllByRecursion}
use Rattle.std.specs.Option.{is_some}
use Rattle.std.specs.Str.{bytes_eq}
use Rattle.std.proofs.lemmas.List.{drop_more, drop_all, map-append}
use Rattle.std.proofs.lemmas.Option.{slice_get-get_or}
use Rattle.ae_base.proofs.AllOf.{all_append, all_at}
use Rattle.ae_declaration_typing.proofs.FormalLaws.{Formals, formals_start, formal_twice, formal_sortless, formal_done, formals_whole}
use Rattle.ae_elab.specs.declared.faults.TypeFault.{TypeFault}
use Rattle.ae_elab.specs.declared.faults.TypeFault.TheVariants as fault
use Rattle.ae_elab.specs.declared.typings.Bound as code
use Rattle.ae_elab.specs.Declarations.{formals_rule, twice}
use Rattle.ae_elab.specs.Formulas.{Bound}
use Rattle.ae_elab.specs.Names.{IsName, names_in_typed}
use Rattle.ae_elab.specs.Scope.{first_place}
use Rattle.ae_elab.specs.Steps.{IsStopped}
use Rattle.ae_elab.specs.Typings.{bound_in}
use Rattle.ae_syntax.specs.declared.decls.TypedName.{TypedName}
use Rattle.ae_declaration_typing.proofs.formals.formals_of.Goals as goal

abbrev AreNames : List ℕ → TypedName → Type 0
AreNames text x = AllByRecursion (IsName text) (names_in_typed x)

pub loop-formal-init : goal.loop-formal-init
loop-formal-init c =
    let text = c.args.context.now.text.now in
    let sig = c.args.context.now.known in
    let p = c.args.passing.now in
    let xs = c.args.formals.now in
    record {
      bounds = λ m. subst (λ (bs : List code.Bound). Formals text sig xs m p p (map (bound_in text) bs) c.new-seen.result xs) (sym c.new-bounds.ensures)
          (subst (λ (ns : List (List ℕ)). Formals text sig xs m p p [] ns xs) (sym c.new-seen.ensures) (formals_start text sig xs m p));
      names = subst (λ (bs : List code.Bound). AllByRecursion (λ b. IsName text b.name) bs) (sym c.new-bounds.ensures) tt;
    }

pub name_at-name-requires : goal.name_at-name-requires
name_at-name-requires c =
    let xs = c.args.formals.now in
    let x = c.formal-item.result in
    (all_at (AreNames c.args.context.now.text.now) xs c.loop-formal.formal-index x c.requires.names (slice_get-get_or xs c.loop-formal.formal-index x c.loop-formal-test.true ∙ ap Some (sym c.formal-item.is))).0

pub sort_of-requires : goal.sort_of-requires
sort_of-requires c =
    let xs = c.args.formals.now in
    let x = c.formal-item.result in
    record { names = (all_at (AreNames c.args.context.now.text.now) xs c.loop-formal.formal-index x c.requires.names (slice_get-get_or xs c.loop-formal.formal-index x c.loop-formal-test.true ∙ ap Some (sym c.formal-item.is))).1 }

pub returns-then-is_some-clause-fault : goal.returns-then-is_some-clause-fault
returns-then-is_some-clause-fault c m =
    let text = c.args.context.now.text.now in
    let sig = c.args.context.now.known in
    let p = c.args.passing.now in
    let xs = c.args.formals.now in
    let x = c.formal-item.result in
    let i = c.loop-formal.formal-index in
    let seen = c.loop-formal.seen in
    let done = map (bound_in text) c.loop-formal.bounds in
    let name = c.name_at-name.ensures in
    let here : Formals text sig xs m p c.loop-formal.passing done seen (x ∷ drop (i + 1) xs) =
    subst (λ (rest : List TypedName). Formals text sig xs m p c.loop-formal.passing done seen rest) (drop_more xs i x c.loop-formal-test.true
    ∙ ap (λ (z : TypedName). z ∷ drop (i + 1) xs) (sym c.formal-item.is)) (c.loop-formal.invariant.bounds m) in
    let shows : c.in_ok-twice.field-0 ≡ twice text x.name = c.in_ok-twice.ensures ∙ ap (λ (n : List ℕ). fault.Twice n x.name.from x.name.to) name in
    let stands : is_some (first_place (bytes_eq c.name_at-name.result.now) seen) ≡ true = search arith in
    subst (λ (k : TypeFault). IsStopped (formals_rule text sig [] xs) m p k) (sym shows)
    (formal_twice text sig xs m p c.loop-formal.passing done seen x (drop (i + 1) xs) here (ap (λ (n : List ℕ). is_some (first_place (bytes_eq n) seen)) (sym name) ∙ stands))

pub returns-in-Err-clause-fault : goal.returns-in-Err-clause-fault
returns-in-Err-clause-fault c m =
    let text = c.args.context.now.text.now in
    let sig = c.args.context.now.known in
    let p = c.args.passing.now in
    let xs = c.args.formals.now in
    let x = c.formal-item.result in
    let i = c.loop-formal.formal-index in
    let seen = c.loop-formal.seen in
    let done = map (bound_in text) c.loop-formal.bounds in
    let name = c.name_at-name.ensures in
    let here : Formals text sig xs m p c.loop-formal.passing done seen (x ∷ drop (i + 1) xs) =
    subst (λ (rest : List TypedName). Formals text sig xs m p c.loop-formal.passing done seen rest) (drop_more xs i x c.loop-formal-test.true
    ∙ ap (λ (z : TypedName). z ∷ drop (i + 1) xs) (sym c.formal-item.is)) (c.loop-formal.invariant.bounds m) in
    let new : is_some (first_place (bytes_eq c.name_at-name.result.now) seen) ≡ false = search arith in
    formal_sortless text sig xs m p c.loop-formal.passing done seen x (drop (i + 1) xs) here (ap (λ (n : List ℕ). is_some (first_place (bytes_eq n) seen)) (sym name) ∙ new) c.in-Err.fault (c.in-Err.ensures.fault [] m)

pub loop-formal-preserved : goal.loop-formal-preserved
loop-formal-preserved c =
    let text = c.args.context.now.text.now in
    let sig = c.args.context.now.known in
    let p = c.args.passing.now in
    let xs = c.args.formals.now in
    let x = c.formal-item.result in
    let i = c.loop-formal.formal-index in
    let seen = c.loop-formal.seen in
    let done = map (bound_in text) c.loop-formal.bounds in
    let name = c.name_at-name.ensures in
    let new : is_some (first_place (bytes_eq c.name_at-name.result.now) seen) ≡ false = search arith in
    let b : code.Bound = record { name = x.name; number = c.in_ok-number-in-Ok.number; sort = c.in-Ok.sort } in
    let more = c.in_ok-push-in-Ok-2.ensures.ok in
    record {
      bounds = λ m. (let here : Formals text sig xs m p c.loop-formal.passing done seen (x ∷ drop (i + 1) xs) =
          subst (λ (rest : List TypedName). Formals text sig xs m p c.loop-formal.passing done seen rest) (drop_more xs i x c.loop-formal-test.true
          ∙ ap (λ (z : TypedName). z ∷ drop (i + 1) xs) (sym c.formal-item.is)) (c.loop-formal.invariant.bounds m) in
          subst (λ (bs : List Bound). Formals text sig xs m p c.fresh.new.self bs c.push.new.self (drop (i + 1) xs))
          (sym (ap (map (bound_in text)) more ∙ map-append (bound_in text) c.loop-formal.bounds (b ∷ [])))
          (formal_done text sig xs m p c.loop-formal.passing done seen x (drop (i + 1) xs) here (ap (λ (n : List ℕ). is_some (first_place (bytes_eq n) seen)) (sym name) ∙ new)
          c.sort_of.new.passing c.fresh.new.self c.in-Ok.sort c.in_ok-number-in-Ok.number (c.in-Ok.ensures.sort [] m) c.in_ok-number-in-Ok.ensures c.push.new.self
          (c.in_ok-push-in-Ok.ensures.names ∙ ap (λ (n : List ℕ). seen ++ n ∷ []) name)));
      names = subst (λ (bs : List code.Bound). AllByRecursion (λ b. IsName text b.name) bs) (sym more)
          (all_append (λ (z : code.Bound). IsName text z.name) c.loop-formal.bounds (b ∷ []) c.loop-formal.invariant.names
          ((all_at (AreNames text) xs i x c.requires.names (slice_get-get_or xs i x c.loop-formal-test.true ∙ ap Some (sym c.formal-item.is))).0, tt));
    }

pub returns-clause-names : goal.returns-clause-names
returns-clause-names c = c.loop-formal.invariant.names

pub returns-clause-bounds : goal.returns-clause-bounds
returns-clause-bounds c m =
    let text = c.args.context.now.text.now in
    let sig = c.args.context.now.known in
    let xs = c.args.formals.now in
    let done = map (bound_in text) c.loop-formal.bounds in
    formals_whole text sig xs m c.args.passing.now c.loop-formal.passing done c.loop-formal.seen
    (subst (λ (rest : List TypedName). Formals text sig xs m c.args.passing.now c.loop-formal.passing done c.loop-formal.seen rest) (drop_all c.loop-formal.formal-index xs (omega (arith, c.loop-formal-test.false)))
    (c.loop-formal.invariant.bounds m))
