use Rattle.std.proofs.Common.{arith, ◌≡◌, ◌∙◌, ℕ, ◌+◌, List, [], ◌∷◌, ◌++◌, map, reverse, take, drop, get_or, refl, sym, ap, subst}
use Rattle.std.proofs.lemmas.List.{append_assoc, append-nil, map_push, take_more, take_all}
use Rattle.std.proofs.lemmas.Option.{slice_get-get_or}
use Rattle.ae_base.proofs.AllOf.{all_at}
use Rattle.ae_syntax.specs.declared.spans.Span.{Span}
use Rattle.ae_elab.specs.declared.faults.TypeFault.{TypeFault}
use Rattle.ae_elab.specs.declared.faults.TypeFault.TheVariants as fault
use Rattle.ae_elab.specs.Declarations.{all_different, twice}
use Rattle.ae_elab.specs.Names.{IsName}
use Rattle.ae_elab.specs.Scope.{name_in}
use Rattle.ae_elab.specs.Steps.{AreNotMet}
use Rattle.ae_elab.proofs.NameRules.{Follows, follow_start, names_next, names_stop, names_end, none_taken, different_ask}
use Rattle.ae_expressions.proofs.blocks.new_names.Goals as goal

abbrev nowhere : Span
nowhere = record { from = 0; to = 0 }

pub loop-place-init : goal.loop-place-init
loop-place-init c = record {
  follows = λ m. follow_start (all_different c.args.text.now (reverse c.args.seen.now) c.args.places.now) m;
  names = sym (append-nil c.args.seen.now);
}

pub name_at-name-requires : goal.name_at-name-requires
name_at-name-requires c =
    let xs = c.args.places.now in
    let i = c.loop-place.place-index in
    all_at (IsName c.args.text.now) xs i (get_or xs i nowhere) c.requires.names (slice_get-get_or xs i nowhere c.loop-place-test.true)

pub returns-then-is_some-clause-fault : goal.returns-then-is_some-clause-fault
returns-then-is_some-clause-fault c m =
    let text = c.args.text.now in
    let xs = c.args.places.now in
    let i = c.loop-place.place-index in
    let x = get_or xs i nowhere in
    let name = c.name_at-name.ensures in
    let whole = all_different text (reverse c.args.seen.now) xs in
    let shows : c.in_ok-twice.field-0 ≡ twice text x = c.in_ok-twice.ensures ∙ ap (λ (n : List ℕ). fault.Twice n x.from x.to) name in
    subst (λ (e : TypeFault). AreNotMet whole m e) (sym shows)
    (names_stop text none_taken (all_different text) (different_ask text) c.loop-place.seen x c.name_at-name.result.now name whole xs i nowhere m c.loop-place-test.true refl
    (c.loop-place.invariant.follows m) (search arith))

pub loop-place-preserved : goal.loop-place-preserved
loop-place-preserved c =
    let text = c.args.text.now in
    let xs = c.args.places.now in
    let i = c.loop-place.place-index in
    let x = get_or xs i nowhere in
    let whole = all_different text (reverse c.args.seen.now) xs in
    record {
      follows = λ m. subst (λ (ns : List (List ℕ)). Follows whole (all_different text (reverse ns) (drop (i + 1) xs)) m) (sym c.in_ok-push.ensures.names)
          (names_next text none_taken (all_different text) (different_ask text) c.loop-place.seen x c.name_at-name.result.now c.name_at-name.ensures whole xs i nowhere m c.loop-place-test.true refl
          (c.loop-place.invariant.follows m) (search arith));
      names = c.in_ok-push.ensures.names
          ∙ ap (λ (ns : List (List ℕ)). ns ++ c.name_at-name.result.now ∷ []) c.loop-place.invariant.names
          ∙ append_assoc c.args.seen.now (map (name_in text) (take i xs)) (c.name_at-name.result.now ∷ [])
          ∙ ap (λ (n : List ℕ). c.args.seen.now ++ (map (name_in text) (take i xs) ++ n ∷ [])) c.name_at-name.ensures
          ∙ ap (λ ns. c.args.seen.now ++ ns) (sym (map_push (name_in text) (take i xs) x))
          ∙ ap (λ ys. c.args.seen.now ++ map (name_in text) ys) (sym (take_more xs i nowhere c.loop-place-test.true));
    }

pub returns-clause-met : goal.returns-clause-met
returns-clause-met c m =
    let text = c.args.text.now in
    let xs = c.args.places.now in
    names_end text none_taken (all_different text) (λ seen. refl) (reverse c.loop-place.seen) (all_different text (reverse c.args.seen.now) xs) xs c.loop-place.place-index m (omega (arith, c.loop-place-test.false)) (c.loop-place.invariant.follows m)

pub returns-clause-names : goal.returns-clause-names
returns-clause-names c =
    c.loop-place.invariant.names ∙ ap (λ ys. c.args.seen.now ++ map (name_in c.args.text.now) ys) (take_all c.loop-place.place-index c.args.places.now (omega (arith, c.loop-place-test.false)))
