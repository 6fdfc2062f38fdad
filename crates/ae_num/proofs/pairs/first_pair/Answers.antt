use Rattle.std.proofs.Common.{sym, ap, ◌∙◌, ◌≡◌, rules, drop, arith, ◌<◌, length, slice_get, Some, None}
use Rattle.std.proofs.lemmas.Option.{slice_get_within}
use Rattle.std.specs.Option.{option_copied}
use Rattle.ae_num.proofs.PairLaws.{after_left, after_right, after_less, after_greater, after_equal, taken, at_drop, IsRising-drop, place_after}
use Rattle.ae_num.proofs.pairs.first_pair.Goals as goal

pub returns-in-None-Some-clause-first : goal.returns-in-None-Some-clause-first
returns-in-None-Some-clause-first c =
    let a = c.in-None-Some in
    let ps = drop c.args.left_at c.args.left.now in
    let qs = drop c.args.right_at c.args.right.now in
    let left : slice_get ps 0 ≡ None = at_drop c.args.left_at c.args.left.now ∙ sym c.at.ensures ∙ ap option_copied a.is-0 in
    let right : slice_get qs 0 ≡ Some a.part.now = at_drop c.args.right_at c.args.right.now ∙ sym c.at-2.ensures ∙ ap option_copied a.is-1 in
    taken c.args.left.now c.args.right.now c.args.left_at c.args.right_at _ _ _ _ c.from_right.ensures
    (after_right ps qs a.part.now (IsRising-drop c.args.right_at c.args.right.now c.requires.right) left right)

pub returns-in-Some-None-clause-first : goal.returns-in-Some-None-clause-first
returns-in-Some-None-clause-first c =
    let a = c.in-Some-None in
    let ps = drop c.args.left_at c.args.left.now in
    let qs = drop c.args.right_at c.args.right.now in
    let left : slice_get ps 0 ≡ Some a.part.now = at_drop c.args.left_at c.args.left.now ∙ sym c.at.ensures ∙ ap option_copied a.is-0 in
    let right : slice_get qs 0 ≡ None = at_drop c.args.right_at c.args.right.now ∙ sym c.at-2.ensures ∙ ap option_copied a.is-1 in
    taken c.args.left.now c.args.right.now c.args.left_at c.args.right_at _ _ _ _ c.from_left.ensures
    (after_left ps qs a.part.now (IsRising-drop c.args.left_at c.args.left.now c.requires.left) left right)

pub returns-in-Less-clause-first : goal.returns-in-Less-clause-first
returns-in-Less-clause-first c =
    let a = c.in-Some-Some in
    let ps = drop c.args.left_at c.args.left.now in
    let qs = drop c.args.right_at c.args.right.now in
    let left : slice_get ps 0 ≡ Some a.part.now = at_drop c.args.left_at c.args.left.now ∙ sym c.at.ensures ∙ ap option_copied a.is-0 in
    let right : slice_get qs 0 ≡ Some a.other.now = at_drop c.args.right_at c.args.right.now ∙ sym c.at-2.ensures ∙ ap option_copied a.is-1 in
    taken c.args.left.now c.args.right.now c.args.left_at c.args.right_at _ _ _ _ c.from_left-in-Less.ensures
    (after_less ps qs a.part.now a.other.now
    (IsRising-drop c.args.left_at c.args.left.now c.requires.left)
    (IsRising-drop c.args.right_at c.args.right.now c.requires.right) left right (search rules))

pub returns-in-Greater-clause-first : goal.returns-in-Greater-clause-first
returns-in-Greater-clause-first c =
    let a = c.in-Some-Some in
    let ps = drop c.args.left_at c.args.left.now in
    let qs = drop c.args.right_at c.args.right.now in
    let left : slice_get ps 0 ≡ Some a.part.now = at_drop c.args.left_at c.args.left.now ∙ sym c.at.ensures ∙ ap option_copied a.is-0 in
    let right : slice_get qs 0 ≡ Some a.other.now = at_drop c.args.right_at c.args.right.now ∙ sym c.at-2.ensures ∙ ap option_copied a.is-1 in
    taken c.args.left.now c.args.right.now c.args.left_at c.args.right_at _ _ _ _ c.from_right-in-Greater.ensures
    (after_greater ps qs a.part.now a.other.now
    (IsRising-drop c.args.left_at c.args.left.now c.requires.left)
    (IsRising-drop c.args.right_at c.args.right.now c.requires.right) left right (search rules))

pub returns-in-Equal-clause-first : goal.returns-in-Equal-clause-first
returns-in-Equal-clause-first c =
    let a = c.in-Some-Some in
    let ps = drop c.args.left_at c.args.left.now in
    let qs = drop c.args.right_at c.args.right.now in
    let left : slice_get ps 0 ≡ Some a.part.now = at_drop c.args.left_at c.args.left.now ∙ sym c.at.ensures ∙ ap option_copied a.is-0 in
    let right : slice_get qs 0 ≡ Some a.other.now = at_drop c.args.right_at c.args.right.now ∙ sym c.at-2.ensures ∙ ap option_copied a.is-1 in
    taken c.args.left.now c.args.right.now c.args.left_at c.args.right_at _ _ _ _ c.from_both.ensures
    (after_equal ps qs a.part.now a.other.now
    (IsRising-drop c.args.left_at c.args.left.now c.requires.left)
    (IsRising-drop c.args.right_at c.args.right.now c.requires.right) left right (search rules))

pub returns-in-None-None-clause-none : goal.returns-in-None-None-clause-none
returns-in-None-None-clause-none c =
    let a = c.in-None-None in
    (place_after c.args.left.now c.args.left_at (sym c.at.ensures ∙ ap option_copied a.is-0), place_after c.args.right.now c.args.right_at (sym c.at-2.ensures ∙ ap option_copied a.is-1))

pub returns-in-None-Some-clause-right_within : goal.returns-in-None-Some-clause-right_within
returns-in-None-Some-clause-right_within c =
    let a = c.in-None-Some in
    let inside : c.args.right_at < length c.args.right.now = slice_get_within c.args.right.now c.args.right_at a.part.now (sym c.at-2.ensures ∙ ap option_copied a.is-1) in
    omega (arith, ap (λ t. t.right) c.from_right.ensures)

pub returns-in-Some-None-clause-left_within : goal.returns-in-Some-None-clause-left_within
returns-in-Some-None-clause-left_within c =
    let a = c.in-Some-None in
    let inside : c.args.left_at < length c.args.left.now = slice_get_within c.args.left.now c.args.left_at a.part.now (sym c.at.ensures ∙ ap option_copied a.is-0) in
    omega (arith, ap (λ t. t.left) c.from_left.ensures)

pub returns-in-Less-clause-left_within : goal.returns-in-Less-clause-left_within
returns-in-Less-clause-left_within c =
    let a = c.in-Some-Some in
    let inside : c.args.left_at < length c.args.left.now = slice_get_within c.args.left.now c.args.left_at a.part.now (sym c.at.ensures ∙ ap option_copied a.is-0) in
    omega (arith, ap (λ t. t.left) c.from_left-in-Less.ensures)

pub returns-in-Greater-clause-right_within : goal.returns-in-Greater-clause-right_within
returns-in-Greater-clause-right_within c =
    let a = c.in-Some-Some in
    let inside : c.args.right_at < length c.args.right.now = slice_get_within c.args.right.now c.args.right_at a.other.now (sym c.at-2.ensures ∙ ap option_copied a.is-1) in
    omega (arith, ap (λ t. t.right) c.from_right-in-Greater.ensures)

pub returns-in-Equal-clause-left_within : goal.returns-in-Equal-clause-left_within
returns-in-Equal-clause-left_within c =
    let a = c.in-Some-Some in
    let inside : c.args.left_at < length c.args.left.now = slice_get_within c.args.left.now c.args.left_at a.part.now (sym c.at.ensures ∙ ap option_copied a.is-0) in
    omega (arith, ap (λ t. t.left) c.from_both.ensures)

pub returns-in-Equal-clause-right_within : goal.returns-in-Equal-clause-right_within
returns-in-Equal-clause-right_within c =
    let a = c.in-Some-Some in
    let inside : c.args.right_at < length c.args.right.now = slice_get_within c.args.right.now c.args.right_at a.other.now (sym c.at-2.ensures ∙ ap option_copied a.is-1) in
    omega (arith, ap (λ t. t.right) c.from_both.ensures)
