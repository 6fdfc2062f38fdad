use Rattle.std.specs.Prelude.{ℕ, [], IfOk}
use Rattle.std.proofs.Common.{sym, ap, ◌∙◌, subst}
use Rattle.ae_store.specs.Shapes.{shapes}
use Rattle.ae_store.specs.Terms.{terms}
use Rattle.ae_store.proofs.PartLaws.{in_none}
use Rattle.ae_just.specs.declared.steps.Side.TheVariants as side
use Rattle.ae_state_steps.specs.ValueSteps.{StatesEqual}
use Rattle.ae_value_table.specs.declared.patterns.Pattern.{Pattern}
use Rattle.ae_equal_steps.specs.Inner.Parts.{name_of}
use Rattle.ae_equal_steps.specs.Inner.Pairs.{IsPair}
use Rattle.ae_equal_steps.proofs.Adding.{equal_added, rests_on, front_added}
use Rattle.ae_equal_steps.proofs.Alike.{known_alike, held_name, held_pair}
use Rattle.ae_equal_steps.proofs.equal.equal_step.Goals as goal

-- ---- one name
pub returns-then-left-right-clause-states : goal.returns-then-left-right-clause-states
returns-then-left-right-clause-states c =
    subst (λ (n : ℕ). IfOk c.state_itself.result (λ id. StatesEqual c.state_itself.new.justs id c.args.left n)) c.if-left-right.true
    (equal_added c.args.justs.now c.state_itself.new.justs c.args.left c.args.left [] c.state_itself.result c.state_itself.ensures.added)

pub returns-then-left-right-clause-rests : goal.returns-then-left-right-clause-rests
returns-then-left-right-clause-rests c =
    let old = c.args.justs.now in
    rests_on old c.state_itself.new.justs (side.Name c.args.left) (side.Name c.args.left) [] c.args.store.now.signature (terms (shapes c.args.store.now.nodes)) old c.args.values.now c.state_itself.result c.state_itself.ensures.added c.state_itself.ensures.fits
    (λ p m. absurd (in_none p m))

pub returns-then-left-right-clause-front : goal.returns-then-left-right-clause-front
returns-then-left-right-clause-front c =
    front_added c.args.justs.now c.state_itself.new.justs (side.Name c.args.left) (side.Name c.args.left) [] c.state_itself.result c.state_itself.ensures.added c.state_itself.ensures.err

-- ---- two names
pub pattern_of-first-requires : goal.pattern_of-first-requires
pattern_of-first-requires c = let a = known_alike c.args.values.now c.args.left c.args.right c.if-left-right.false c.requires.alike in (a.first, a.first_there)

pub pattern_of-second-requires : goal.pattern_of-second-requires
pattern_of-second-requires c = let a = known_alike c.args.values.now c.args.left c.args.right c.if-left-right.false c.requires.alike in (a.second, a.second_there)

pub equal_patterns-requires-clause-held : goal.equal_patterns-requires-clause-held
equal_patterns-requires-clause-held c = record { store = c.len-names.ensures.store; fits = c.requires.fits; patterns = c.requires.patterns; values = c.requires.values; said = c.requires.said }

pub equal_patterns-requires-clause-pair : goal.equal_patterns-requires-clause-pair
equal_patterns-requires-clause-pair c =
    let s = c.args.store.now in
    let v = c.args.values.now in
    let a = known_alike v c.args.left c.args.right c.if-left-right.false c.requires.alike in
    subst (λ (p : Pattern). IsPair c.args.store.now.signature (terms (shapes c.args.store.now.nodes)) v p c.pattern_of-second.result.now) (c.pattern_of-first.ensures a.first a.first_there)
    (subst (IsPair c.args.store.now.signature (terms (shapes c.args.store.now.nodes)) v a.first.pattern) (c.pattern_of-second.ensures a.second a.second_there)
    (held_pair s.signature s.nodes v c.len-names.ensures.store c.requires.patterns c.requires.values c.args.left c.args.right a c.requires.left_sorted c.requires.right_sorted))

pub returns-clause-states : goal.returns-clause-states
returns-clause-states c =
    let s = c.args.store.now in
    let v = c.args.values.now in
    let a = known_alike v c.args.left c.args.right c.if-left-right.false c.requires.alike in
    let j = c.equal_patterns.new.justs in
    let q = c.pattern_of-second.result.now in
    let first = ap name_of (sym (c.pattern_of-first.ensures a.first a.first_there)) ∙ held_name s.signature s.nodes v c.len-names.ensures.store c.requires.patterns c.requires.values c.args.left a.first a.first_there c.requires.left_sorted in
    let second = ap name_of (sym (c.pattern_of-second.ensures a.second a.second_there)) ∙ held_name s.signature s.nodes v c.len-names.ensures.store c.requires.patterns c.requires.values c.args.right a.second a.second_there c.requires.right_sorted in
    subst (λ (m : ℕ). IfOk c.equal_patterns.result (λ id. StatesEqual j id m c.args.right)) first (subst (λ (n : ℕ). IfOk c.equal_patterns.result (λ id. StatesEqual j id (name_of c.pattern_of-first.result.now) n)) second c.equal_patterns.ensures.states)
