use Rattle.std.proofs.Common.{rules, length, ◌<◌, ◌∷◌, [], sym, subst, take, map}
use Rattle.std.proofs.lemmas.List.{map_more}
use Rattle.ae_goal_names.specs.Named.{HasNamed}
use Rattle.ae_goal_names.proofs.Joining.{none_named, both_named}
use Rattle.ae_choice_clauses.specs.Inner.Added.{constant}
use Rattle.ae_choice_clauses.proofs.adding.name_constructors.Goals as goal

pub loop-head-init : goal.loop-head-init
loop-head-init c = none_named c.args.store.now

pub loop-head-preserved : goal.loop-head-preserved
loop-head-preserved c =
    let h : c.loop-head.head-index < length c.args.heads.now = search rules in
    let hs = c.args.heads.now in
    subst (HasNamed c.args.store.now c.name_constructor.new.store) (sym (map_more constant hs c.loop-head.head-index _ h))
    (both_named c.args.store.now c.loop-head.store c.name_constructor.new.store (map constant (take c.loop-head.head-index hs)) (constant _ ∷ []) c.loop-head.invariant c.in_ok-name_constructor.ensures)
