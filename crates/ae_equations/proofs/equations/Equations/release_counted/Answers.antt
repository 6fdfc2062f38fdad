use Rattle.std.specs.Prelude.{ℕ, [], Option}
use Rattle.std.proofs.Common.{sym, ap, ◌∙◌, subst}
use Rattle.std.proofs.lemmas.List.{append-nil}
use Rattle.ae_pmap.specs.Forest.{present}
use Rattle.ae_monoid.specs.declared.rules.Kept.{Kept}
use Rattle.ae_monoid.specs.Rules.{rule_at}
use Rattle.ae_monoid.specs.Changes.{AreTakenOut}
use Rattle.ae_equations.specs.Held.{Contents}
use Rattle.ae_equations.specs.Queued.{waiting}
use Rattle.ae_equations.specs.Stale.{IsStale}
use Rattle.ae_equations.specs.Versions.{Lasts}
use Rattle.ae_equations.proofs.QueueLaws.{placed_as, waiting_as}
use Rattle.ae_equations.proofs.Lasting.{lasts_by, given_same}
use Rattle.ae_equations.proofs.equations.Equations.release_counted.Goals as goal

pub undo-requires-clause-rules : goal.undo-requires-clause-rules
undo-requires-clause-rules g c = (c.stale_moved.ensures.rules_last c.before-shared.result.rules (λ n. rule_at c.self.inside.rules n) c.self.inside.rules.next c.before-shared.ensures.rules).fits

pub undo-requires-clause-places : goal.undo-requires-clause-places
undo-requires-clause-places g c = (c.stale_moved.ensures.places_last c.before-shared.result.places (present c.self.inside.queue.places) c.before-shared.ensures.places).fits

pub invariant_of-self : goal.invariant_of-self
invariant_of-self g c =
    record { noted = c.self.invariant.noted; given = given_same c.self.inside.pairs c.self.inside.rules.next c.stale_moved.new.rules.next c.self.invariant.given c.stale_moved.ensures.len; placed = c.stale_moved.ensures.placed }

pub invariant_of-self-in-Err : goal.invariant_of-self-in-Err
invariant_of-self-in-Err g c =
    let kept : ℕ → Option Kept = λ n. rule_at c.self.inside.rules n in
    let rules = c.stale_moved.ensures.rules_last c.before-shared.result.rules kept c.self.inside.rules.next c.before-shared.ensures.rules in
    let places = c.stale_moved.ensures.places_last c.before-shared.result.places (present c.self.inside.queue.places) c.before-shared.ensures.places in
    record {
      noted = c.self.invariant.noted;
      given = given_same c.self.inside.pairs c.self.inside.rules.next c.undo.new.rules.next c.self.invariant.given (c.undo.ensures.len kept c.self.inside.rules.next rules);
      placed = placed_as c.self.inside.queue c.undo.new.queue c.self.invariant.placed (c.undo.ensures.places (present c.self.inside.queue.places) places) (c.undo.ensures.next ∙ c.before-shared.ensures.next);
    }

pub returns-in-Ok-clause-lasts : goal.returns-in-Ok-clause-lasts
returns-in-Ok-clause-lasts g c =
    let start : Contents = record { rules = c.self.inside.rules; pairs = c.self.inside.pairs; queue = c.self.inside.queue } in
    let now : Contents = record { rules = c.stale_moved.new.rules; pairs = c.self.inside.pairs; queue = c.stale_moved.new.queue } in
    subst (λ (r : Contents). Lasts r now) c.self.view_is
    (lasts_by start now c.stale_moved.ensures.rules_last (λ root map s. s) [] (sym (append-nil c.self.inside.pairs.links)) c.stale_moved.ensures.places_last)

pub returns-clause-err : goal.returns-clause-err
returns-clause-err g c = λ n.
    let kept : ℕ → Option Kept = λ m. rule_at c.self.inside.rules m in
    let rules = c.stale_moved.ensures.rules_last c.before-shared.result.rules kept c.self.inside.rules.next c.before-shared.ensures.rules in
    c.undo.ensures.rules kept c.self.inside.rules.next rules n ∙ ap (λ (r : Contents). rule_at r.rules n) c.self.view_is

pub returns-clause-err_waiting : goal.returns-clause-err_waiting
returns-clause-err_waiting g c =
    let places = c.stale_moved.ensures.places_last c.before-shared.result.places (present c.self.inside.queue.places) c.before-shared.ensures.places in
    waiting_as c.self.inside.queue c.undo.new.queue (c.undo.ensures.places (present c.self.inside.queue.places) places) ∙ ap (λ (r : Contents). waiting r.queue) c.self.view_is

pub returns-clause-len : goal.returns-clause-len
returns-clause-len g c =
    let kept : ℕ → Option Kept = λ m. rule_at c.self.inside.rules m in
    let rules = c.stale_moved.ensures.rules_last c.before-shared.result.rules kept c.self.inside.rules.next c.before-shared.ensures.rules in
    c.undo.ensures.len kept c.self.inside.rules.next rules ∙ ap (λ (r : Contents). r.rules.next) c.self.view_is

pub returns-clause-lasts : goal.returns-clause-lasts
returns-clause-lasts g c =
    let start : Contents = record { rules = c.self.inside.rules; pairs = c.self.inside.pairs; queue = c.self.inside.queue } in
    let now : Contents = record { rules = c.undo.new.rules; pairs = c.self.inside.pairs; queue = c.undo.new.queue } in
    subst (λ (r : Contents). Lasts r now) c.self.view_is
    (lasts_by start now (λ shared rules len s. c.undo.ensures.rules_last shared rules len (c.stale_moved.ensures.rules_last shared rules len s)) (λ root map s. s) [] (sym (append-nil c.self.inside.pairs.links))
    (λ root map s. c.undo.ensures.places_last root map (c.stale_moved.ensures.places_last root map s)))

pub returns-in-Ok-clause-pairs : goal.returns-in-Ok-clause-pairs
returns-in-Ok-clause-pairs g c =
    subst (λ (r : Contents). AreTakenOut (λ n. rule_at r.rules n) (λ n. rule_at c.stale_moved.new.rules n) (λ n. IsStale c.args.reps.now (rule_at r.rules n)) c.in-Ok.pairs) c.self.view_is c.in-Ok.ensures.pairs
