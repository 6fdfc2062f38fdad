use Rattle.std.proofs.Common.{rules, ◌≡◌, ◌∙◌, ℕ, List, Option, length, cond, sym, ap, subst, Some}
use Rattle.std.specs.BTreeMap.{get, is_at}
use Rattle.std.specs.Map.{lookup}
use Rattle.std.specs.Ordering.{is_eq, nat_cmp}
use Rattle.std.specs.Cmp.Lexicographic.{slice_cmp}
use Rattle.std.specs.Str.{bytes_eq}
use Rattle.ae_elab.specs.Scope.{first_place}
use Rattle.ae_elab.specs.Inner.Index.{IsIndex}
use Rattle.ae_elab.proofs.IndexLaws.{grown}
use Rattle.ae_elab.proofs.names.Names.push_new.Goals as goal

pub invariant_of-self-in-Ok : goal.invariant_of-self-in-Ok
invariant_of-self-in-Ok c =
    let ns = c.self.inside.names in
    let old : List ℕ → Option ℕ = get (slice_cmp nat_cmp) c.self.inside.places in
    let new : List ℕ → Option ℕ = get (slice_cmp nat_cmp) c.insert.new.self in
    let view : ns ≡ c.args.self.now = search rules in
    let u : (s : List ℕ) → new s ≡ cond (is_eq (slice_cmp nat_cmp c.args.name.now s)) (Some (length ns)) (old s) =
    λ s. c.in-Ok.ensures.updates.0 s ∙ ap (λ n. cond (is_eq (slice_cmp nat_cmp c.args.name.now s)) (Some n) (old s)) c.len-place.ensures in
    subst (λ (w : List (List ℕ)). IsIndex w new) (sym c.in_ok-push.ensures.ok)
    (grown ns c.args.name.now old new c.self.invariant (ap (λ (w : List (List ℕ)). first_place (bytes_eq c.args.name.now) w) view ∙ c.requires.new) u)

pub invariant_of-self-in-Err : goal.invariant_of-self-in-Err
invariant_of-self-in-Err c =
    let new : List ℕ → Option ℕ = get (slice_cmp nat_cmp) c.insert.new.self in
    subst (λ (w : List (List ℕ)). IsIndex w new) (sym (c.drop_last.ensures c.self.inside.names c.args.name.now c.in_ok-push.ensures.ok))
    (λ s. ap (λ es. lookup (is_at (slice_cmp nat_cmp s)) es) c.in-Err.ensures.err ∙ c.self.invariant s)
