use Rattle.std.proofs.Common.{rules, ◌≡◌, ◌∙◌, ℕ, List, Option, true, sym, ap, subst}
use Rattle.std.specs.BTreeMap.{get}
use Rattle.std.specs.Option.{is_some}
use Rattle.std.specs.Ordering.{nat_cmp}
use Rattle.std.specs.Cmp.Lexicographic.{slice_cmp}
use Rattle.std.specs.Str.{bytes_eq}
use Rattle.ae_elab.specs.Scope.{first_place}
use Rattle.ae_elab.specs.Inner.Index.{IsIndex}
use Rattle.ae_elab.proofs.IndexLaws.{repeated}
use Rattle.ae_elab.proofs.names.Names.push_again.Goals as goal

pub invariant_of-self-2 : goal.invariant_of-self-2
invariant_of-self-2 c =
    let ns = c.self.inside.names in
    let found : List ℕ → Option ℕ = get (slice_cmp nat_cmp) c.self.inside.places in
    let view : ns ≡ c.args.self.now = search rules in
    let stands : is_some (first_place (bytes_eq c.args.name.now) ns) ≡ true =
    ap (λ (w : List (List ℕ)). is_some (first_place (bytes_eq c.args.name.now) w)) view ∙ c.requires.stands in
    subst (λ (w : List (List ℕ)). IsIndex w found) (sym c.in_ok-push.ensures.ok) (repeated ns c.args.name.now found c.self.invariant stands)
