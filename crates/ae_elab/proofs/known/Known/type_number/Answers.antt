use Rattle.std.proofs.Common.{rules, ◌≡◌, ◌∙◌, sym, ap}
use Rattle.std.specs.Str.{bytes_eq}
use Rattle.ae_elab.specs.Scope.{first_place, type_number}
use Rattle.ae_elab.proofs.IndexLaws.{first_of_map}
use Rattle.ae_elab.proofs.known.Known.type_number.Goals as goal

pub returns : goal.returns
returns c =
    let view : c.self.inside.signature ≡ c.args.self.now = search rules in
    c.number_of.ensures
    ∙ ap (first_place (bytes_eq c.args.name.now)) (sym c.self.invariant.0)
    ∙ sym (first_of_map (bytes_eq c.args.name.now) (λ e. e.name) c.self.inside.signature.types)
    ∙ ap (λ sig. type_number sig c.args.name.now) view
