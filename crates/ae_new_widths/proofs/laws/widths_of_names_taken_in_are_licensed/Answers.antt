use Rattle.ae_journal.specs.Journals.{live}
use Rattle.ae_new_widths.proofs.Licences.{width_licensed}
use Rattle.ae_new_widths.proofs.LineNumbers.{numbers_right}
use Rattle.ae_new_widths.proofs.laws.widths_of_names_taken_in_are_licensed.Goals as goal

pub returns : goal.returns
returns c x s js d wide named store entries inside closed lines below h =
    width_licensed x s js named store h.name h.within h.number h.leaf h.first
    (numbers_right s.signature s.nodes store (live js) d entries inside closed lines below c.terms_have_the_values_of_their_kinds.ensures.unsolved h.name h.within h.number h.leaf h.first
    (λ k l. (h.kept k l).0) (λ k f none st. (h.free k f none st).0)) wide h.wide
