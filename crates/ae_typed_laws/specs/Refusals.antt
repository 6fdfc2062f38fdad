-- What a condition of a text may be refused by.
use Rattle.ae_elab.specs.declared.faults.TypeFault.{TypeFault}
use Rattle.ae_elab.specs.declared.faults.TypeFault.TheVariants as fault

-- a fault of the typing itself: no declaration that is too large, and no want of memory
abbrev pub IsOfTyping : TypeFault → Type 0
IsOfTyping (fault.TooLarge from to) = ⊥
IsOfTyping (fault.Memory error) = ⊥
IsOfTyping _ = Unit {0}
