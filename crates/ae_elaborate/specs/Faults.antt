-- Why a file has no problem.
use Rattle.std.specs.Prelude.{ℕ, List}
use Rattle.ae_elab.specs.declared.faults.TypeFault.{TypeFault}
use Rattle.ae_elab.specs.declared.faults.TypeFault.TheVariants as fault
use Rattle.ae_elab.specs.Problems.{IsTypeFault}
use Rattle.ae_syntax.specs.declared.decls.File.{File}

-- this is the file's fault; want of memory says nothing
abbrev pub IsFault : List ℕ → File → TypeFault → Type 0
IsFault text file (fault.Memory e) = Unit {0}
IsFault text file e = IsTypeFault text file e
