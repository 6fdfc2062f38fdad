-- What a call leaves that may refuse.
use Rattle.std.proofs.Common.{Result, Ok, Err, OnOk}

pub on_ok_more : {A E : Type 0} (P Q : Type 0) (r : Result A E) → OnOk r P → (P → Q) → OnOk r Q
on_ok_more P Q (Ok a) h f = f h
on_ok_more P Q (Err e) h f = tt
