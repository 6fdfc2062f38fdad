-- What is said of a result's value and of its error. The library has lemmas.Result (IfOk-weaker, IfErr-weaker, on_ok_weaker,
-- on_err_weaker, IfOk-from_err, IfOk-at_ok, IfOk-equal, ..).
use Rattle.std.specs.Prelude.{IfOk, Result, Ok, Err, OnOk}

pub on_ok_always : {T E P : Type 0} (r : Result T E) → P → OnOk r P
on_ok_always (Ok x) p = p
on_ok_always (Err e) p = tt

-- two facts of the value together, and one of the value with one that doesn't name it
pub if_ok_both : {T E : Type 0} (r : Result T E) (P Q R : T → Type 0) → ((x : T) → P x → Q x → R x) → IfOk r P → IfOk r Q → IfOk r R
if_ok_both (Ok x) P Q R f p q = f x p q
if_ok_both (Err e) P Q R f p q = tt

pub if_ok_on : {T E : Type 0} (r : Result T E) (P : T → Type 0) (Q : Type 0) (R : T → Type 0) → ((x : T) → P x → Q → R x) → IfOk r P → OnOk r Q → IfOk r R
if_ok_on (Ok x) P Q R f p q = f x p q
if_ok_on (Err e) P Q R f p q = tt
