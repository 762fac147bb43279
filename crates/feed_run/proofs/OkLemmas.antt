-- What holds of a result.
use Rattle.std.proofs.Common.{Result, Ok, Err}
use Rattle.std.specs.Prelude.{IfOk, OnErr}

pub if_ok_more : {T E : Type 0} (P Q : T → Type 0) (result : Result T E) → ((value : T) → P value → Q value) → IfOk result P → IfOk result Q
if_ok_more P Q (Ok value) more holds = more value holds
if_ok_more P Q (Err error) more holds = tt

pub on_err : {T E Q : Type 0} (result : Result T E) → Q → OnErr result Q
on_err (Ok value) holds = tt
on_err (Err error) holds = holds
