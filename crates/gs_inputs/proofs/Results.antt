-- A result is one thing.
use Rattle.std.proofs.Common.{◌≡◌, Result, Ok, Err}
use Rattle.gs_cli.specs.Answers.{Answer}

pub one_value : {T : Type 0} (read : Result T Answer) (a b : T) → read ≡ Ok a → read ≡ Ok b → a ≡ b
one_value read a b one other = cc

pub no_refusal : {T : Type 0} (read : Result T Answer) (a : T) (stop : Answer) → read ≡ Ok a → read ≡ Err stop → ⊥
no_refusal read a stop one other = cc
