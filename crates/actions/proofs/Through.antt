-- A test in front of an outcome: what holds of every refusal, and of the rest where the test passes, holds of both. Assumes nothing.
use Rattle.std.proofs.Common.{◌≡◌, Bool, true, false, refl}
use Rattle.faults.specs.declared.cause.Cause.{Cause}
use Rattle.faults.specs.declared.cause.VaultFault.{VaultFault}
use Rattle.faults.specs.Reports.{unplaced}
use Rattle.store.specs.Outcome.{Outcome, refused, need}

pub through : {A : Type 0} (P : Outcome A → Type 0) → ((f : VaultFault) → P (refused f)) → (b : Bool) (cause : Cause) (rest : Outcome A) → (b ≡ true → P rest) → P (need b cause rest)
through P none true cause rest passed = passed refl
through P none false cause rest passed = none (unplaced cause)
