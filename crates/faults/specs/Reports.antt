-- What each fault tells. Assumes nothing.
use Rattle.std.specs.Prelude.{ℕ, Some, None, Option}
use Rattle.curves.specs.declared.bank.CurveFault.{CurveFault}
use Rattle.hooks.specs.declared.bank.HookFault.{HookFault}
use Rattle.hooks.specs.declared.bank.HookFault.TheVariants as hook
use Rattle.tokens.specs.declared.bank.TokenFault.{TokenFault}
use Rattle.faults.specs.declared.cause.Cause.{Cause}
use Rattle.faults.specs.declared.cause.Cause.TheVariants as cause
use Rattle.faults.specs.declared.cause.VaultFault.{VaultFault}
use Rattle.faults.specs.declared.report.Layer.{Layer}
use Rattle.faults.specs.declared.report.Layer.TheVariants as layer
use Rattle.faults.specs.declared.report.Report.{Report}

abbrev pub number_of : Cause → ℕ
number_of cause.Session = 3
number_of cause.Locked = 4
number_of cause.NoFrame = 5
number_of cause.FrameOpen = 6
number_of cause.FramesFull = 7
number_of cause.Account = 8
number_of cause.Currency = 9
number_of cause.Pool = 10
number_of cause.CurveOrHook = 11
number_of cause.Choice = 12
number_of cause.Amount = 13
number_of cause.Hops = 14
number_of cause.CurrencyOrder = 15
number_of cause.PoolExists = 16
number_of cause.PoolsFull = 17
number_of cause.SameAccount = 18
number_of cause.Steps = 19
number_of cause.Shares = 20
number_of cause.SharesShort = 21
number_of (cause.Curve e) = 23
number_of cause.Nothing = 24
number_of (cause.Hook e) = 25
number_of cause.NoRight = 26
number_of cause.ClaimShort = 27
number_of cause.OtherDelta = 28
number_of cause.Mark = 29
number_of (cause.Token e) = 30
number_of cause.Full = 31
number_of cause.DeltaOpen = 33

abbrev pub layer_of : Cause → Layer
layer_of cause.Session = layer.Vault
layer_of cause.Locked = layer.Vault
layer_of cause.NoFrame = layer.Vault
layer_of cause.FrameOpen = layer.Vault
layer_of cause.FramesFull = layer.Vault
layer_of cause.Account = layer.Vault
layer_of cause.Currency = layer.Vault
layer_of cause.Pool = layer.Vault
layer_of cause.CurveOrHook = layer.Vault
layer_of cause.Choice = layer.Vault
layer_of cause.Amount = layer.Vault
layer_of cause.Hops = layer.Vault
layer_of cause.CurrencyOrder = layer.Vault
layer_of cause.PoolExists = layer.Vault
layer_of cause.PoolsFull = layer.Vault
layer_of cause.SameAccount = layer.Vault
layer_of cause.Steps = layer.Vault
layer_of cause.Shares = layer.Vault
layer_of cause.SharesShort = layer.Vault
layer_of (cause.Curve e) = layer.Curve
layer_of cause.Nothing = layer.Vault
layer_of (cause.Hook e) = layer.Hook
layer_of cause.NoRight = layer.Vault
layer_of cause.ClaimShort = layer.Vault
layer_of cause.OtherDelta = layer.Vault
layer_of cause.Mark = layer.Vault
layer_of (cause.Token e) = layer.Token
layer_of cause.Full = layer.Vault
layer_of cause.DeltaOpen = layer.Vault

-- the reason of a denial
abbrev pub denial : HookFault → Option ℕ
denial hook.Unknown = None
denial (hook.Denied reason) = Some reason
denial hook.Illegal = None

abbrev pub reason_of : Cause → Option ℕ
reason_of cause.Session = None
reason_of cause.Locked = None
reason_of cause.NoFrame = None
reason_of cause.FrameOpen = None
reason_of cause.FramesFull = None
reason_of cause.Account = None
reason_of cause.Currency = None
reason_of cause.Pool = None
reason_of cause.CurveOrHook = None
reason_of cause.Choice = None
reason_of cause.Amount = None
reason_of cause.Hops = None
reason_of cause.CurrencyOrder = None
reason_of cause.PoolExists = None
reason_of cause.PoolsFull = None
reason_of cause.SameAccount = None
reason_of cause.Steps = None
reason_of cause.Shares = None
reason_of cause.SharesShort = None
reason_of (cause.Curve e) = None
reason_of cause.Nothing = None
reason_of (cause.Hook e) = denial e
reason_of cause.NoRight = None
reason_of cause.ClaimShort = None
reason_of cause.OtherDelta = None
reason_of cause.Mark = None
reason_of (cause.Token e) = None
reason_of cause.Full = None
reason_of cause.DeltaOpen = None

-- a fault of the vault has no hop
abbrev pub report_of : VaultFault → Report
report_of f = record { number = number_of f.cause; layer = layer_of f.cause; hop = None; pool = f.pool; reason = reason_of f.cause }

abbrev pub unplaced : Cause → VaultFault
unplaced c = record { cause = c; pool = None }

abbrev pub placed : Cause → ℕ → VaultFault
placed c p = record { cause = c; pool = Some p }

abbrev pub by_curve : CurveFault → Cause
by_curve e = cause.Curve e

abbrev pub by_hook : HookFault → Cause
by_hook e = cause.Hook e

abbrev pub by_token : TokenFault → VaultFault
by_token e = unplaced (cause.Token e)
