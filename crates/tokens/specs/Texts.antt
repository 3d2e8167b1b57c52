-- What transfers and faults print. Assumes nothing.
use Rattle.std.specs.Prelude.{ℕ, List, ◌++◌, codes, decimal}
use Rattle.tokens.specs.declared.transfer.Transfer.{Transfer}
use Rattle.tokens.specs.declared.bank.TokenFault.{TokenFault}
use Rattle.tokens.specs.declared.bank.TokenFault.TheVariants.{UnknownCurrency, UnknownAccount, SameAccount, NoAmount, Short}

abbrev pub transfer_text : Transfer → List ℕ
transfer_text t = decimal t.amount ++ (codes " of currency " ++ (decimal t.currency ++ (codes " from " ++ (decimal t.from ++ (codes " to " ++ decimal t.to)))))

abbrev pub token_fault_text : TokenFault → List ℕ
token_fault_text UnknownCurrency = codes "no such currency"
token_fault_text UnknownAccount = codes "no such account"
token_fault_text SameAccount = codes "payer and payee are one account"
token_fault_text NoAmount = codes "an amount of 0"
token_fault_text Short = codes "there is not enough to take"
