-- What passages and faults print. Assumes nothing.
use Rattle.std.specs.Prelude.{ℕ, List, ◌++◌, codes, decimal}
use Rattle.hooks.specs.declared.passage.Passage.{Passage}
use Rattle.hooks.specs.declared.bank.HookFault.{HookFault}
use Rattle.hooks.specs.declared.bank.HookFault.TheVariants.{Unknown, Denied, Illegal}

abbrev pub passage_text : Passage → List ℕ
passage_text p = codes "hook " ++ (decimal p.hook ++ (codes " of " ++ (decimal p.input ++ (codes " in and " ++ (decimal p.output ++ codes " out")))))

abbrev pub hook_fault_text : HookFault → List ℕ
hook_fault_text Unknown = codes "refused: no such hook"
hook_fault_text (Denied reason) = codes "denied, with reason " ++ decimal reason
hook_fault_text Illegal = codes "refused: the hook has no such number"
