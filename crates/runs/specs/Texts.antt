-- What a call with its reply prints. Assumes nothing.
use Rattle.std.specs.Prelude.{ℕ, List, ◌++◌, Ok, Err, Result, codes}
use Rattle.faults.specs.declared.cause.VaultFault.{VaultFault}
use Rattle.faults.specs.Reports.{report_of}
use Rattle.faults.specs.Texts.{report_text}
use Rattle.store.specs.declared.answer.Answer.{Answer}
use Rattle.store.specs.Texts.{answer_text}
use Rattle.vault.specs.Texts.{call_text}
use Rattle.runs.specs.declared.line.Line.{Line}

abbrev pub reply_text : Result Answer VaultFault → List ℕ
reply_text (Ok answer) = codes " -> " ++ answer_text answer
reply_text (Err fault) = codes " -> refused: " ++ report_text (report_of fault)

abbrev pub line_text : Line → List ℕ
line_text l = call_text l.call ++ reply_text l.reply
