-- What faults print. Assumes nothing.
use Rattle.std.specs.Prelude.{ℕ, List, [], ◌++◌, Some, None, Option}
use Rattle.std.specs.Fmt.{decimal}
use Rattle.faults.specs.declared.report.Layer.{Layer}
use Rattle.faults.specs.declared.report.Layer.TheVariants as layer
use Rattle.faults.specs.declared.report.Report.{Report}
use lib.Chars.{codes}

abbrev pub layer_text : Layer → List ℕ
layer_text layer.Curve = codes "curve"
layer_text layer.Hook = codes "hook"
layer_text layer.Token = codes "token"
layer_text layer.Route = codes "route"
layer_text layer.Vault = codes "vault"

-- a part of a place, where the fault has it
abbrev pub part_text : List ℕ → Option ℕ → List ℕ
part_text name None = []
part_text name (Some n) = name ++ decimal n

abbrev pub report_text : Report → List ℕ
report_text r = decimal r.number ++ codes ", " ++ layer_text r.layer ++ part_text (codes ", hop ") r.hop ++ part_text (codes ", pool ") r.pool ++ part_text (codes ", reason ") r.reason
