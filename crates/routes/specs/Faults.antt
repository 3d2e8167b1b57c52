-- What the faults of a route tell. Assumes nothing.
use Rattle.std.specs.Prelude.{Some, None}
use Rattle.faults.specs.declared.cause.Cause.{Cause}
use Rattle.faults.specs.declared.report.Layer.TheVariants as layer
use Rattle.faults.specs.declared.report.Report.{Report}
use Rattle.faults.specs.Reports.{report_of, unplaced}
use Rattle.routes.specs.declared.fault.RouteFault.{RouteFault}
use Rattle.routes.specs.declared.fault.RouteFault.TheVariants as route

abbrev pub report_of_route : RouteFault → Report
report_of_route (route.Whole f) = report_of f
report_of_route (route.At hop f) = record (report_of f) { hop = Some hop }
report_of_route (route.Carried hop pool) = record { number = 22; layer = layer.Route; hop = Some hop; pool = Some pool; reason = None }
report_of_route route.Least = record { number = 32; layer = layer.Route; hop = None; pool = None; reason = None }

abbrev pub whole : Cause → RouteFault
whole c = route.Whole (unplaced c)
