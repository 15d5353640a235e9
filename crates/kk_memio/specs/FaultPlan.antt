-- The plan that a device in memory keeps.
use Rattle.kk_memio.specs.Plan.{Plan}
use Rattle.kk_memio.specs.declared.fault_plan.FaultPlan.{FaultPlan}

abbrev pub plan_of : FaultPlan → Plan
plan_of plan = record { fails = plan.fails.items; calls = plan.calls; faults = plan.faults }
