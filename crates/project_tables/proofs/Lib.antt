pub mod PlanSteps
pub mod PlannedFacts
