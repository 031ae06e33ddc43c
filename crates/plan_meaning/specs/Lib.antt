pub mod PlanRan
