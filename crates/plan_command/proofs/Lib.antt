pub mod PlanFacts
pub mod Printed
pub mod Steps
