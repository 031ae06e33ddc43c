pub mod Choices
pub mod Decision
pub mod IsProblem
pub mod Place
pub mod ProblemOf
pub mod Pruned
pub mod TablesOf
