pub mod LawfulTasks
